-- Selections of choices, and what they mean.
--   no_choice    what stands where a rule has no such choice
--   picked       the choices that the numbers of a prefix pick, rule by rule
--   Selection    one choice for each rule, by its number
--   selections   how many selections there are
--   Before       the order of selections
--   Fit          every rule passes the checks for the day
--   Met          a timetable of the day meets every choice of a prefix
--   Feasible     some timetable does
--   price        what a prefix costs
use Rattle.std.specs.Prelude.{◌≡◌, ℕ, ◌*◌, ◌<◌, true, ◌⊎◌, List, [], ◌∷◌, map, length, fold, slice_index_or}
use Rattle.std.specs.List.{flat_map, AllByRecursion}
use Rattle.counting.specs.Ways.{Way}
use Rattle.problem.specs.Checks.{passes, rule_checks}
use Rattle.problem.specs.Costs.{choice_cost, Pairwise}
use Rattle.problem.specs.Rules.{Rule}
use Rattle.problem.specs.Timetables.{OfDay, Choice, give_up, choices, Chosen}
use Rattle.problem.specs.declared.day.Day.{Day}

-- nothing to meet and nothing to pay; no selection picks it
abbrev pub no_choice : Choice
no_choice = give_up (record { breaches = 0; points = 0 })

-- for each number the choice of that number, counted from 0, of the rule in its place
abbrev pub picked : List Rule → List ℕ → List Choice
picked [] ns = []
picked (r ∷ rules) [] = []
picked (r ∷ rules) (n ∷ ns) = slice_index_or (choices r) n no_choice ∷ picked rules ns

-- as many numbers as rules, each of a choice that its rule has
abbrev pub Selection : List Rule → List ℕ → Type 0
Selection rules ns = Pairwise (λ r n. n < length (choices r)) rules ns

-- the product of the numbers of choices
abbrev pub selections : List Rule → ℕ
selections [] = 1
selections (r ∷ rules) = length (choices r) * selections rules

-- ms has the smaller number where they first differ
abbrev pub Before : List ℕ → List ℕ → Type 0
Before [] ns = ⊥
Before (m ∷ ms) [] = ⊥
Before (m ∷ ms) (n ∷ ns) = (m < n) ⊎ ((m ≡ n) × Before ms ns)

module _ (day : Day) (rules : List Rule) where
  -- no check of any rule fails
  abbrev pub Fit : Type 0
  Fit = passes (flat_map (rule_checks day) rules) ≡ true

  -- T is a timetable of the day and meets every choice that the prefix picks
  abbrev pub Met : (ℕ → ℕ) → List ℕ → Type 0
  Met T prefix = OfDay day T × AllByRecursion (Chosen T) (picked rules prefix)

  -- some timetable of the day meets the prefix
  abbrev pub Feasible : List ℕ → Type 0
  Feasible prefix = (T : ℕ → ℕ) × Met T prefix

-- the costs of its choices, joined in rule order, beginning with zero
abbrev pub price : {C : Type 0} → Way C → List Rule → List ℕ → C
price way rules prefix = fold way.join way.zero (map (choice_cost way) (picked rules prefix))
