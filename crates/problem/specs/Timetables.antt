-- Timetables, and what they meet.
--   OfDay       a timetable of a day
--   minute      the timetable that a list of minutes stands for
--   gap         how many minutes event x comes after event y
--   Meets       a timetable meets an option
--   Choice      an option of a rule, or giving the rule up
--   choices     the choices of a rule, in order: its options, then giving up where it is a wish
--   Chosen      a timetable meets a choice
--   Any         something holds of some element of a list
--   Satisfies   a timetable meets some choice of a rule
--   Allowed     a timetable meets some choice of every rule
use Rattle.std.specs.Prelude.{◌≡◌, ℕ, ◌<◌, ◌≤◌, ◌⊎◌, List, [], ◌∷◌, ◌++◌, map, ℤ, pos, ◌-ℤ◌, ◌≤ℤ◌, slice_index}
use Rattle.std.specs.List.{AllByRecursion}
use Rattle.counting.specs.declared.penalty.Penalty.{Penalty}
use Rattle.problem.specs.declared.constraint.Disjunct.{Disjunct}
use Rattle.problem.specs.declared.constraint.Kind.{Kind}
use Rattle.problem.specs.declared.constraint.Kind.TheVariants.{Firm, Wish}
use Rattle.problem.specs.declared.day.Day.{Day}
use Rattle.problem.specs.Rules.{Rule}

-- T gives event 0 minute 0, and each event of the day a minute up to the horizon
abbrev pub OfDay : Day → (ℕ → ℕ) → Type 0
OfDay day T = (T 0 ≡ 0) × ((i : ℕ) → i < day.events → T i ≤ day.horizon)

-- the minutes in the order of the events
abbrev pub minute : List ℕ → ℕ → ℕ
minute ms i = slice_index ms i

-- T(x) - T(y)
abbrev pub gap : (ℕ → ℕ) → ℕ → ℕ → ℤ
gap T x y = pos (T x) -ℤ pos (T y)

-- the gap from y to x is within the option's bounds
abbrev pub Meets : (ℕ → ℕ) → Disjunct → Type 0
Meets T d = (d.lo ≤ℤ gap T d.x d.y) × (gap T d.x d.y ≤ℤ d.hi)

-- what may be chosen of a rule
pub data Choice : Type 0 where
  option : Disjunct → Choice
  give_up : Penalty → Choice

-- a wish may be given up, a firm rule may not
abbrev pub giving_up : Kind → List Choice
giving_up Firm = []
giving_up (Wish p) = give_up p ∷ []

-- the options in stated order, then giving up
abbrev pub choices : Rule → List Choice
choices r = map option r.options ++ giving_up r.kind

-- every timetable meets giving up
abbrev pub Chosen : (ℕ → ℕ) → Choice → Type 0
Chosen T (option d) = Meets T d
Chosen T (give_up p) = Unit {0}

-- P of some element
abbrev pub Any : {X : Type 0} → (X → Type 0) → List X → Type 0
Any P [] = ⊥
Any P (x ∷ xs) = P x ⊎ Any P xs

-- T meets some choice of the rule
abbrev pub Satisfies : (ℕ → ℕ) → Rule → Type 0
Satisfies T r = Any (Chosen T) (choices r)

-- T meets some choice of each
abbrev pub Allowed : (ℕ → ℕ) → List Rule → Type 0
Allowed T rules = AllByRecursion (Satisfies T) rules
