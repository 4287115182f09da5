-- From one selection to the next.
--   LastFrom   the choices at some places are the last of their rules
--   Raisable    the last place below another whose choice is not the last of its rule
--   raised      a selection with one choice raised, and first choices behind it
--   passed      whether a selection comes before a position
--   Advanced    the first selection behind all that begin like another
use Rattle.std.specs.Prelude.{◌≡◌, ℕ, zero, suc, ◌+◌, ◌<◌, ◌≤◌, Bool, true, ◌||◌, List, [], ◌∷◌, length, take, replicate, Some, None, Option, slice_index}
use Rattle.problem.specs.Rules.{Rule}
use Rattle.search.specs.Tests.{selects, before, same_numbers}
use Rattle.planner.specs.Choosing.{width_at, Choices}

-- at each place from i to below j the choice is the last
abbrev pub LastFrom : List Rule → List ℕ → ℕ → ℕ → Type 0
LastFrom rules ns i j = (k : ℕ) → i ≤ k → k < j → width_at rules k ≤ slice_index ns k + 1

-- place i can be raised, and none between it and j; or none below j can
abbrev pub Raisable : List Rule → List ℕ → ℕ → Option ℕ → Type 0
Raisable rules ns j (Some i) = (i < j) × (slice_index ns i + 1 < width_at rules i) × LastFrom rules ns (i + 1) j
Raisable rules ns j None = LastFrom rules ns 0 j

-- the choice at place i is the next one, and those behind it are the first ones
abbrev pub raised : ℕ → List ℕ → List ℕ
raised i [] = []
raised zero (n ∷ ns) = suc n ∷ replicate (length ns) 0
raised (suc i) (n ∷ ns) = n ∷ raised i ns

-- each does where there is no position
abbrev pub passed : Option Choices → List ℕ → Bool
passed None ns = true
passed (Some position) ns = before ns position.items

-- before the position comes what was before ns, or begins like it for j choices
pub record Advanced (rules : List Rule) (ns : List ℕ) (j : ℕ) (next : Option Choices) : Type 0 where
  pub placed : (position : Choices) → next ≡ Some position → selects rules position.items ≡ true
  pub passes : (qs : List ℕ) → selects rules qs ≡ true → passed next qs ≡ (before qs ns || same_numbers (take j qs) (take j ns))
