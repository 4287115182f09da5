-- The shortest hopeless prefix, as it is looked for.
--   Beaten        a price is kept and is at most another
--   HopelessAt, HopefulAt   of a prefix, against the kept price
--   Probed        the length of the shortest hopeless prefix, or none is
use Rattle.std.specs.Prelude.{ℕ, ◌<◌, ◌≤◌, ◌⊎◌, List, length, take, Some, None, Option}
use Rattle.counting.specs.Ways.{Way, AtMost}
use Rattle.problem.specs.Rules.{Rule}
use Rattle.problem.specs.declared.day.Day.{Day}
use Rattle.search.specs.Selections.{Feasible, price}

module _ {C : Type 0} (way : Way C) where
  -- some price is kept, and it is at most c
  abbrev pub Beaten : Option C → C → Type 0
  Beaten None c = ⊥
  Beaten (Some best) c = AtMost way best c

  module _ (day : Day) (rules : List Rule) (best : Option C) where
    abbrev pub HopelessAt : List ℕ → Type 0
    HopelessAt prefix = (Feasible day rules prefix → ⊥) ⊎ Beaten best (price way rules prefix)

    abbrev pub HopefulAt : List ℕ → Type 0
    HopefulAt prefix = Feasible day rules prefix × (Beaten best (price way rules prefix) → ⊥)

    -- of the prefixes of ns
    abbrev pub Probed : List ℕ → Option ℕ → Type 0
    Probed ns None = (i : ℕ) → i ≤ length ns → HopefulAt (take i ns)
    Probed ns (Some j) = (j ≤ length ns) × HopelessAt (take j ns) × ((i : ℕ) → i < j → HopefulAt (take i ns))
