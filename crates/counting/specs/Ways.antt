-- What a way of counting is.
--   Way      a zero cost, the reading of a penalty, the joining of two costs, 'at most', and the showing of a cost
--   AtMost   one cost is at most another
--   Laws     what a way of counting keeps
--   shown_text   what is printed of a cost
use Rattle.std.specs.Prelude.{◌≡◌, ℕ, ◌^◌, ◌<◌, Bool, true, ◌⊎◌, List, ◌∷◌, ◌++◌}
use Rattle.std.specs.Fmt.{decimal}
use Rattle.counting.specs.declared.penalty.Penalty.{Penalty}
use Rattle.counting.specs.declared.way.Shown.{Shown}

pub record Way (C : Type 0) : Type 0 where
  pub zero : C
  pub reading : Penalty → C
  pub join : C → C → C
  pub atmost : C → C → Bool
  pub shown : C → Shown

module _ {C : Type 0} (way : Way C) where
  -- x is at most y
  abbrev pub AtMost : C → C → Type 0
  AtMost x y = way.atmost x y ≡ true

  pub record Laws : Type 0 where
    -- any two costs compare
    pub total : (x y : C) → AtMost x y ⊎ AtMost y x
    pub trans : (x y z : C) → AtMost x y → AtMost y z → AtMost x z
    -- two costs that are each at most the other are equal
    pub antisym : (x y : C) → AtMost x y → AtMost y x → x ≡ y
    pub assoc : (x y z : C) → way.join (way.join x y) z ≡ way.join x (way.join y z)
    pub comm : (x y : C) → way.join x y ≡ way.join y x
    -- joining with zero changes nothing
    pub neutral : (x : C) → way.join x way.zero ≡ x
    -- zero is at most every cost
    pub least : (x : C) → AtMost way.zero x
    -- joining one cost to both sides keeps 'at most'
    pub mono : (x y z : C) → AtMost x y → AtMost (way.join x z) (way.join y z)
    -- a cost is shown as two numbers below 2^32
    pub fits : (x : C) → ((way.shown x).first < 2 ^ 32) × ((way.shown x).second < 2 ^ 32)

-- the first number, a comma (44) and the second number
abbrev pub shown_text : Shown → List ℕ
shown_text shown = decimal shown.first ++ (44 ∷ decimal shown.second)
