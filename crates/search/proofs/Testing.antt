-- The tests of a search say what its words say.
use Rattle.std.proofs.Common.{◌≡◌, ℕ, Bool, true, eqb, ltb, List, [], ◌∷◌, length, ℤ, ◌≤ℤ◌, refl, ap₂, inl, inr, arith}
use lib.Signed.{le_z}
use Rattle.std.specs.List.{AllByRecursion}
use Rattle.std.specs.Bool.{Decides}
use Rattle.std.proofs.ByRecursion.{Decides-by_and}
use Rattle.std.proofs.lemmas.Int.{ints}
use Rattle.std.proofs.lemmas.Bool.Decides.{Decides-and, Decides-eqb, Decides-like, Decides-ltb}
use Rattle.std.proofs.lemmas.Bool.{and_from, or_left, or_right, eq-eqb, lt-ltb}
use Rattle.problem.specs.Rules.{Rule}
use Rattle.problem.specs.Timetables.{Choice, option, give_up, choices, Chosen}
use Rattle.search.specs.Selections.{Selection, Before}
use Rattle.search.specs.Tests.{every, chosen, selects, before, same_numbers}

pub at_most : (a b : ℤ) → le_z a b ≡ true → a ≤ℤ b
at_most a b h = grind (arith, ints)

at_most_true : (a b : ℤ) → a ≤ℤ b → le_z a b ≡ true
at_most_true a b h = grind (arith, ints)

pub every_all : {X : Type 0} (p : X → Bool) (xs : List X) → every p xs ≡ true → AllByRecursion (λ x. p x ≡ true) xs
every_all p xs = (Decides-by_and p (λ x. p x ≡ true) (every p) (λ x. (λ h. h, λ h. h)) refl (λ _ _. refl) xs).0

module _ (T : ℕ → ℕ) where
  chosen_decides : (ch : Choice) → Decides (chosen T ch) (Chosen T ch)
  chosen_decides (option d) = Decides-and _ _ (at_most _ _, at_most_true _ _) (at_most _ _, at_most_true _ _)
  chosen_decides (give_up p) = (λ _. tt, λ _. refl)

  every_decides : (chs : List Choice) → Decides (every (chosen T) chs) (AllByRecursion (Chosen T) chs)
  every_decides = Decides-by_and (chosen T) (Chosen T) (every (chosen T)) chosen_decides refl (λ _ _. refl)

  pub every_chosen : (chs : List Choice) → every (chosen T) chs ≡ true → AllByRecursion (Chosen T) chs
  every_chosen chs = (every_decides chs).0

  pub chosen_every : (chs : List Choice) → AllByRecursion (Chosen T) chs → every (chosen T) chs ≡ true
  chosen_every chs = (every_decides chs).1

selects_decides : (rules : List Rule) (ns : List ℕ) → Decides (selects rules ns) (Selection rules ns)
selects_decides [] [] = (λ _. tt, λ _. refl)
selects_decides [] (n ∷ ns) = (λ h. cc, λ s. absurd s)
selects_decides (r ∷ rules) [] = (λ h. cc, λ s. absurd s)
selects_decides (r ∷ rules) (n ∷ ns) = Decides-and _ _ (Decides-ltb n (length (choices r))) (selects_decides rules ns)

pub selects_selection : (rules : List Rule) (ns : List ℕ) → selects rules ns ≡ true → Selection rules ns
selects_selection rules ns = (selects_decides rules ns).0

pub selection_selects : (rules : List Rule) (ns : List ℕ) → Selection rules ns → selects rules ns ≡ true
selection_selects rules ns = (selects_decides rules ns).1

pub before_true : (ms ns : List ℕ) → Before ms ns → before ms ns ≡ true
before_true [] ns b = absurd b
before_true (m ∷ ms) [] b = absurd b
before_true (m ∷ ms) (n ∷ ns) (inl l) = or_left (ltb m n) _ (lt-ltb m n l)
before_true (m ∷ ms) (n ∷ ns) (inr (e, b)) = or_right (ltb m n) _ (and_from (eqb m n) (before ms ns) (eq-eqb m n e) (before_true ms ns b))

pub same_numbers_decides : (ms ns : List ℕ) → Decides (same_numbers ms ns) (ms ≡ ns)
same_numbers_decides [] [] = (λ _. refl, λ _. refl)
same_numbers_decides [] (n ∷ ns) = (λ h. cc, λ e. cc)
same_numbers_decides (m ∷ ms) [] = (λ h. cc, λ e. cc)
same_numbers_decides (m ∷ ms) (n ∷ ns) =
    Decides-like _ (λ p. ap₂ ◌∷◌ p.0 p.1) (λ e. ((cc), (cc))) (Decides-and _ _ (Decides-eqb m n) (same_numbers_decides ms ns))
