-- Solutions of a network.
use Rattle.std.proofs.Common.{◌≡◌, ℕ, ◌<◌, ◌≤◌, min, List, [], ◌∷◌, ◌++◌, length, get_or, sym, ◌∙◌, arith}
use Rattle.std.proofs.ByRecursion.{All-weaker, All-get_or, All-from_get_or, all_shuffled}
use Rattle.std.proofs.lemmas.Int.{ints}
use Rattle.std.specs.List.{AllByRecursion}
use Rattle.network.specs.Laws.{MinimumSolves, SmallestSolve, OrderIsFree, ShorterSolvable}
use Rattle.network.specs.Limits.{Lawful, Keeps, nowhere}
use Rattle.network.specs.Nets.{Net, Solves, Earliest}
use Rattle.network.specs.declared.limit.Limit.{Limit}
use Rattle.network.proofs.Taken.{lawful_x, lawful_y}

-- two facts of each element, together
all_both : {X : Type 0} (P Q : X → Type 0) (xs : List X) → AllByRecursion P xs → AllByRecursion Q xs → AllByRecursion (λ x. P x × Q x) xs
all_both P Q [] h k = tt
all_both P Q (x ∷ xs) h k = ((h.0, k.0), all_both P Q xs h.1 k.1)

-- what holds of each of a list holds of each of its first part
pub all_first : {X : Type 0} (P : X → Type 0) (xs ys : List X) → AllByRecursion P (xs ++ ys) → AllByRecursion P xs
all_first P [] ys h = tt
all_first P (x ∷ xs) ys h = (h.0, all_first P xs ys h.1)

keeps_minimum : (T U : ℕ → ℕ) (l : Limit) → Keeps T l × Keeps U l → Keeps (λ i. min (T i) (U i)) l
keeps_minimum T U l (h, k) = omega (arith, ints)

pub minimum_solves : MinimumSolves
minimum_solves m T U s t = (
  (omega (arith, s.0.0, t.0.0), λ i l. omega (arith, s.0.1 i l)),
  All-weaker (λ l. Keeps T l × Keeps U l) (Keeps (λ i. min (T i) (U i))) (keeps_minimum T U) m.limits (all_both (Keeps T) (Keeps U) m.limits s.1 t.1),
)

module _ (m : Net) (S : ℕ → ℕ) (lawful : AllByRecursion (Lawful m.day) m.limits) (least : (i : ℕ) → i < m.day.events → Earliest m i (S i)) where
  -- a solution with the smallest minute of y puts x no earlier than S does
  keeps_smallest : (k : ℕ) → k < length m.limits → Keeps S (get_or m.limits k nowhere)
  keeps_smallest k within =
      let l = get_or m.limits k nowhere in
      let good = All-get_or (Lawful m.day) m.limits k nowhere within lawful in
      let x-within = lawful_x m.day l good in
      let y-within = lawful_y m.day l good in
      let T = (least l.y y-within).reached.0 in
      let solves : Solves m T = (least l.y y-within).reached.1 in
      let same : T l.y ≡ S l.y = (least l.y y-within).reached.2 in
      let kept : Keeps T l = All-get_or (Keeps T) m.limits k nowhere within solves.1 in
      let low : S l.x ≤ T l.x = (least l.x x-within).lowest T solves in
      omega (arith, ints)

  starts : S 0 ≡ 0
  starts =
      let some = (least 0 m.day.some).reached in
      sym some.2 ∙ some.1.0.0

  ends : (i : ℕ) → i < m.day.events → S i ≤ m.day.horizon
  ends i within =
      let some = (least i within).reached in
      omega (arith, some.2, some.1.0.1 i within)

  smallest_solves : Solves m S
  smallest_solves = ((starts, ends), All-from_get_or (Keeps S) m.limits nowhere keeps_smallest)

pub smallest_solve : SmallestSolve
smallest_solve m S lawful least = smallest_solves m S lawful least

pub order_is_free : OrderIsFree
order_is_free day ls ks T same s = (s.0, all_shuffled (Keeps T) ls ks same s.1)

pub shorter_solvable : ShorterSolvable
shorter_solvable day ls ks T s = (s.0, all_first (Keeps T) ls ks s.1)
