-- What the tests of certificates say.
use Rattle.std.proofs.Common.{◌≡◌, ℕ, zero, suc, ◌+◌, ◌<◌, ◌≤◌, Bool, true, false, ◌&&◌, eqb, ltb, leb, List, [], ◌∷◌, ◌++◌, map, length, ℤ, pos, ◌<ℤ◌, sym, refl, ◌∙◌, subst, inl, inr, suc-le-suc, zero-le, le_of_suc-le-suc, arith}
use Rattle.std.specs.List.{range_with_len, ContainsAt, flat_map, AllByRecursion}
use Rattle.std.proofs.lemmas.Int.{ints}
use Rattle.std.proofs.lemmas.List.Folds.{list_all-append, list_all-map}
use Rattle.std.proofs.ByRecursion.{All-weaker}
use Rattle.std.proofs.lemmas.Bool.Decides.{Decides-below_and}
use Rattle.std.proofs.lemmas.Bool.{and_parts, or_cases, both_ways, ltb-true, leb-true, eqb-true}
use Rattle.problem.specs.Rules.{Rule}
use Rattle.problem.specs.Timetables.{choices, minute}
use Rattle.problem.specs.declared.day.Day.{Day}
use Rattle.network.specs.declared.limit.Limit.{Limit}
use Rattle.search.specs.Selections.{Selection, picked, Met}
use Rattle.search.specs.Tests.{every}
use Rattle.search.proofs.Testing.{every_all, every_chosen}
use Rattle.certificates.specs.Rings.{at_horizon, Stated, Chain, total, Ring}
use Rattle.certificates.specs.Certificates.{enumerated, below, met, equal_integers, same_limit, among, stated, chained, ringed}

module _ {X : Type 0} (p : X → Bool) where
  every_parts : (xs ys : List X) → every p (xs ++ ys) ≡ true → (every p xs ≡ true) × (every p ys ≡ true)
  every_parts xs ys h = and_parts _ _ (sym (list_all-append p xs ys) ∙ h)

  -- every element of lists joined, for each number from a on
  every_joined : (f : ℕ → List X) (a k n : ℕ) → every p (flat_map f (range_with_len a k)) ≡ true → n < k → every p (f (a + n)) ≡ true
  every_joined f a zero n h l = absurd (omega arith)
  every_joined f a (suc k) zero h l =
      let e : a ≡ a + 0 = omega arith in
      subst (λ b. every p (f b) ≡ true) e (every_parts (f a) (flat_map f (range_with_len (a + 1) k)) h).0
  every_joined f a (suc k) (suc n) h l =
      let e : a + 1 + n ≡ a + suc n = omega arith in
      subst (λ b. every p (f b) ≡ true) e (every_joined f (a + 1) k n (every_parts (f a) (flat_map f (range_with_len (a + 1) k)) h).1 (le_of_suc-le-suc l))

-- what every enumerated selection passes, every selection passes
pub every_selection : (rules : List Rule) (p : List ℕ → Bool) → every p (enumerated rules) ≡ true → (ns : List ℕ) → Selection rules ns → p ns ≡ true
every_selection [] p h [] s = (and_parts (p []) true h).0
every_selection [] p h (n ∷ ns) s = absurd s
every_selection (r ∷ rules) p h [] s = absurd s
every_selection (r ∷ rules) p h (n ∷ ns) s =
    let here : every p (map (λ ks. n ∷ ks) (enumerated rules)) ≡ true =
    subst (λ b. every p (map (λ ks. b ∷ ks) (enumerated rules)) ≡ true) (let e : 0 + n ≡ n = omega arith in e)
    (every_joined p (λ m. map (λ ks. m ∷ ks) (enumerated rules)) 0 (length (choices r)) n h s.0) in
    every_selection rules (λ ks. p (n ∷ ks)) (sym (list_all-map p (λ ks. n ∷ ks) (enumerated rules)) ∙ here) ns s.1

pub below_each : (k : ℕ) (p : ℕ → Bool) → below k p ≡ true → (i : ℕ) → i < k → p i ≡ true
below_each k p = (Decides-below_and p (λ n. p n ≡ true) (λ n. below n p) (λ n. (λ h. h, λ h. h)) refl (λ _. refl) k).0

-- minutes past the list are 0
within : (h : ℕ) (ms : List ℕ) → AllByRecursion (λ m. leb m h ≡ true) ms → (i : ℕ) → minute ms i ≤ h
within h [] a i = zero-le
within h (m ∷ ms) a zero = leb-true m h a.0
within h (m ∷ ms) a (suc i) = within h ms a.1 i

pub met_true : (day : Day) (rules : List Rule) (minutes prefix : List ℕ) → met day rules minutes prefix ≡ true → Met day rules (minute minutes) prefix
met_true day rules minutes prefix h =
    let q = and_parts (eqb (minute minutes 0) 0) _ h in
    let r = and_parts (every (λ m. leb m day.horizon) minutes) _ q.1 in (
      (eqb-true _ _ q.0, λ i l. within day.horizon minutes (every_all (λ m. leb m day.horizon) minutes r.0) i),
      every_chosen (minute minutes) (picked rules prefix) r.1,
    )

equal_true : (a b : ℤ) → equal_integers a b ≡ true → a ≡ b
equal_true a b h = grind (arith, ints)

pub same_limit_true : (l k : Limit) → same_limit l k ≡ true → l ≡ k
same_limit_true l k h =
    let q = and_parts (eqb l.x k.x) _ h in
    let r = and_parts (eqb l.y k.y) _ q.1 in
    let x = eqb-true _ _ q.0 in
    let y = eqb-true _ _ r.0 in
    let b = equal_true _ _ r.1 in
    λ i. record { x = x i; y = y i; bound = b i }

among_has : (ls : List Limit) (l : Limit) → among ls l ≡ true → ContainsAt ls l
among_has [] l h = absurd (both_ways false refl h)
among_has (k ∷ ks) l h =
    elim (or_cases (same_limit k l) (among ks l) h) [
      | inl e ↦ (0, suc-le-suc zero-le, λ d. same_limit_true k l e)
      | inr e ↦ (let t = among_has ks l e in (suc t.0, suc-le-suc t.1, t.2))
    ]

stated_true : (day : Day) (ls : List Limit) (l : Limit) → stated day ls l ≡ true → Stated day ls l
stated_true day ls l h =
    elim (or_cases (among ls l) _ h) [
      | inl a ↦ inl (among_has ls l a)
      | inr o ↦ inr (elim (or_cases (ltb l.x day.events && same_limit (at_horizon day l.x) l) _ o) [
        | inl a ↦ (let q = and_parts (ltb l.x day.events) _ a in (l.x, ltb-true _ _ q.0, inl (sym (same_limit_true _ _ q.1))))
        | inr a ↦ (let q = and_parts (ltb l.y day.events) _ a in (l.y, ltb-true _ _ q.0, inr (sym (same_limit_true _ _ q.1))))
      ])
    ]

pub all_stated : (day : Day) (ls ring : List Limit) → every (stated day ls) ring ≡ true → AllByRecursion (Stated day ls) ring
all_stated day ls ring h = All-weaker _ (Stated day ls) (stated_true day ls) ring (every_all (stated day ls) ring h)

pub chained_true : (a b : ℕ) (ls : List Limit) → chained a b ls ≡ true → Chain a b ls
chained_true a b [] h = eqb-true a b h
chained_true a b (l ∷ ls) h = let q = and_parts (eqb l.y a) _ h in (eqb-true _ _ q.0, chained_true l.x b ls q.1)

pub ringed_true : (day : Day) (ls ring : List Limit) (a : ℕ) → ringed day ls ring a ≡ true → Ring day ls ring a
ringed_true day ls ring a h =
    let q = and_parts (every (stated day ls) ring) _ h in
    let r = and_parts (chained a a ring) _ q.1 in
    let negative : total ring <ℤ pos 0 = let e = r.1 in grind (arith, ints) in
    record { stated = all_stated day ls ring q.0; closed = chained_true a a ring r.0; negative = negative }
