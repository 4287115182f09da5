-- SUM, WORST and TIER keep the laws of a way of counting.
use Rattle.std.specs.Prelude.{◌≡◌, ℕ, ◌^◌, ◌<◌, ◌≤◌, min, refl}
use Rattle.std.proofs.Common.{inl, inr, ap, arith}
use Rattle.std.proofs.lemmas.Bool.{cases_Bool, cases_lt, le-leb, leb-true}
use Rattle.std.proofs.lemmas.Bool.Decides.{nat_tests}
use Rattle.counting.specs.Same.{same_sum, same_worst, same_tier}
use Rattle.counting.specs.Stops.{max_points, points_stop}
use Rattle.counting.specs.Three.{points_way, sum, worst, sum_way, worst_way, tier_way}
use Rattle.counting.specs.Ways.{Laws}

-- what joining numbers keeps, where none passes the stop
pub record Joining (stop : ℕ) (join : ℕ → ℕ → ℕ) : Type 0 where
  assoc : (a b c : ℕ) → a ≤ stop → b ≤ stop → c ≤ stop → min (join (min (join a b) stop) c) stop ≡ min (join a (min (join b c) stop)) stop
  comm : (a b : ℕ) → join a b ≡ join b a
  neutral : (a : ℕ) → join a 0 ≡ a
  mono : (a b c : ℕ) → a ≤ b → join a c ≤ join b c

-- a way that keeps one number, whatever its stop and its joining
module _ {C : Type 0} (number : C → ℕ) (make : ℕ → C) (stop : ℕ) (join : ℕ → ℕ → ℕ) where
  pub points_lawful : stop < 2 ^ 32 → ((x : C) → number x ≤ stop) → ((n : ℕ) → number (make n) ≡ min n stop)
      → ((x y : C) → number x ≡ number y → x ≡ y) → Joining stop join → Laws (points_way number make join)
  points_lawful small within made same joining = record {
    total = λ x y. elim (cases_lt (number x) (number y)) [ inl h ↦ inl (le-leb _ _ (omega arith)) | inr h ↦ inr (le-leb _ _ h) ];
    trans = λ x y z h i. le-leb _ _ (omega (arith, leb-true _ _ h, leb-true _ _ i));
    antisym = λ x y h i. same x y (omega (arith, leb-true _ _ h, leb-true _ _ i));
    assoc = λ x y z. same _ _ (simp made (joining.assoc _ _ _ (within x) (within y) (within z)));
    comm = λ x y. same _ _ (ap (λ n. number (make n)) (joining.comm (number x) (number y)));
    neutral = λ x. let zero : min 0 stop ≡ 0 = omega arith in same _ _ (simp (made, zero, joining.neutral) (omega (arith, within x)));
    least = λ x. le-leb _ _ (omega (arith, made 0));
    mono = λ x y z h. le-leb _ _ (omega (arith, made (join (number x) (number z)), made (join (number y) (number z)), joining.mono (number x) (number y) (number z) (leb-true _ _ h)));
    fits = λ x. (omega arith, omega (arith, within x));
  }

pub sum_lawful : Laws sum_way
sum_lawful = points_lawful _ sum points_stop _ (omega arith) (λ x. x.stops) (λ n. refl) same_sum (record {
  assoc = λ a b c h i j. omega arith;
  comm = λ a b. omega arith;
  neutral = λ a. omega arith;
  mono = λ a b c h. omega arith;
})

pub worst_lawful : Laws worst_way
worst_lawful = points_lawful _ worst max_points _ (omega arith) (λ x. x.stops) (λ n. refl) same_worst (record {
  assoc = λ a b c h i j. omega arith;
  comm = λ a b. omega arith;
  neutral = λ a. omega arith;
  mono = λ a b c h. omega arith;
})

pub tier_lawful : Laws tier_way
tier_lawful = record {
  total = λ x y. elim (cases_Bool (tier_way.atmost x y)) [ inl h ↦ inl h | inr h ↦ inr (grind (arith, nat_tests)) ];
  trans = λ x y z h i. grind (arith, nat_tests);
  antisym = λ x y h i. same_tier x y (grind (arith, nat_tests)) (grind (arith, nat_tests));
  assoc = λ x y z. same_tier _ _ (omega arith) (grind (arith, nat_tests));
  comm = λ x y. same_tier _ _ (omega arith) (grind (arith, nat_tests));
  neutral = λ x. same_tier _ _ (omega arith) (grind (arith, nat_tests));
  least = λ x. grind (arith, nat_tests);
  mono = λ x y z h. grind (arith, nat_tests);
  fits = λ x. (omega arith, omega arith);
}
