-- Costs with equal numbers are equal.
use Rattle.std.specs.Prelude.{◌≡◌, ℕ, ◌≤◌}
use Rattle.std.proofs.Common.{ap, subst, ◌∙◌}
use Rattle.std.proofs.Math.Bridge.{le_prop}
use Rattle.counting.specs.declared.costs.Sum.{Sum}
use Rattle.counting.specs.declared.costs.Worst.{Worst}
use Rattle.counting.specs.declared.costs.Tier.{Tier}

-- a value made of a number and the fact that it stops at k
same_stopped : {A : Type 0} {k : ℕ} (make : (n : ℕ) → n ≤ k → A) (m n : ℕ) (p : m ≤ k) (q : n ≤ k) → m ≡ n → make m p ≡ make n q
same_stopped {k = k} make m n p q e = subst (λ i. (r : i ≤ k) → make m p ≡ make i r) e (λ r. ap (make m) (le_prop p r)) q

pub same_sum : (x y : Sum) → x.total ≡ y.total → x ≡ y
same_sum x y e = same_stopped (λ n p. record { total = n; stops = p }) x.total y.total x.stops y.stops e

pub same_worst : (x y : Worst) → x.largest ≡ y.largest → x ≡ y
same_worst x y e = same_stopped (λ n p. record { largest = n; stops = p }) x.largest y.largest x.stops y.stops e

pub same_tier : (x y : Tier) → x.breaches ≡ y.breaches → x.points ≡ y.points → x ≡ y
same_tier x y b e =
    same_stopped (λ n p. record { breaches = n; points = x.points; few = p; stops = x.stops }) x.breaches y.breaches x.few y.few b
    ∙ same_stopped (λ n p. record { breaches = y.breaches; points = n; few = y.few; stops = p }) x.points y.points x.stops y.stops e
