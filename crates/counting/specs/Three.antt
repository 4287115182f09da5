-- The three ways of counting, by arithmetic.
--   points_way                     a way that keeps one number: points, joined somehow and stopped
--   sum, worst, tier               the costs of plain numbers, within the stops
--   sum_way, worst_way, tier_way   SUM, WORST and TIER
use Rattle.std.specs.Prelude.{ℕ, ◌+◌, ◌≤◌, min, max, cond, ◌&&◌, ◌||◌, ◌==◌, nat_le, nat_lt}
use Rattle.std.proofs.Common.{arith}
use Rattle.std.proofs.lemmas.Bool.{cond_both}
use Rattle.counting.specs.Stops.{max_points, points_stop, breaches_stop}
use Rattle.counting.specs.Ways.{Way}
use Rattle.counting.specs.declared.costs.Sum.{Sum}
use Rattle.counting.specs.declared.costs.Worst.{Worst}
use Rattle.counting.specs.declared.costs.Tier.{Tier}

-- a cost is one number: it is made of points, joined with another, compared as a number, and shown after 0
abbrev pub points_way : {C : Type 0} (number : C → ℕ) (make : ℕ → C) (join : ℕ → ℕ → ℕ) → Way C
points_way number make join = record {
  zero = make 0;
  reading = λ p. make p.points;
  join = λ x y. make (join (number x) (number y));
  atmost = λ x y. nat_le (number x) (number y);
  shown = λ x. record { first = 0; second = number x };
}

-- n points, stopped
abbrev pub sum : ℕ → Sum
sum n = record { total = min n points_stop; stops = omega arith }

-- SUM adds points
abbrev pub sum_way : Way Sum
sum_way = points_way (λ x. x.total) sum (λ m n. m + n)

-- n points, stopped
abbrev pub worst : ℕ → Worst
worst n = record { largest = min n max_points; stops = omega arith }

-- WORST keeps the larger points
abbrev pub worst_way : Way Worst
worst_way = points_way (λ x. x.largest) worst max

-- the points of b breaches and p points: stopped, and at their stop where the breaches pass theirs
abbrev pub tier_points : ℕ → ℕ → ℕ
tier_points b p = cond (nat_le b breaches_stop) (min p points_stop) points_stop

-- b breaches and p points, stopped
abbrev pub tier : ℕ → ℕ → Tier
tier b p = record {
  breaches = min b breaches_stop;
  points = tier_points b p;
  few = omega arith;
  stops = cond_both (nat_le b breaches_stop) (min p points_stop) points_stop (λ n. n ≤ points_stop) (λ e. omega arith) (λ e. omega arith);
}

-- TIER compares breaches first, adds each, and shows both
abbrev pub tier_way : Way Tier
tier_way = record {
  zero = tier 0 0;
  reading = λ p. tier p.breaches p.points;
  join = λ x y. tier (x.breaches + y.breaches) (x.points + y.points);
  atmost = λ x y. nat_lt x.breaches y.breaches || (x.breaches == y.breaches && nat_le x.points y.points);
  shown = λ x. record { first = x.breaches; second = x.points };
}
