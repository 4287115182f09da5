-- The bounds of penalties and costs.
--   max_breaches, max_points     the largest penalty that a rule may state
--   points_stop, breaches_stop   where costs stop growing
use Rattle.std.specs.Prelude.{ℕ}

-- the most breaches of one penalty
abbrev pub max_breaches : ℕ
max_breaches = 9

-- the most points of one penalty, and of a WORST cost, which is that of one penalty
abbrev pub max_points : ℕ
max_points = 1000000

-- no SUM total and no TIER points pass this
abbrev pub points_stop : ℕ
points_stop = 1000000000

-- no TIER breaches pass this
abbrev pub breaches_stop : ℕ
breaches_stop = 1000
