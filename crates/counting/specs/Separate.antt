-- What would go wrong if TIER stopped breaches and points each for itself.
--   separately                       that other join
--   SeparateStopsBreakTheOrder   it turns the order of two costs
use Rattle.std.specs.Prelude.{◌≡◌, ◌+◌, min, true, false}
use Rattle.std.proofs.Common.{arith}
use Rattle.counting.specs.Stops.{points_stop, breaches_stop}
use Rattle.counting.specs.Three.{tier, tier_way}
use Rattle.counting.specs.declared.costs.Tier.{Tier}

-- both numbers added, and each stopped for itself
abbrev pub separately : Tier → Tier → Tier
separately x y = record {
  breaches = min (x.breaches + y.breaches) breaches_stop;
  points = min (x.points + y.points) points_stop;
  few = omega arith;
  stops = omega arith;
}

-- (999, 5) is at most (1,000, 0). With (1, 0) joined separately it no longer is; joined as TIER joins, it still is.
pub record SeparateStopsBreakTheOrder : Type 0 where
  pub before : tier_way.atmost (tier 999 5) (tier 1000 0) ≡ true
  pub separate : tier_way.atmost (separately (tier 999 5) (tier 1 0)) (separately (tier 1000 0) (tier 1 0)) ≡ false
  pub together : tier_way.atmost (tier_way.join (tier 999 5) (tier 1 0)) (tier_way.join (tier 1000 0) (tier 1 0)) ≡ true
