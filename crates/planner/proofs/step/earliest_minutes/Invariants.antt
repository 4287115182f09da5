use Rattle.std.proofs.Common.{◌≡◌, ℕ, ◌<◌, length, get_or}
use Rattle.network.specs.Nets.{Earliest}
use Rattle.planner.proofs.step.earliest_minutes.Given as goal

-- the minutes so far are the smallest
abbrev pub invariant-loop-event : goal.invariant-loop-event
invariant-loop-event g l = record {
  each : length l.minutes.items ≡ l.event;
  earliest : (i : ℕ) → i < l.event → Earliest (g.N.Network.net l.network) i (get_or l.minutes.items i 0);
}
