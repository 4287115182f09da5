use Rattle.std.proofs.Common.{◌≡◌, ◌≤◌, min}
use Rattle.planner.specs.Loading.{Stands}
use Rattle.planner.proofs.cursor.Cursor.unload.Given as goal

-- so many choices are still loaded
abbrev pub invariant-loop-i : goal.invariant-loop-i
invariant-loop-i g l = record {
  left : l.self.depth ≡ l.i;
  least : min l.initial.self.depth l.to ≤ l.i;
  most : l.i ≤ l.initial.self.depth;
  stands : Stands l.selection l.i (g.N.Network.net l.self.network.now);
  best : l.self.best ≡ l.initial.self.best;
}
