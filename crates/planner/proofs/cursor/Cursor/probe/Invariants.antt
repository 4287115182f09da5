use Rattle.std.proofs.Common.{◌≡◌, ℕ, ◌≤◌, take}
use Rattle.search.specs.Selections.{price}
use Rattle.planner.specs.Choosing.{rules_in}
use Rattle.planner.specs.Loading.{Stands}
use Rattle.planner.specs.Probing.{HopefulAt}
use Rattle.planner.proofs.cursor.Cursor.probe.Given as goal

-- the choices so far are loaded, their price is known, and no prefix so far is hopeless
abbrev pub invariant-loop-i : goal.invariant-loop-i
invariant-loop-i g l = record {
  covers : l.i ≤ l.self.depth;
  stands : Stands l.selection l.self.depth (g.N.Network.net l.self.network.now);
  price_is : l.price ≡ price g.W.Counting.way (rules_in l.selection) (take l.i l.selection.choices.now);
  hopeful : (k : ℕ) → k ≤ l.i → HopefulAt g.W.Counting.way l.selection.problem.now.day (rules_in l.selection) l.best (take k l.selection.choices.now);
  best : l.self.best ≡ l.initial.self.best;
}
