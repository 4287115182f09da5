use Rattle.std.proofs.Common.{◌≡◌, length, take}
use Rattle.search.specs.Selections.{price}
use Rattle.planner.specs.Choosing.{rules_in}
use Rattle.planner.proofs.selection.Selection.price.Given as goal

-- the price of the choices so far
abbrev pub invariant-loop-rule : goal.invariant-loop-rule
invariant-loop-rule g l = l.total ≡ price g.W.Counting.way (rules_in l.self) (take (length l.yielded) l.self.choices.now)
