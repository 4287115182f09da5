use Rattle.std.proofs.Common.{◌≡◌, length, take}
use Rattle.search.specs.Outcomes.{given_bits}
use Rattle.planner.specs.Choosing.{rules_in}
use Rattle.planner.proofs.selection.Selection.given_up.Given as goal

-- the bits of the rules so far
abbrev pub invariant-loop-i : goal.invariant-loop-i
invariant-loop-i l = l.word ≡ given_bits (rules_in l.self) (take (length l.yielded) l.self.choices.now)
