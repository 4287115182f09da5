use Rattle.std.proofs.Common.{arith, rules}
use Rattle.planner.proofs.Raising.{raised_filled}
use Rattle.planner.proofs.advance.raise.Goals as goal

pub returns : goal.returns
returns c = raised_filled c.args.choices.now _ c.fill.new.self c.args.i _ c.requires.within (search rules) (omega arith) (c.fill.ensures.after (search rules))
