use Rattle.std.proofs.Common.{◌∙◌, sym}
use Rattle.lines.proofs.Feeds.{range_behind}
use Rattle.lines.proofs.source.Source.take_line.Goals as goal

pub returns-in-Some-clause-held : goal.returns-in-Some-clause-held
returns-in-Some-clause-held g c =
    let found = c.in-Some.ensures.place in
    let now = c.args.self.now in
    range_behind now.chunk now.start now.end c.in-Some.place now.ordered found.0 ∙ sym found.2
