use Rattle.std.proofs.Common.{◌≡◌, ◌+◌, ◌≤◌}
use Rattle.std.specs.Option.{option_map_or}
use Rattle.lines.specs.Line.{text_of}
use Rattle.lines.specs.Source.{known_left}
use Rattle.lines.specs.Lines.{unread}
use Rattle.lines.proofs.Cutting.{OnTheWay}
use Rattle.lines.proofs.input.LinesIterator.next.Given as goal

-- no more turns are left than at first, the line keeps its number, and its text grows by the bytes that were read
abbrev pub invariant-loop-source : goal.invariant-loop-source
invariant-loop-source g l =
    (l.source.turns + 1 ≤ option_map_or (λ source. source.turns + 1) l.fn.self.source 0)
    × (l.self.1.1.0.number ≡ l.fn.self.line.number)
    × OnTheWay (unread g.R.Read.remaining l.fn.self) (known_left g.R.Read.remaining l.source) (text_of l.fn.self.line) (text_of l.self.1.1.0)

abbrev pub decreases-loop-source : goal.decreases-loop-source
decreases-loop-source g l = l.source.turns
