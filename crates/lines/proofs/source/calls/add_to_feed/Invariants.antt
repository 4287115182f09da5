use Rattle.std.proofs.Common.{◌≡◌}
use Rattle.lines.specs.Line.{text_of}
use Rattle.lines.proofs.Feeds.{Behind}
use Rattle.lines.proofs.source.calls.add_to_feed.Given as goal

-- the line keeps its number, and has the bytes before the place, of which none is a line feed
abbrev pub invariant-loop-place : goal.invariant-loop-place
invariant-loop-place l = (l.line.number ≡ l.fn.line.number) × Behind l.fn.bytes l.place (text_of l.fn.line) (text_of l.line)
