use Rattle.std.proofs.Common.{◌≡◌, ◌<◌, ◌∙◌, cond, eqb, None, Ok, sym, ap, subst, rules, arith}
use Rattle.std.specs.Io.KnownBytes.{Keeps, IsAtEnd, prepend_known}
use Rattle.lines.specs.Line.{text_of}
use Rattle.lines.specs.Source.{held}
use Rattle.lines.specs.Lines.{unread}
use Rattle.lines.proofs.Cutting.{OnTheWay, Cut, Ended, turn_taken, cut_at_feed, chunk_read, drop_all, reader_ends, given_up, ends_in_turn}
use Rattle.lines.proofs.input.LinesIterator.next.Goals.{else-loop-source-test, then-loop-source-test+in_default+else-take_line+in-Ok-false}
use Rattle.lines.proofs.input.LinesIterator.next.Goals as goal

pub returns-then-take_line-clause-steps : goal.returns-then-take_line-clause-steps
returns-then-take_line-clause-steps g c =
    let was = c.loop-source.source in
    let now = c.take_turn.new.self in
    let remaining = g.R.Read.remaining in
    let some : 0 < was.turns = search rules in
    let more : 0 < c.take_line.new.self.turns = search rules in
    let before = unread remaining c.args.self.now in
    let first = text_of c.args.self.now.line in
    let text = text_of c.loop-source.self.1.1.0 in
    let way : OnTheWay before _ first text = turn_taken before first text was.turns (held was) (held now) (remaining was.reader) (remaining now.reader) some c.take_turn.ensures.held (ap remaining c.take_turn.ensures.reader) c.loop-source.invariant.2 in
    let cut = cut_at_feed before first text (text_of c.advance.result) (held now) (held c.take_line.new.self) (remaining now.reader) c.take_line.new.self.turns way (sym c.take_line.ensures.feed ∙ c.if-take_line.true) (ap text_of c.advance.ensures.done ∙ c.take_line.ensures.text) c.take_line.ensures.held more in
    let rests = subst (λ r. Cut before first (text_of c.advance.result) (cond (eqb c.take_line.new.self.turns 0) None (prepend_known (held c.take_line.new.self) (remaining r)))) (sym c.take_line.ensures.reader) cut in
    (search rules, rests, search rules, search rules)

pub read_chunk-requires : goal.read_chunk-requires
read_chunk-requires g c = c.take_line.ensures.held ∙ drop_all (held c.take_turn.new.self) (sym c.take_line.ensures.feed ∙ c.if-take_line.false)

pub loop-source-preserved : goal.loop-source-preserved
loop-source-preserved g c =
    let was = c.loop-source.source in
    let now = c.take_turn.new.self in
    let then = c.read_chunk.new.self in
    let remaining = g.R.Read.remaining in
    let some : 0 < was.turns = search rules in
    let more : 0 < then.turns = search rules in
    let before = unread remaining c.args.self.now in
    let first = text_of c.args.self.now.line in
    let text = text_of c.loop-source.self.1.1.0 in
    let way : OnTheWay before _ first text = turn_taken before first text was.turns (held was) (held now) (remaining was.reader) (remaining now.reader) some c.take_turn.ensures.held (ap remaining c.take_turn.ensures.reader) c.loop-source.invariant.2 in
    let on = chunk_read before first text (text_of c.take_line.new.line) (held now) (held then) (remaining now.reader) (remaining then.reader) then.turns way (sym c.take_line.ensures.feed ∙ c.if-take_line.false) c.take_line.ensures.text (subst (λ r. Keeps (remaining r) (prepend_known (held then) (remaining then.reader))) c.take_line.ensures.reader c.read_chunk.ensures.bytes) more in
    (search rules, search rules, on)

pub returns-clause-steps : goal.returns-clause-steps
returns-clause-steps g c =
    let remaining = g.R.Read.remaining in
    let before = unread remaining c.args.self.now in
    let first = text_of c.args.self.now.line in
    let at_end : Ended before first (text_of c.loop-source-test.self.line) = elim c.loop-source-test.branch [
      | else-loop-source-test w ↦
          let was = c.loop-source.source in
          let text = text_of c.loop-source.self.1.1.0 in
          subst (λ l. Ended before first (text_of l)) (sym (ap (λ s. s.line) w.self-is))
          (given_up before first text was.turns (prepend_known (held was) (remaining was.reader)) (omega (arith, w.loop-source-test.false)) c.loop-source.invariant.2)
      | then-loop-source-test+in_default+else-take_line+in-Ok-false w ↦
          let was = c.loop-source.source in
          let now = w.take_turn.new.self in
          let text = text_of c.loop-source.self.1.1.0 in
          let way : OnTheWay before (prepend_known (held now) (remaining now.reader)) first text = turn_taken before first text was.turns (held was) (held now) (remaining was.reader) (remaining now.reader) w.loop-source-test.true w.take_turn.ensures.held (ap remaining w.take_turn.ensures.reader) c.loop-source.invariant.2 in
          let end : IsAtEnd (remaining now.reader) = subst (λ r. IsAtEnd (remaining r)) w.take_line.ensures.reader (w.read_chunk.ensures.end (w.in-Ok-false.is ∙ ap Ok w.in-Ok-false.field-0-test)) in
          subst (λ l. Ended before first (text_of l)) (sym (ap (λ s. s.line) w.self-is))
          (reader_ends before first text (text_of w.take_line.new.line) (held now) (remaining now.reader) way (sym w.take_line.ensures.feed ∙ w.if-take_line.false) w.take_line.ensures.text end)
    ] in
    let number : c.loop-source-test.self.line.number ≡ c.args.self.now.line.number = elim c.loop-source-test.branch [
      | else-loop-source-test w ↦ ap (λ s. s.line.number) w.self-is ∙ c.loop-source.invariant.1
      | then-loop-source-test+in_default+else-take_line+in-Ok-false w ↦ ap (λ s. s.line.number) w.self-is ∙ w.take_line.ensures.number ∙ c.loop-source.invariant.1
    ] in
    ends_in_turn remaining c.args.self.now c.loop-source-test.self c.finish.new.self c.finish.result at_end number c.finish.ensures
