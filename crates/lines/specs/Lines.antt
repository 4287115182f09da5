-- The lines of a reader, one after the other.
--   lines_left   how many lines may still come
--   AtStart      the reader is there, and its first line has no byte yet
--   unread       what is still to be read, where that is known
--   CutsLine     a line is what stands before the first line feed, and what stands behind it is still to be read
--   Finishes     the line that is being read comes last, where it has a byte
--   TellsInTurn  what a call hands out is the line that was being read, and the next line is begun behind it
use Rattle.std.specs.Prelude.{◌≡◌, ℕ, ◌+◌, ◌-◌, ◌^◌, min, true, false, List, [], Some, None, Ok, Err, Option, Result, IsSome, IsNone, IfSome}
use Rattle.std.specs.Option.{option_map_or}
use Rattle.std.specs.Iterator.{Count, at_most}
use Rattle.std.specs.Io.BufRead.{drop_through}
use Rattle.std.specs.Io.Iter.{u64_saturate}
use Rattle.std.specs.Io.KnownBytes.{IsAtEnd}
use Rattle.std.specs.declared.io.Error.{Error}
use Rattle.lines.specs.declared.line.Line.{Line}
use Rattle.lines.specs.declared.input.Lines.{Lines}
use Rattle.lines.specs.Line.{text_of, begun}
use Rattle.lines.specs.Source.{line_feed, known_left, grown}

-- each turn may end a line, and the reader's end may end one more; so there are no more than 2^64
abbrev pub lines_left : {R : Type 0} → Lines R → Count
lines_left lines = at_most (option_map_or (λ source. u64_saturate source.turns + 1) lines.source 0)

-- the reader is there, and its first line has no byte yet
abbrev pub AtStart : {R : Type 0} → Lines R → Type 0
AtStart lines = IsSome lines.source × (lines.line.number ≡ 1) × (text_of lines.line ≡ Some [])

-- the bytes that are still to be read, where the reader's are known, and none once it has ended
abbrev pub unread : {R : Type 0} → (R → Option (List ℕ)) → Lines R → Option (List ℕ)
unread remaining lines = option_map_or (known_left remaining) lines.source (Some [])

-- the line has the text that was begun, up to the first line feed, and what stands behind that is still to be read; a
-- text with no byte comes only where something is left
abbrev pub CutsLine : Option (List ℕ) → Option (List ℕ) → Line → Option (List ℕ) → Type 0
CutsLine begun_text unread_before line unread_after =
    IfSome unread_before (λ bytes. (text_of line ≡ grown begun_text bytes)
    × (unread_after ≡ Some (drop_through line_feed bytes))
    × (bytes ≡ [] → begun begun_text ≡ true))

-- with its number and its text; and nothing is left to be read
abbrev pub Finishes : {R : Type 0} → Lines R → Option (Result Line Error) → Lines R → Type 0
Finishes before (Some (Ok line)) after =
    (begun (text_of before.line) ≡ true) × IsNone after.source × (line ≡ before.line)
    × (after.line.number ≡ min (before.line.number + 1) (2 ^ 64 - 1)) × (text_of after.line ≡ Some [])
Finishes before (Some (Err error)) after = ⊥
Finishes before None after = (begun (text_of before.line) ≡ false) × IsNone after.source × (after.line ≡ before.line)

-- a line that comes is the one that was being read, by its number and its text, and the next one is begun behind it; none
-- comes once nothing is left; and at a failure of the reader the line keeps its number
abbrev pub TellsInTurn : {R : Type 0} → (R → Option (List ℕ)) → Lines R → Option (Result Line Error) → Lines R → Type 0
TellsInTurn remaining before (Some (Ok line)) after =
    (line.number ≡ before.line.number)
    × CutsLine (text_of before.line) (unread remaining before) line (unread remaining after)
    × (after.line.number ≡ min (before.line.number + 1) (2 ^ 64 - 1))
    × (text_of after.line ≡ Some [])
TellsInTurn remaining before (Some (Err error)) after = after.line.number ≡ before.line.number
TellsInTurn remaining before None after = IsAtEnd (unread remaining before) × IsNone after.source × (after.line.number ≡ before.line.number)
