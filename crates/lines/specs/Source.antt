-- What is still to be taken from a reader that is read in chunks, and how bytes grow a text.
--   line_feed   the byte that ends a line
--   is_feed     whether a byte is that
--   held        the bytes of the newest chunk that are still to be taken
--   known_left  what is still to be taken, where the reader's bytes are known
--   FirstFeed   where the first line feed stands
--   grown       a text with each byte up to the first line feed
use Rattle.std.specs.Prelude.{◌≡◌, ℕ, ◌+◌, ◌<◌, Bool, true, false, cond, List, [], ◌∷◌, length, drop, Some, None, Option, ◌==◌, slice_range}
use Rattle.std.specs.List.{list_any}
use Rattle.std.specs.Io.BufRead.{drop_through}
use Rattle.std.specs.Io.KnownBytes.{prepend_known}
use Rattle.lines.specs.declared.source.Source.{Source}
use Rattle.lines.specs.Line.{extended}

-- the byte that ends a line
abbrev pub line_feed : ℕ
line_feed = 10

-- whether a byte is that
abbrev pub is_feed : ℕ → Bool
is_feed byte = byte == line_feed

-- the bytes of the newest chunk that are still to be taken
abbrev pub held : {R : Type 0} → Source R → List ℕ
held source = slice_range source.chunk source.start source.end

-- those, and then what the reader still gives, where that is known and the reader was not given up
abbrev pub known_left : {R : Type 0} → (R → Option (List ℕ)) → Source R → Option (List ℕ)
known_left remaining source = cond (source.turns == 0) None (prepend_known (held source) (remaining source.reader))

-- the text with each of the bytes up to the first line feed, or with all of them where there is none
abbrev pub grown : Option (List ℕ) → List ℕ → Option (List ℕ)
grown text [] = text
grown text (byte ∷ bytes) = cond (byte == line_feed) text (grown (extended text byte) bytes)

-- at this place, with what stands behind it; or nowhere
abbrev pub FirstFeed : List ℕ → Option ℕ → Type 0
FirstFeed bytes (Some place) = (place < length bytes) × (list_any is_feed bytes ≡ true) × (drop_through line_feed bytes ≡ drop (place + 1) bytes)
FirstFeed bytes None = (list_any is_feed bytes ≡ false) × (drop_through line_feed bytes ≡ [])
