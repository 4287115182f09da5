-- A line of input as far as it has come.
--   max_line   the most bytes of a line that is kept
--   text_of    the line's text, or none where it is overlong
--   extended   a text with one byte more
--   begun      the line has a byte
use Rattle.std.specs.Prelude.{ℕ, Bool, true, false, cond, List, [], ◌∷◌, ◌++◌, length, Some, None, Option, nat_lt}
use Rattle.std.specs.Option.{option_map}
use Rattle.lines.specs.declared.line.Line.{Line}

-- more than any line that a program here takes
abbrev pub max_line : ℕ
max_line = 1024

-- its bytes so far
abbrev pub text_of : Line → Option (List ℕ)
text_of line = option_map (λ text. text.items) line.text

-- one byte more, unless it is full
abbrev pub extended : Option (List ℕ) → ℕ → Option (List ℕ)
extended None byte = None
extended (Some bytes) byte = cond (nat_lt (length bytes) max_line) (Some (bytes ++ byte ∷ [])) None

-- it is overlong, or not empty
abbrev pub begun : Option (List ℕ) → Bool
begun None = true
begun (Some []) = false
begun (Some (b ∷ bs)) = true
