-- What it means that a text writes a number.
--
-- Short         a number has at most nine digits
-- Writes        a text is the decimal text of a short number, with no leading zero
-- ShortSigned   a number has at most nine digits, beside its sign
-- WritesSigned  a text is the decimal text of such a number, with a minus sign where it is below 0
-- Spells        a text consists of digits, and they have a value, with leading zeros or none
use Rattle.std.specs.Prelude.{◌≡◌, ℕ, suc, ◌^◌, ◌<◌, List, ℤ, pos, negsuc, decimal}
use Rattle.std.specs.Str.Parse.{AllDigits, digits_value}
use Rattle.std.specs.Fmt.{signed_decimal}

-- v has at most nine digits
abbrev pub Short : ℕ → Type 0
Short v = v < 10 ^ 9

-- the bytes are what a print of v shows
pub record Writes (bytes : List ℕ) (v : ℕ) : Type 0 where
  pub short : Short v
  pub text : bytes ≡ decimal v

-- z has at most nine digits
abbrev pub ShortSigned : ℤ → Type 0
ShortSigned (pos n) = Short n
ShortSigned (negsuc n) = Short (suc n)

-- the bytes are what a print of z shows
pub record WritesSigned (bytes : List ℕ) (z : ℤ) : Type 0 where
  pub short : ShortSigned z
  pub text : bytes ≡ signed_decimal z

-- the bytes are digits, and their value is v; no digits at all have the value 0
pub record Spells (bytes : List ℕ) (v : ℕ) : Type 0 where
  pub digits : AllDigits 10 bytes
  pub number : v ≡ digits_value 10 bytes
