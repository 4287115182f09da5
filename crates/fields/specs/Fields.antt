-- The fields of a text: its parts between commas.
--
-- comma   the byte that stands between two fields
-- parts   the fields of a text, in order; there is always one
-- joined  the text that has some fields, with commas between them
-- left    the fields that a cursor has still to hand out
use Rattle.std.specs.Prelude.{ℕ, List, [], ◌==◌}
use Rattle.std.specs.List.{slice_split, join_with_byte}
use Rattle.std.specs.Option.{option_map_or}
use Rattle.fields.specs.declared.cursor.Fields.{Fields}

-- the byte ','
abbrev pub comma : ℕ
comma = 44

-- the text cut at each comma: a comma ends an empty field, and any other byte begins the first field of what follows it
abbrev pub parts : List ℕ → List (List ℕ)
parts text = slice_split (λ byte. byte == comma) text

-- the fields one after the other, with a comma between each and the next
abbrev pub joined : List (List ℕ) → List ℕ
joined fields = join_with_byte comma fields

-- the parts of what is left of the text, and none once the last was taken
abbrev pub left : Fields → List (List ℕ)
left f = option_map_or (λ rest. parts rest.now) f.rest []
