-- A text cut at its first comma.
use Rattle.std.proofs.Common.{◌≡◌, ℕ, ◌+◌, ◌-◌, ◌<◌, ◌≤◌, eqb, List, [], ◌∷◌, length, take, drop, Some, None, position, ap, ◌∙◌, arith}
use Rattle.std.specs.List.{position_or_len}
use Rattle.std.proofs.lemmas.Grind.{common_steps}
use Rattle.std.proofs.lemmas.List.{take_rest}
use Rattle.std.proofs.lemmas.List.Sums.{fails_before_first}
use Rattle.std.proofs.lemmas.List.Splits.{slice_split_first, slice_split_none}
use Rattle.fields.specs.Fields.{comma, parts}

-- the first part ends at the first comma
pub cut_at : (text : List ℕ) (end : ℕ) → Some end ≡ position (λ byte. eqb byte comma) text → parts text ≡ take end text ∷ parts (take (length text - (end + 1)) (drop (end + 1) text))
cut_at text end found =
    let first = position_or_len (λ byte. eqb byte comma) text in
    let within : first < length text = grind (arith, common_steps) in
    let same : first ≡ end = grind (arith, common_steps) in
    slice_split_first (λ byte. eqb byte comma) text 0 within
    ∙ ap (λ n. take n text ∷ parts (drop (n + 1) text)) same
    ∙ rw take_rest

-- a text with no comma is one part
pub cut_none : (text : List ℕ) → None ≡ position (λ byte. eqb byte comma) text → parts text ≡ text ∷ []
cut_none text none =
    let past : length text ≤ position_or_len (λ byte. eqb byte comma) text = grind (arith, common_steps) in
    slice_split_none (λ byte. eqb byte comma) text (λ k d lt. fails_before_first (λ byte. eqb byte comma) text k d (omega arith))
