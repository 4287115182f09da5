-- Texts with no comma are the parts of what they join to.
use Rattle.std.proofs.Common.{◌≡◌, ℕ, ◌<◌, false, eqb, List, [], ◌∷◌, length, All, refl, ap, ◌∙◌, arith}
use Rattle.std.specs.List.{AllByRecursion}
use Rattle.std.proofs.lemmas.List.Splits.{slice_split_none, slice_split_at}
use Rattle.fields.specs.Fields.{comma, parts, joined}

-- no byte of the text is a comma
abbrev pub Whole : List ℕ → Type 0
Whole w = All (λ byte. eqb byte comma ≡ false) w

-- whole texts are the parts of what they join to
pub parts_joined : (ws : List (List ℕ)) → 0 < length ws → AllByRecursion Whole ws → parts (joined ws) ≡ ws
parts_joined [] some h = absurd (omega arith)
parts_joined (w ∷ []) some h = slice_split_none (λ byte. eqb byte comma) w h.0
parts_joined (w ∷ v ∷ ws) some h =
    slice_split_at (λ byte. eqb byte comma) w comma (joined (v ∷ ws)) h.0 refl
    ∙ ap (λ l. w ∷ l) (parts_joined (v ∷ ws) (omega arith) h.1)
