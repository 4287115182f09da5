use Rattle.std.proofs.Common.{◌≡◌, eqb, Some, None, position}
use Rattle.fields.specs.Fields.{comma}
use Rattle.fields.proofs.Cuts.{cut_at, cut_none}
use Rattle.fields.proofs.cursor.split_first_field.Goals as goal

pub returns-in-Some : goal.returns-in-Some
returns-in-Some c =
    let found : Some c.in-Some.end ≡ position (λ byte. eqb byte comma) c.args.text.now = c.in-Some.ensures in
    let cut = cut_at c.args.text.now c.in-Some.end found in
    cc

pub returns-in-None : goal.returns-in-None
returns-in-None c =
    let none : None ≡ position (λ byte. eqb byte comma) c.args.text.now = c.in-None.ensures in
    let cut = cut_none c.args.text.now none in
    cc
