use Rattle.std.proofs.Common.{◌≡◌}
use Rattle.std.proofs.lemmas.List.Splits.{join_with_byte-slice_split}
use Rattle.fields.specs.Fields.{comma, parts, joined}
use Rattle.fields.proofs.cursor.Fields.of.Goals as goal

pub returns-clause-same : goal.returns-clause-same
returns-clause-same c =
    let whole : joined (parts c.args.text.now) ≡ c.args.text.now = join_with_byte-slice_split comma c.args.text.now in
    cc
