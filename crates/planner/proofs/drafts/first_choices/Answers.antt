use Rattle.std.proofs.Common.{take, ap, ◌∙◌}
use Rattle.std.proofs.lemmas.List.{take-replicate}
use Rattle.planner.proofs.drafts.first_choices.Goals as goal

pub returns : goal.returns
returns c = c.truncate.ensures.items ∙ ap (take c.args.rules) c.from-choices.ensures.0 ∙ take-replicate c.args.rules 32 0 c.requires
