-- Effects of limits on minutes.
--   joint   an effect and a later one together
use Rattle.list_network.specs.declared.relax.Effect.{Effect}
use Rattle.list_network.specs.declared.relax.Effect.TheVariants.{Rest, Raised}

-- some minute was raised by either
abbrev pub joint : Effect → Effect → Effect
joint e Rest = e
joint e Raised = Raised
