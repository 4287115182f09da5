-- What a list network means.
--   modelled   the day and the limits of a network
use Rattle.network.specs.Lists.{net_of}
use Rattle.network.specs.Nets.{Net}
use Rattle.list_network.specs.declared.list.ListNetwork.{ListNetwork}

-- its list of limits
abbrev pub modelled : ListNetwork → Net
modelled s = net_of s.limits
