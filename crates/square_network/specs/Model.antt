-- What a network of shortest distances means.
use Rattle.network.specs.Lists.{net_of}
use Rattle.network.specs.Nets.{Net}
use Rattle.square_network.specs.declared.square.SquareNetwork.{SquareNetwork}

-- the day and the limits of its list
abbrev pub modelled : SquareNetwork → Net
modelled s = net_of s.limits
