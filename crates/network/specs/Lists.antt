-- Lists of limits as networks.
--   net_of   the day and the limits of a list
use Rattle.network.specs.Nets.{Net}
use Rattle.network.specs.declared.limit_list.LimitList.{LimitList}

-- its day, and its limits in order
abbrev pub net_of : LimitList → Net
net_of list = record { day = list.day; limits = list.limits }
