-- What holds of every list network.
use Rattle.std.specs.Prelude.{◌≡◌, List, [], length, slice_index_or}
use Rattle.std.proofs.Common.{ap, subst, arith}
use Rattle.std.proofs.lemmas.List.{take_all}
use Rattle.problem.specs.Timetables.{minute}
use Rattle.network.specs.Nets.{Net, Sound}
use Rattle.network.specs.declared.limit.Limit.{Limit}
use Rattle.network.proofs.Lists.{few_limits}
use Rattle.list_network.specs.Model.{modelled}
use Rattle.list_network.specs.Smallest.{Smallest, beginning}
use Rattle.list_network.specs.declared.list.ListNetwork.{ListNetwork}

-- the newest minutes are the smallest for all limits
pub newest : (s : ListNetwork) → Smallest (modelled s) (slice_index_or s.times (length (modelled s).limits) [])
newest s =
    let m = modelled s in
    let F : Net → Type 0 = λ n. Smallest n (slice_index_or s.times (length m.limits) []) in
    let G : List Limit → Net = λ ls. record { day = m.day; limits = ls } in
    let all : beginning (length m.limits) m ≡ m = ap G (take_all (length m.limits) m.limits (omega arith)) in
    subst F all (s.stacked (length m.limits) (omega arith))

pub sound : (s : ListNetwork) → Sound (modelled s)
sound s = record {
  lawful = s.limits.lawful;
  few = few_limits s.limits;
  solvable = (minute (slice_index_or s.times (length (modelled s).limits) []), (newest s).solves);
}
