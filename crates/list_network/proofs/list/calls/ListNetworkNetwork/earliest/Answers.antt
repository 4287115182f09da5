use Rattle.std.proofs.Common.{◌≡◌, ◌<◌, [], length, get_or, arith}
use Rattle.problem.specs.Timetables.{minute}
use Rattle.list_network.specs.Held.{newest}
use Rattle.list_network.specs.Model.{modelled}
use Rattle.list_network.proofs.Stack.{earliest}
use Rattle.list_network.proofs.list.calls.ListNetworkNetwork.earliest.Goals as goal

pub returns : goal.returns
returns c =
    let s = c.args.self.now in
    let event = c.args.event in
    let events : c.events.result ≡ s.limits.day.events = cc in
    let inside : event < s.limits.day.events = omega arith in
    let row = get_or s.times (length (modelled s).limits) [] in
    let is : c.from.result ≡ minute row event = grind arith in
    (inside, earliest (modelled s) row (newest s) event _ is)
