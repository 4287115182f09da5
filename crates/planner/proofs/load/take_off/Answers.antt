use Rattle.planner.specs.Choosing.{rules_in}
use Rattle.planner.proofs.Loadings.{pops, pops_again, loaded_off, loaded_same}
use Rattle.planner.proofs.load.take_off.Goals as goal

pub unwrap-requires : goal.unwrap-requires
unwrap-requires g c =
    let s = c.args.selection in
    pops s.problem.now.day (rules_in s) s.choices.now s.selected c.args.i c.requires.more (g.N.Network.net c.args.network.now) c.requires.stands c.option.result c.option.ensures (g.N.Network.net c.pop.new.self) c.pop.result c.if-is_some.ensures c.pop.ensures

pub unwrap-requires-then-is_some : goal.unwrap-requires-then-is_some
unwrap-requires-then-is_some g c =
    let s = c.args.selection in
    pops_again s.problem.now.day (rules_in s) s.choices.now s.selected c.args.i c.requires.more (g.N.Network.net c.args.network.now) c.requires.stands c.option.result c.option.ensures _ c.pop.result c.if-is_some.ensures c.pop.ensures _ c.pop-then-is_some.result c.pop-then-is_some.ensures

pub returns-then-is_some : goal.returns-then-is_some
returns-then-is_some g c =
    let s = c.args.selection in
    loaded_off s.problem.now.day (rules_in s) s.choices.now s.selected c.args.i c.requires.more (g.N.Network.net c.args.network.now) c.requires.stands c.option.result c.option.ensures _ c.pop.result c.if-is_some.ensures c.pop.ensures _ c.pop-then-is_some.result c.pop-then-is_some.ensures

pub returns-else-is_some : goal.returns-else-is_some
returns-else-is_some g c =
    let s = c.args.selection in
    loaded_same s.problem.now.day (rules_in s) s.choices.now s.selected c.args.i c.requires.more (g.N.Network.net c.args.network.now) c.requires.stands c.option.result c.option.ensures c.if-is_some.ensures
