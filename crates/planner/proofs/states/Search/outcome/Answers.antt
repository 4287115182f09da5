use Rattle.std.proofs.Common.{ap₂, ◌∙◌}
use Rattle.problem.specs.Problems.{rules_of}
use Rattle.problem.specs.declared.problems.Problem.{Problem}
use Rattle.search.specs.Outcomes.{given_bits}
use Rattle.search.specs.Selections.{price}
use Rattle.planner.proofs.Held.{told_kept, told_none}
use Rattle.planner.proofs.states.Search.outcome.Goals as goal

pub returns-in_default : goal.returns-in_default
returns-in_default g c =
    let s = c.args.self.now in
    told_none s.problem.day (rules_of s.problem) s.progress s.sound c.in_default.is g.W.Counting.way c.word-word.result c.ZERO.result c.word-word.ensures (c.ZERO.ensures ∙ g.met.W.Counting.zero_cost)

pub returns : goal.returns
returns g c =
    let s = c.args.self.now in
    let way = g.W.Counting.way in
    let told = c.selection-selection.ensures in
    told_kept s.problem.day (rules_of s.problem) s.progress s.sound c.in-Some.plan c.in-Some.is way c.word-word.result c.price.result c.given_up.result c.word-word.ensures
    (c.price.ensures ∙ ap₂ (λ (p : Problem) ns. price way (rules_of p) ns) told.problem told.choices)
    (c.given_up.ensures ∙ ap₂ (λ (p : Problem) ns. given_bits (rules_of p) ns) told.problem told.choices)
