use Rattle.std.proofs.Common.{◌≡◌, length, replicate, sym, ap, ◌∙◌, arith, rules}
use Rattle.std.proofs.lemmas.List.{length-map}
use Rattle.problem.specs.Problems.{rules_of}
use Rattle.problem.specs.Rules.{rule_of}
use Rattle.problem.proofs.Said.{rules_count}
use Rattle.planner.proofs.Fitting.{fit_some}
use Rattle.planner.proofs.Held.{fresh_sound, fresh_start}
use Rattle.planner.proofs.states.Draft.close.Goals as goal

pub first_choices-requires : goal.first_choices-requires
first_choices-requires g c =
    let p = c.args.self.problem in
    let n : length c.rules.result.now ≡ length (rules_of p) = sym (length-map c.rules.result.now rule_of) ∙ ap length c.rules.ensures in
    omega (arith, rules_count p, p.few)

pub invariant_of-result : goal.invariant_of-result
invariant_of-result g c =
    let p = c.args.self.problem in
    let n : length c.rules.result.now ≡ length (rules_of p) = sym (length-map c.rules.result.now rule_of) ∙ ap length c.rules.ensures in
    let zeros : c.first_choices.result.items ≡ replicate (length (rules_of p)) 0 = c.first_choices.ensures ∙ ap (λ k. replicate k 0) n in
    record { sound = fresh_sound p.day (rules_of p) (fit_some p.day (rules_of p) p.fit) c.first_choices.result zeros _ (search rules) (search rules) }

pub returns-clause-start : goal.returns-clause-start
returns-clause-start g c =
    let p = c.args.self.problem in
    let n : length c.rules.result.now ≡ length (rules_of p) = sym (length-map c.rules.result.now rule_of) ∙ ap length c.rules.ensures in
    let zeros : c.first_choices.result.items ≡ replicate (length (rules_of p)) 0 = c.first_choices.ensures ∙ ap (λ k. replicate k 0) n in
    fresh_start p.day (rules_of p) (fit_some p.day (rules_of p) p.fit) c.first_choices.result zeros g.W.Counting.way _ (λ ns. search rules) (search rules)
