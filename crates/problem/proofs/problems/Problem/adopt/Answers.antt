use Rattle.std.proofs.Common.{◌≡◌, [], ◌∷◌, ◌++◌, vec_items, rules}
use Rattle.problem.specs.Checks.{rule_checks}
use Rattle.problem.specs.Problems.{rules_of}
use Rattle.problem.specs.Rules.{rule_of}
use Rattle.problem.proofs.Fit.{held, passes_adopted}
use Rattle.problem.proofs.Said.{rules_push}
use Rattle.problem.proofs.problems.Problem.adopt.Goals as goal

pub invariant_of-self-clause-fit : goal.invariant_of-self-clause-fit
invariant_of-self-clause-fit c =
    let p = c.args.self.now in
    let pushed : c.push_reserved.new.self.items ≡ vec_items p.rules ++ c.args.rule ∷ [] = search rules in
    passes_adopted (rule_checks p.day) (rules_of p) _ (rule_of c.args.rule) (rules_push (vec_items p.rules) _ c.args.rule pushed) p.fit (held _ _ _ c.in_default.ensures).1
