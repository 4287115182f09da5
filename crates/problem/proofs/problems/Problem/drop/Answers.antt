use Rattle.std.proofs.Common.{◌≡◌, true, vec_items, sym, subst, rules}
use Rattle.std.specs.List.{flat_map, remove}
use Rattle.problem.specs.Checks.{passes, rule_checks}
use Rattle.problem.specs.Problems.{rules_of}
use Rattle.problem.proofs.Said.{rules_removed, passes_removed}
use Rattle.problem.proofs.problems.Problem.drop.Goals as goal

-- whichever rule is taken out, the others fit
pub invariant_of-self-clause-fit : goal.invariant_of-self-clause-fit
invariant_of-self-clause-fit c =
    let p = c.args.self.now in
    let said = rules_removed (vec_items p.rules) _ _ c.remove.ensures.items in
    subst (λ rs. passes (flat_map (rule_checks p.day) rs) ≡ true) (sym said) (passes_removed (rule_checks p.day) (rules_of p) _ p.fit)

pub returns-clause-cases : goal.returns-clause-cases
returns-clause-cases c =
    let removed : c.remove.new.self.items ≡ remove (vec_items c.args.self.now.rules) c.args.number = search rules in
    rules_removed (vec_items c.args.self.now.rules) _ _ removed
