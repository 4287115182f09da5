use Rattle.std.proofs.Common.{◌≡◌, ◌-◌, [], ◌∷◌, ◌++◌, length, get_or, take, arith, subst, sym, ◌∙◌}
use Rattle.std.proofs.lemmas.List.{take_all}
use Rattle.std.specs.List.{AllByRecursion}
use Rattle.network.specs.Limits.{Lawful, nowhere}
use Rattle.network.proofs.Lists.{and_newest, all_but_newest}
use Rattle.network.proofs.limit_list.LimitList.pop.Goals as goal

pub invariant_of-self-clause-lawful : goal.invariant_of-self-clause-lawful
invariant_of-self-clause-lawful c =
    let list = c.args.self.now in
    let all : AllByRecursion (Lawful list.day) (take (length list.limits) list.limits) = subst (AllByRecursion (Lawful list.day)) (sym (take_all (length list.limits) list.limits (omega arith))) list.lawful in
    let lawful : AllByRecursion (Lawful list.day) (take (length list.limits - 1) list.limits) = all_but_newest (length list.limits) list.limits (omega arith) (omega arith) (Lawful list.day) all in
    subst (AllByRecursion (Lawful list.day)) (sym c.drop_newest.ensures) lawful

pub returns : goal.returns
returns c =
    let limits = c.args.self.now.limits in
    let last = get_or limits (length limits - 1) nowhere in
    let without : limits ≡ take (length limits - 1) limits ++ (last ∷ []) = sym (take_all (length limits) limits (omega arith)) ∙ and_newest (length limits) limits (omega arith) (omega arith) in
    (last, cc)
