use Rattle.std.proofs.Common.{◌≡◌, ◌∙◌, ℕ, ◌+◌, None, length, set, sym, ap, refl, inr}
use Rattle.std.proofs.lemmas.List.{length-set}
use Rattle.std.proofs.lemmas.Result.{err_from_is_err_and}
use Rattle.problem.specs.Checks.{first_refusal}
use Rattle.problem.specs.Timetables.{minute}
use Rattle.problem.specs.declared.day.Day.{Day}
use Rattle.network.specs.Calls.{Clashing, Granted, refusal_before, with_limit}
use Rattle.network.specs.Limits.{limit_checks}
use Rattle.network.specs.Lists.{net_of}
use Rattle.network.specs.declared.limit.Limit.{Limit}
use Rattle.network.proofs.Lists.{few_limits}
use Rattle.list_network.specs.declared.list.ListNetwork.{ListNetwork}
use Rattle.list_network.specs.Model.{modelled}
use Rattle.list_network.specs.Smallest.{Smallest, Stacked}
use Rattle.list_network.proofs.Stack.{is_put, put_clashes, put_smallest, put_stacked}
use Rattle.list_network.proofs.list.calls.ListNetworkNetwork.push.Goals as goal

-- the checks that the limit passed are those of the network
checked : (s : ListNetwork) (day : Day) (count : ℕ) (l : Limit) → day ≡ s.limits.day → count ≡ length (modelled s).limits
    → None ≡ first_refusal (limit_checks day count l) → refusal_before (modelled s) l ≡ None
checked s day count l same many passes =
    sym (passes ∙ (ap (λ d. first_refusal (limit_checks d count l)) same ∙ ap (λ k. first_refusal (limit_checks s.limits.day k l)) many))

pub returns-in_err-settle : goal.returns-in_err-settle
returns-in_err-settle c =
    let s = c.args.self.now in
    let l = c.args.limit in
    let begun = c.new-relaxation.ensures in
    let told = err_from_is_err_and c.from_residual-in_err-settle.result c.from_residual-in_err-settle.ensures.1 in
    let clashing : Clashing (modelled s) l told.0 = record {
      passes = checked s _ _ l c.day.ensures c.len.ensures c.in_ok-check_limit.ensures;
      clash = told.2;
      unsolvable = put_clashes s l c.new-relaxation.result (ap net_of begun.limits) begun.newest _ c.len-2.ensures begun.times c.settle.new.self.times c.in_err-settle.ensures;
    } in
    rw told.1 (inr clashing, refl)

pub invariant_of-self : goal.invariant_of-self
invariant_of-self c =
    let s = c.args.self.now in
    let l = c.args.limit in
    let begun = c.new-relaxation.ensures in
    let times = c.settle.new.self.times in
    let passes = checked s _ _ l c.day.ensures c.len.ensures c.in_ok-check_limit.ensures in
    let put : net_of c.push.new.self ≡ with_limit (modelled s) l = is_put (modelled s) _ l _ _ passes c.push.ensures.refused c.push.ensures.cases in
    let stacked : Stacked (net_of c.push.new.self) (set s.times (c.len-3.result + 1) times) =
    put_stacked s l c.new-relaxation.result (ap net_of begun.limits) begun.newest _ c.len-2.ensures begun.times times c.in_ok-settle.ensures _ put _ c.len-3.ensures (few_limits c.push.new.self) in
    record { rows = simp length-set s.rows; stacked = search stacked }

pub returns : goal.returns
returns c =
    let s = c.args.self.now in
    let l = c.args.limit in
    let begun = c.new-relaxation.ensures in
    let times = c.settle.new.self.times in
    let put : net_of c.push.new.self ≡ with_limit (modelled s) l = c.in_ok-push.ensures.cases in
    let smallest : Smallest (net_of c.push.new.self) times =
    put_smallest s l c.new-relaxation.result (ap net_of begun.limits) begun.newest _ c.len-2.ensures begun.times times c.in_ok-settle.ensures _ put in
    let granted : Granted (modelled s) l (net_of c.push.new.self) =
    record { passes = sym c.in_ok-push.ensures.refused; becomes = put; solvable = (minute times, smallest.solves) } in
    search granted
