use Rattle.std.proofs.Common.{Err, subst}
use Rattle.std.proofs.lemmas.Result.{err_from_is_err_and}
use Rattle.network.specs.Calls.{Granted, Pushed}
use Rattle.search.specs.Limiting.{upper_limit, lower_limit}
use Rattle.planner.proofs.Loadings.{put_none, put_one}
use Rattle.planner.proofs.load.push_option.Goals as goal

pub returns-in_err-push : goal.returns-in_err-push
returns-in_err-push g c =
    let m = g.N.Network.net c.args.network.now in
    let m₁ = g.N.Network.net c.push.new.self in
    let d = c.args.option in
    let p = err_from_is_err_and c.from_residual.result c.from_residual.ensures.1 in
    let clash : Pushed m (upper_limit d) (Err c.in_err-push.field-0.0) m₁ = subst (λ l. Pushed m l (Err c.in_err-push.field-0.0) m₁) c.upper_limit.ensures c.in_err-push.ensures in
    rw p.1 (put_none m m₁ (upper_limit d) (lower_limit d) c.in_err-push.field-0.0 c.requires.lawful.0 c.requires.room clash)

pub returns-in-Err : goal.returns-in-Err
returns-in-Err g c =
    let m = g.N.Network.net c.args.network.now in
    let m₁ = g.N.Network.net c.push.new.self in
    let m₂ = g.N.Network.net c.push-2.new.self in
    let d = c.args.option in
    let one : Granted m (upper_limit d) m₁ = subst (λ l. Granted m l m₁) c.upper_limit.ensures c.in_ok-push.ensures in
    let clash : Pushed m₁ (lower_limit d) (Err c.in-Err.refusal) m₂ = subst (λ l. Pushed m₁ l (Err c.in-Err.refusal) m₂) c.lower_limit.ensures c.in-Err.ensures in
    put_one m m₁ m₂ (g.N.Network.net c.pop.new.self) (upper_limit d) (lower_limit d) c.in-Err.refusal c.pop.result c.requires.lawful.1.0 c.requires.room one clash c.pop.ensures
