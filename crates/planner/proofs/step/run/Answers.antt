use Rattle.std.proofs.Common.{refl, sym, ◌∙◌, subst, add-one}
use Rattle.problem.specs.Problems.{rules_of}
use Rattle.search.specs.Searches.{Step, Steps}
use Rattle.planner.specs.Facts.{state_of}
use Rattle.planner.proofs.Loadings.{limits_of, day_of, loaded_none}
use Rattle.planner.proofs.step.run.Goals as goal

pub loop-made-init : goal.loop-made-init
loop-made-init g c =
    let p = c.args.problem.now in
    record {
      steps = refl;
      ready = record {
        sound = c.requires.sound;
        price_is = c.plan_price.ensures;
        loaded = λ position e. loaded_none p.day (rules_of p) position.items _ (day_of c.empty.ensures ∙ c.day.ensures) (limits_of c.empty.ensures);
      };
    }

pub loop-made-preserved : goal.loop-made-preserved
loop-made-preserved g c =
    let way = g.W.Counting.way in
    let p = c.args.problem.now in
    let plan = c.loop-made.progress.plan in
    let t = state_of (record { position = c.step-progress.result; plan = c.step-progress.new.plan }) in
    let step = subst (λ o. Step way p.day (rules_of p) (state_of (record { position = o; plan = plan })) t) c.in-Some.ensures.value c.step-progress.ensures.step in
    record {
      steps = subst (λ n. Steps way p.day (rules_of p) (state_of c.args.progress.now) n t) (sym (add-one c.loop-made.made)) (state_of c.loop-made.progress, c.loop-made.invariant.steps, step);
      ready = c.step-progress.ensures.ready;
    }
