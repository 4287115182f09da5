use Rattle.std.proofs.Common.{◌≡◌, ℕ, ◌+◌, ◌<◌, List, [], ◌∷◌, ◌++◌, length, get_or, Ok, Result, sym, ap, ◌∙◌, subst, arith, below_more}
use Rattle.std.proofs.lemmas.List.{get_or_push, get_or_append_left}
use Rattle.problem.specs.declared.refusal.Refusal.{Refusal}
use Rattle.network.specs.Calls.{Asked}
use Rattle.network.specs.Nets.{Net, Earliest}
use Rattle.planner.proofs.step.earliest_minutes.Goals as goal

-- one event more
more : (m : Net) (ms ns : List ℕ) (k t : ℕ) (r : Result ℕ Refusal) → length ms ≡ k → ((i : ℕ) → i < k → Earliest m i (get_or ms i 0)) → r ≡ Ok t → Asked m k r → ns ≡ ms ++ t ∷ []
    → (i : ℕ) → i < k + 1 → Earliest m i (get_or ns i 0)
more m ms ns k t r long h ok asked e =
    below_more _ _
    (λ i l. let w : i < length ms = omega arith in subst (Earliest m i) (sym (ap (λ xs. get_or xs i 0) e ∙ get_or_append_left ms (t ∷ []) 0 i w)) (h i l))
    (subst (Earliest m k) (sym (ap (λ xs. get_or xs k 0) e ∙ get_or_push ms t 0 k long)) (subst (Asked m k) ok asked).1)

pub loop-event-preserved : goal.loop-event-preserved
loop-event-preserved g c = record {
  each = omega (arith, c.push.ensures.len);
  earliest = more (g.N.Network.net c.args.network.now) c.loop-event.minutes.items c.push.new.self.items c.loop-event.event c.unwrap.result c.earliest.result c.loop-event.invariant.each c.loop-event.invariant.earliest c.unwrap.ensures c.earliest.ensures c.push.ensures.items;
}
