-- A step of the program is a step of the search.
use Rattle.std.proofs.Common.{◌≡◌, ℕ, ◌<◌, true, false, ◌&&◌, ◌||◌, eqb, ltb, ◌↔◌, List, [], ◌∷◌, length, get_or, take, Some, None, Option, sym, refl, ap, ◌∙◌, subst, inl, inr, arith}
use mathlib.Core.Path.{subst⁻¹}
use Rattle.std.specs.Option.{option_map}
use Rattle.std.proofs.lemmas.List.{take_all}
use Rattle.std.proofs.lemmas.Bool.{or_from, and_right, le-ltb}
use Rattle.counting.specs.Ways.{Way}
use Rattle.problem.specs.Rules.{Rule}
use Rattle.problem.specs.Timetables.{minute}
use Rattle.problem.specs.declared.day.Day.{Day}
use Rattle.network.specs.Nets.{Net, Earliest}
use Rattle.network.proofs.Solutions.{smallest_solve}
use Rattle.search.specs.Limiting.{prefix_net}
use Rattle.search.specs.Searches.{State, Outdone, Hopeless, Hopeful, First, Settles, Step}
use Rattle.search.specs.Selections.{Selection, Fit, Met, price, picked}
use Rattle.search.specs.Tests.{selects, before, same_numbers}
use Rattle.search.proofs.Limiting.{met_solves, solves_met, prefix_lawful}
use Rattle.search.proofs.Moves.{or_same}
use Rattle.search.proofs.Testing.{selects_selection, selection_selects, before_true, chosen_every}
use Rattle.planner.specs.Facts.{SoundPlan}
use Rattle.planner.specs.Loading.{Loaded}
use Rattle.planner.specs.Probing.{Beaten, HopelessAt, HopefulAt, Probed}
use Rattle.planner.specs.declared.progress.Plan.{Plan}
use Rattle.planner.proofs.Choosing.{selects_length}

-- nothing stands before itself
pub before_self : (ns : List ℕ) → before ns ns ≡ false
before_self [] = refl
before_self (n ∷ ns) =
    or_from (ltb n n) (eqb n n && before ns ns) (le-ltb n n (omega arith)) (and_right (eqb n n) (before ns ns) (before_self ns))

module _ {C : Type 0} (way : Way C) (day : Day) (rules : List Rule) where
  -- being beaten by the kept price is being outdone by the plan
  beaten_outdone : (o : Option (List ℕ)) (prefix : List ℕ) → Beaten way (option_map (price way rules) o) (price way rules prefix) → Outdone way day rules o prefix
  beaten_outdone None prefix h = h
  beaten_outdone (Some plan) prefix h = h

  outdone_beaten : (o : Option (List ℕ)) (prefix : List ℕ) → Outdone way day rules o prefix → Beaten way (option_map (price way rules) o) (price way rules prefix)
  outdone_beaten None prefix h = h
  outdone_beaten (Some plan) prefix h = h

  module _ (s : State) (best : Option C) (price_is : best ≡ option_map (price way rules) s.kept) where
    hopeless_of : (prefix : List ℕ) → HopelessAt way day rules best prefix → Hopeless way day rules s prefix
    hopeless_of prefix (inl n) = inl n
    hopeless_of prefix (inr b) = inr (beaten_outdone s.kept prefix (subst (λ o. Beaten way o (price way rules prefix)) price_is b))

    hopeful_of : (prefix : List ℕ) → HopefulAt way day rules best prefix → Hopeful way day rules s prefix
    hopeful_of prefix h = (h.0, λ o. h.1 (subst⁻¹ (λ x. Beaten way x (price way rules prefix)) price_is (outdone_beaten s.kept prefix o)))

    -- from a state in which the selections before ns are settled
    module _ (ns : List ℕ) (placed : selects rules ns ≡ true) (here : (ms : List ℕ) → s.settled ms ≡ before ms ns) (t : State) where
      first : First way day rules s ns
      first = record {
        selection = selects_selection rules ns placed;
        unsettled = here ns ∙ before_self ns;
        earlier = λ ms r b. here ms ∙ before_true ms ns b;
      }

      -- what the next position settles
      settled_next : (j : ℕ) → ((qs : List ℕ) → selects rules qs ≡ true → t.settled qs ≡ (before qs ns || same_numbers (take j qs) (take j ns)))
          → Settles way day rules (λ ms. take j ms ≡ take j ns) s t
      settled_next j passes ms r =
          let is : t.settled ms ≡ (before ms ns || same_numbers (take j ms) (take j ns)) = passes ms (selection_selects rules ms r) in
          let both = or_same (before ms ns) (take j ms) (take j ns) in (
            λ h. elim (both.0 (sym is ∙ h)) [ inl i ↦ inl (here ms ∙ i) | inr e ↦ inr e ],
            λ h. is ∙ both.1 (elim h [ inl i ↦ inl (sym (here ms) ∙ i) | inr e ↦ inr e ]),
          )

      -- a hopeless prefix is settled
      pub skip_step : (j : ℕ) → Probed way day rules best ns (Some j) → ((qs : List ℕ) → selects rules qs ≡ true → t.settled qs ≡ (before qs ns || same_numbers (take j qs) (take j ns)))
          → t.kept ≡ s.kept → Step way day rules s t
      skip_step j probed passes same = record {
        ns = ns;
        first = first;
        does = inl record {
          j = j;
          within = probed.0;
          hopeless = hopeless_of _ probed.1;
          shortest = λ i l. hopeful_of _ (probed.2 i l);
          settles = settled_next j passes;
          same_plan = same;
        };
      }

      -- the position becomes the plan
      pub keep_step : Probed way day rules best ns None → (n : ℕ) → ((qs : List ℕ) → selects rules qs ≡ true → t.settled qs ≡ (before qs ns || same_numbers (take n qs) (take n ns)))
          → n ≡ length ns → t.kept ≡ Some ns → Step way day rules s t
      keep_step probed n passes all kept =
          let whole : (ms : List ℕ) → Selection rules ms → (take n ms ≡ take n ns) ↔ (ms ≡ ns) = λ ms r.
          (let m = selects_length rules ms (selection_selects rules ms r) in
          let k = selects_length rules ns placed in
          (λ h. sym (take_all n ms (omega arith)) ∙ h ∙ take_all n ns (omega arith), λ h. ap (take n) h)) in
          record {
            ns = ns;
            first = first;
            does = inr record {
              hopeful = λ i l. hopeful_of _ (probed i l);
              settles = λ ms r.
                  let t = settled_next n passes ms r in
                  (λ h. elim (t.0 h) [ inl i ↦ inl i | inr q ↦ inr ((whole ms r).0 q) ], λ h. t.1 (elim h [ inl i ↦ inl i | inr q ↦ inr ((whole ms r).1 q) ]));
              new_plan = kept;
            };
          }

module _ (day : Day) (rules : List Rule) (fit : Fit day rules) (ns : List ℕ) (placed : selects rules ns ≡ true) (m : Net) (loaded : Loaded day rules ns (length ns) m) where
  -- the smallest minutes of the network, as a plan
  pub plan_sound : (plan : Plan) → plan.choices.items ≡ ns → length plan.minutes.items ≡ day.events
      → ((i : ℕ) → i < day.events → Earliest m i (get_or plan.minutes.items i 0)) → SoundPlan day rules plan
  plan_sound plan same each least =
      let S = minute plan.minutes.items in
      let here : plan.choices.items ≡ take (length ns) ns = same ∙ sym (take_all (length ns) ns (omega arith)) in
      let net : m ≡ prefix_net day rules plan.choices.items = loaded.loads ∙ ap (prefix_net day rules) (sym here) in
      let early : (i : ℕ) → i < day.events → Earliest (prefix_net day rules plan.choices.items) i (S i) = λ i l. subst (λ x. Earliest x i (S i)) net (least i l) in
      let met : Met day rules S plan.choices.items = solves_met day rules S _ (smallest_solve (prefix_net day rules plan.choices.items) S (prefix_lawful day rules _ fit) early) in
      record {
        selection = subst⁻¹ (λ ms. selects rules ms ≡ true) same placed;
        each = each;
        starts = met.0.0;
        ends = met.0.1;
        meets = chosen_every S (picked rules plan.choices.items) met.1;
        lowest = λ i T h. (early i h.0).lowest T (met_solves day rules T _ h.1);
      }
