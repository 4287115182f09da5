-- The progress of a new search, and what a search tells of its progress.
use Rattle.std.proofs.Common.{◌≡◌, ℕ, ◌<◌, List, length, get_or, replicate, is_some, Some, None, Option, Result, IfOk, Bor, ltb, sym, refl, ap, ◌∙◌, subst}
use Rattle.std.specs.Option.{option_map, option_copied, unwrap_or, ok_or}
use Rattle.std.proofs.lemmas.Bool.{ltb-true}
use Rattle.counting.specs.Ways.{Way}
use Rattle.problem.specs.Rules.{Rule}
use Rattle.problem.specs.Timetables.{minute}
use Rattle.problem.specs.declared.day.Day.{Day}
use Rattle.problem.specs.declared.refusal.Refusal.{Refusal}
use Rattle.search.specs.Outcomes.{TellsWord, Tells, kept_price, given_word, given_bits}
use Rattle.search.specs.Searches.{State, Start, Running, Ended}
use Rattle.search.specs.Selections.{picked, price}
use Rattle.search.specs.Tests.{before}
use Rattle.search.specs.declared.word.Word.{Word}
use Rattle.search.proofs.Testing.{every_chosen, selects_selection}
use Rattle.planner.specs.Advancing.{passed}
use Rattle.planner.specs.Calls.{Reads, word_of}
use Rattle.planner.specs.Choosing.{Choices}
use Rattle.planner.specs.Facts.{SoundProgress, state_of}
use Rattle.planner.specs.declared.progress.Plan.{Plan}
use Rattle.planner.specs.declared.progress.Progress.{Progress}
use Rattle.planner.proofs.Loadings.{never}
use Rattle.planner.proofs.Order.{SomeChoice, before_first, selects_first}
use Rattle.planner.proofs.Stepping.{before_self}

-- nothing is settled yet, and nothing kept
module _ (day : Day) (rules : List Rule) (some : SomeChoice rules) (first : Choices) (zeros : first.items ≡ replicate (length rules) 0) where
  pub fresh_sound : (p : Progress) → p.position ≡ Some first → p.plan ≡ None → SoundProgress day rules p
  fresh_sound p start none = record {
    placed = λ position e. (let same : position ≡ first = cc in rw (same, zeros) (selects_first rules some));
    kept = λ plan e. absurd (never plan p.plan none e);
  }

  pub fresh_start : {C : Type 0} (way : Way C) (s : State) → ((ns : List ℕ) → s.settled ns ≡ before ns first.items) → s.kept ≡ None → Start way day rules s
  fresh_start way s start none = record {
    unsettled = λ ns r. start ns ∙ rw zeros (before_first ns (length rules));
    no_plan = none;
  }

-- what is read at a place that is there
pub read_got : (P : ℕ → Type 0) (xs : List ℕ) (event : ℕ) (x : Option (Bor ℕ)) (r : Result ℕ Refusal) (e : Refusal) → r ≡ ok_or (option_copied x) e → is_some x ≡ ltb event (length xs)
    → unwrap_or (option_map (λ (y : Bor ℕ). y.now) x) 0 ≡ get_or xs event 0 → (event < length xs → P (get_or xs event 0)) → IfOk r P
read_got P xs event None r e q l v h = subst (λ s. IfOk s P) (sym q) tt
read_got P xs event (Some y) r e q l v h = subst (λ s. IfOk s P) (sym q) (subst P (sym v) (h (ltb-true _ _ (sym l))))

module _ (day : Day) (rules : List Rule) (p : Progress) (sound : SoundProgress day rules p) where
  abbrev state : State
  state = state_of p

  -- with a position a search runs, and without one it has ended
  running : (position : Choices) → p.position ≡ Some position → Running rules state
  running position e = (position.items, selects_selection rules _ (sound.placed position e), ap (λ x. passed x position.items) e ∙ before_self position.items)

  ended : p.position ≡ None → Ended rules state
  ended e = λ ns r. ap (λ x. passed x ns) e

  -- the word is the one of the state
  word_tells : (o : Option Choices) (k : Option Plan) → p.position ≡ o → p.plan ≡ k → TellsWord rules state (word_of o k)
  word_tells (Some position) None e k = (running position e, ap (option_map (λ (q : Plan). q.choices.items)) k)
  word_tells (Some position) (Some plan) e k = (running position e, (_, ap (option_map (λ (q : Plan). q.choices.items)) k))
  word_tells None None e k = (ended e, ap (option_map (λ (q : Plan). q.choices.items)) k)
  word_tells None (Some plan) e k = (ended e, (_, ap (option_map (λ (q : Plan). q.choices.items)) k))

  module _ (plan : Plan) (kept : p.plan ≡ Some plan) where
    kept_selection : state.kept ≡ Some plan.choices.items
    kept_selection = ap (option_map (λ (q : Plan). q.choices.items)) kept

    pub reads : (event : ℕ) → event < day.events → Reads day rules state event (minute plan.minutes.items event)
    reads event l =
        let good = sound.kept plan kept in (
          plan.choices.items,
          kept_selection,
          record {
            reached = (minute plan.minutes.items, ((good.starts, good.ends), every_chosen (minute plan.minutes.items) (picked rules plan.choices.items) good.meets), refl);
            lowest = λ T m. good.lowest event T (l, m);
          },
        )

    pub told_kept : {C : Type 0} (way : Way C) (w : Word) (cost : C) (given : ℕ) → w ≡ word_of p.position p.plan → cost ≡ price way rules plan.choices.items
        → given ≡ given_bits rules plan.choices.items → Tells way rules state w cost given
    told_kept way w cost given e f g = record {
      word_is = subst (TellsWord rules state) (sym e) (word_tells p.position p.plan refl refl);
      cost_is = f ∙ ap (kept_price way rules) (sym kept_selection);
      given_is = g ∙ ap (given_word rules) (sym kept_selection);
    }

  module _ (none : p.plan ≡ None) where
    no_selection : state.kept ≡ None
    no_selection = ap (option_map (λ (q : Plan). q.choices.items)) none

    pub told_none : {C : Type 0} (way : Way C) (w : Word) (cost : C) → w ≡ word_of p.position p.plan → cost ≡ way.zero → Tells way rules state w cost 0
    told_none way w cost e f = record {
      word_is = subst (TellsWord rules state) (sym e) (word_tells p.position p.plan refl refl);
      cost_is = f ∙ ap (kept_price way rules) (sym no_selection);
      given_is = ap (given_word rules) (sym no_selection);
    }
