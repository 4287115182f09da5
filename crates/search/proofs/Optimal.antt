-- What an ended search says of all timetables.
use Rattle.std.proofs.Common.{◌≡◌, ℕ, List, Some, None, Option, refl}
use Rattle.counting.specs.Ways.{Way, Laws}
use Rattle.problem.specs.Rules.{Rule}
use Rattle.problem.specs.declared.day.Day.{Day}
use Rattle.search.specs.Selections.{Fit, Selection, Feasible}
use Rattle.search.specs.Searches.{State, After, Ended}
use Rattle.search.specs.Theorems.{NoneAllowed, Optimal, Verdict}
use Rattle.search.proofs.Ranks.{ranked}
use Rattle.search.proofs.Choosing.{selected_allowed}
use Rattle.search.proofs.Sound.{plan_sure, none_allowed, lowest, exact}
use Rattle.search.proofs.Smallest.{smallest_minutes, smallest_meet}

module _ {C : Type 0} (way : Way C) (laws : Laws way) (day : Day) (rules : List Rule) (fit : Fit day rules) (k : ℕ) (s : State) (after : After way day rules k s) (ended : Ended rules s) where
  sure : (plan : List ℕ) → s.kept ≡ Some plan → Selection rules plan × Feasible day rules plan
  sure = plan_sure way (ranked way laws) day rules k s after

  pub optimal : (plan : List ℕ) → s.kept ≡ Some plan → Optimal way day rules plan
  optimal plan n = record {
    selection = (sure plan n).0;
    minutes = smallest_minutes day rules fit plan (sure plan n).1;
    timetable = λ S least. (smallest_meet day rules fit plan S least).0;
    allowed = λ S least. selected_allowed S rules plan (sure plan n).0 (smallest_meet day rules fit plan S least).1;
    costs = λ S least. exact way laws day rules k s after ended plan n S (smallest_meet day rules fit plan S least);
    lowest = lowest way (ranked way laws) day rules k s after ended plan n;
  }

  -- where nothing is allowed, no plan is kept
  no_plan_where_none : (o : Option (List ℕ)) → s.kept ≡ o → NoneAllowed day rules → o ≡ None
  no_plan_where_none None n none = refl
  no_plan_where_none (Some plan) n none =
      let t = sure plan n in
      absurd (none t.1.0 t.1.1.0 (selected_allowed t.1.0 rules plan t.0 t.1.1.1))

  pub verdict : Verdict way day rules s
  verdict = record {
    no_plan = (none_allowed way (ranked way laws) day rules k s after ended, no_plan_where_none s.kept refl);
    optimal = optimal;
  }
