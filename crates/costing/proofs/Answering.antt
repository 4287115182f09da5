-- What the rules of a problem say of a timetable of its day.
use Rattle.std.proofs.Common.{◌≡◌, ℕ, ◌<◌, true, List, map, length, get_or, take, sym, ap, ◌∙◌, subst, subst₂}
use Rattle.std.specs.List.{HoldsAt, AllByRecursion}
use Rattle.std.proofs.ByRecursion.{All-get_or}
use Rattle.std.proofs.lemmas.List.{length-map, get_or-map}
use Rattle.counting.specs.Ways.{Way, Laws}
use Rattle.problem.specs.Checks.{passes, rule_checks}
use Rattle.problem.specs.Costs.{Costs}
use Rattle.problem.specs.Timetables.{OfDay, minute, choices, Satisfies}
use Rattle.problem.specs.Rules.{Rule, rule_of}
use Rattle.problem.specs.Problems.{rules_of}
use Rattle.problem.specs.declared.constraint.Constraint.{Constraint}
use Rattle.problem.specs.declared.problems.Problem.{Problem}
use Rattle.problem.specs.declared.timetable.Timetable.{Timetable as Given}
use Rattle.problem.proofs.Fit.{passes_each}
use Rattle.costing.specs.Answers.{Timetable, Priced, ForbiddenBy}
use Rattle.costing.specs.Cheapest.{Unmet}
use Rattle.costing.proofs.Totals.{costs_allowed, costs_same, unmet_broken, unmet_not_allowed}

-- a timetable of the problem's day, by its minutes
pub timetable_of : (p : Problem) (ms : List ℕ) (t : Given) → t.day ≡ p.day → t.minutes.now ≡ ms → Timetable p ms
timetable_of p ms t d m = subst₂ (λ day xs. (length xs ≡ day.events) × OfDay day (minute xs)) d m (t.count, t.of_day)

-- the constraint at a place states a rule that fits the problem's day
pub rule_fits : (p : Problem) (cs : List Constraint) (i : ℕ) (r : Constraint) → map rule_of cs ≡ rules_of p → i < length cs → r ≡ get_or cs i r → passes (rule_checks p.day (rule_of r)) ≡ true
rule_fits p cs i r e l is =
    let Fits : Rule → Type 0 = λ x. passes (rule_checks p.day x) ≡ true in
    let within : i < length (map rule_of cs) = simp length-map l in
    let all : AllByRecursion Fits (map rule_of cs) = subst (AllByRecursion Fits) (sym e) (passes_each (rule_checks p.day) (rules_of p) p.fit) in
    subst Fits (get_or-map rule_of cs i r (rule_of r) l ∙ ap rule_of (sym is)) (All-get_or Fits (map rule_of cs) i (rule_of r) within all)

module _ (p : Problem) (ms : List ℕ) (t : Timetable p ms) where
  pub answers_cost : {C : Type 0} (way : Way C) (laws : Laws way) (rs : List Rule) (c : C) → rs ≡ rules_of p → Costs way (minute ms) rs c → Priced way p ms c
  answers_cost way laws rs c e h =
      let k = subst (λ xs. Costs way (minute ms) xs c) e h in
      record {
        timetable = t;
        allowed = costs_allowed way (minute ms) (rules_of p) c k;
        costs = k;
        only = λ d m. costs_same way laws (minute ms) (rules_of p) c d k m;
      }

  pub answers_rule : (rs : List Rule) (i k : ℕ) → i ≡ k → rs ≡ rules_of p
      → (i < length rs) × AllByRecursion (Satisfies (minute ms)) (take i rs) × HoldsAt (λ r. Unmet (minute ms) (choices r)) rs i → ForbiddenBy p ms k
  answers_rule rs i k n e h =
      let P : ℕ → List Rule → Type 0 = λ j xs. (j < length xs) × AllByRecursion (Satisfies (minute ms)) (take j xs) × HoldsAt (λ r. Unmet (minute ms) (choices r)) xs j in
      let m : P k (rules_of p) = subst₂ P n e h in
      record {
        timetable = t;
        within = m.0;
        earlier = m.1;
        broken = λ r. unmet_broken (minute ms) (get_or (rules_of p) k r) (m.2 r);
        not_allowed = unmet_not_allowed (minute ms) (rules_of p) k m.0 m.2;
      }
