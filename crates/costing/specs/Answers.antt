-- What `cost_of` answers.
--   Timetable     the minutes are a timetable of the problem's day
--   Broken        a firm rule of which no option is met
--   Priced        the minutes are an allowed timetable and cost this, and nothing else
--   ForbiddenBy   the minutes are a timetable that is not allowed, and this rule is the first that forbids it
--   Costed        the answer
use Rattle.std.specs.Prelude.{◌≡◌, ℕ, ◌<◌, List, length, take, Ok, Err, Result}
use Rattle.std.specs.List.{HoldsAt, AllByRecursion}
use Rattle.counting.specs.Ways.{Way}
use Rattle.problem.specs.Costs.{Costs}
use Rattle.problem.specs.Flaws.{Flawed}
use Rattle.problem.specs.Problems.{rules_of}
use Rattle.problem.specs.Rules.{Rule}
use Rattle.problem.specs.Timetables.{OfDay, minute, Meets, Satisfies, Allowed}
use Rattle.problem.specs.declared.constraint.Kind.TheVariants.{Firm}
use Rattle.problem.specs.declared.problems.Problem.{Problem}
use Rattle.costing.specs.declared.objection.Objection.{Objection}
use Rattle.costing.specs.declared.objection.Objection.TheVariants.{NoTimetable, Forbidden}

-- one minute for each event of the day, and a timetable of it
abbrev pub Timetable : Problem → List ℕ → Type 0
Timetable p ms = (length ms ≡ p.day.events) × OfDay p.day (minute ms)

-- the rule is firm, and T meets none of its options
abbrev pub Broken : (ℕ → ℕ) → Rule → Type 0
Broken T r = (r.kind ≡ Firm) × AllByRecursion (λ d. Meets T d → ⊥) r.options

-- an allowed timetable, and its one cost
pub record Priced {C : Type 0} (way : Way C) (p : Problem) (ms : List ℕ) (c : C) : Type 0 where
  pub timetable : Timetable p ms
  pub allowed : Allowed (minute ms) (rules_of p)
  pub costs : Costs way (minute ms) (rules_of p) c
  pub only : (d : C) → Costs way (minute ms) (rules_of p) d → d ≡ c

-- a timetable that rule k, the first such, forbids
pub record ForbiddenBy (p : Problem) (ms : List ℕ) (k : ℕ) : Type 0 where
  pub timetable : Timetable p ms
  pub within : k < length (rules_of p)
  pub earlier : AllByRecursion (Satisfies (minute ms)) (take k (rules_of p))
  pub broken : HoldsAt (Broken (minute ms)) (rules_of p) k
  pub not_allowed : Allowed (minute ms) (rules_of p) → ⊥

-- what each answer says of the minutes
abbrev pub Costed : {C : Type 0} → Way C → Problem → List ℕ → Result C Objection → Type 0
Costed way p ms (Ok c) = Priced way p ms c
Costed way p ms (Err (NoTimetable flaw)) = Flawed p.day ms flaw
Costed way p ms (Err (Forbidden k)) = ForbiddenBy p ms k
