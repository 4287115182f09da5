-- The checks of the calls, each call's in its order.
--   Check             a condition, and the refusal that comes where it does not hold
--   first_refusal     the refusal of the first check that does not hold
--   passes            every check holds
--   in_range          a bound is within range
--   two_events        two different events of a day
--   day_checks        of a day: its events, its horizon
--   penalty_checks    of a penalty
--   kind_checks       of a rule's kind: the penalty for giving it up
--   disjunct_checks   of an option: its events, its bounds, its penalty
--   rule_checks       of a rule: how many options, its kind, then each option
use Rattle.std.specs.Prelude.{ℕ, Bool, true, cond, not, ◌&&◌, List, [], ◌∷◌, ◌++◌, length, ℤ, pos, neg_ℤ, Some, None, Option, ◌==◌, int_le, nat_le, nat_lt}
use Rattle.std.specs.List.{flat_map}
use Rattle.counting.specs.Stops.{max_breaches, max_points}
use Rattle.counting.specs.declared.penalty.Penalty.{Penalty}
use Rattle.problem.specs.Bounds.{max_events, max_horizon, max_disjuncts, max_bound}
use Rattle.problem.specs.Rules.{Rule}
use Rattle.problem.specs.declared.constraint.Disjunct.{Disjunct}
use Rattle.problem.specs.declared.constraint.Kind.{Kind}
use Rattle.problem.specs.declared.constraint.Kind.TheVariants.{Firm, Wish}
use Rattle.problem.specs.declared.day.Day.{Day}
use Rattle.problem.specs.declared.refusal.Refusal.{Refusal}
use Rattle.problem.specs.declared.refusal.Refusal.TheVariants as refusal

-- a condition, and the refusal that comes where it does not hold
pub record Check : Type 0 where
  pub holds : Bool
  pub otherwise : Refusal

-- such a condition
abbrev pub check : Bool → Refusal → Check
check b e = record { holds = b; otherwise = e }

-- the refusal of the first check that does not hold, or none
abbrev pub first_refusal : List Check → Option Refusal
first_refusal [] = None
first_refusal (c ∷ cs) = cond c.holds (first_refusal cs) (Some c.otherwise)

-- every check holds
abbrev pub passes : List Check → Bool
passes [] = true
passes (c ∷ cs) = c.holds && passes cs

-- 1 to max_events events, and a horizon up to max_horizon
abbrev pub day_checks : ℕ → ℕ → List Check
day_checks events horizon =
    check (nat_le 1 events && nat_le events max_events) refusal.EventCount
    ∷ (check (nat_le horizon max_horizon) refusal.HorizonRange ∷ [])

-- no more breaches and points than one penalty may have
abbrev pub penalty_checks : Penalty → List Check
penalty_checks p = check (nat_le p.breaches max_breaches && nat_le p.points max_points) refusal.PenaltyRange ∷ []

-- the penalty for giving a wish up
abbrev pub kind_checks : Kind → List Check
kind_checks Firm = []
kind_checks (Wish p) = penalty_checks p

-- from -max_bound to max_bound
abbrev pub in_range : ℤ → Bool
in_range b = int_le (neg_ℤ (pos max_bound)) b && int_le b (pos max_bound)

-- x and y are two different events of the day
abbrev pub two_events : Day → ℕ → ℕ → Bool
two_events day x y = nat_lt x day.events && (nat_lt y day.events && not (x == y))

-- two different events of the day, both bounds in range and in order, and the penalty
abbrev pub disjunct_checks : Day → Disjunct → List Check
disjunct_checks day d =
    check (two_events day d.x d.y) refusal.EventPair
    ∷ (check (in_range d.lo && (in_range d.hi && int_le d.lo d.hi)) refusal.BoundRange ∷ penalty_checks d.penalty)

-- 1 to max_disjuncts options, then the kind, then each option in stated order
abbrev pub rule_checks : Day → Rule → List Check
rule_checks day r =
    check (nat_le 1 (length r.options) && nat_le (length r.options) max_disjuncts) refusal.DisjunctCount
    ∷ (kind_checks r.kind ++ flat_map (disjunct_checks day) r.options)
