-- Problems, and the checks of the calls on them.
--   rules_of             the rules of a problem
--   MadeOf               a problem has this day and these rules
--   rules_set_checks     the checks of a day, then that no rules stand
--   rules_adopt_checks   that there is room, then the checks of the rule
--   set_checks, adopt_checks   those two of a problem
--   drop_checks          that there is such a rule
use Rattle.std.specs.Prelude.{◌≡◌, ℕ, List, [], ◌∷◌, ◌++◌, map, length, vec_items, ◌==◌, nat_lt}
use Rattle.problem.specs.declared.day.Day.{Day}
use Rattle.problem.specs.declared.problems.Problem.{Problem}
use Rattle.problem.specs.declared.refusal.Refusal.TheVariants as refusal
use Rattle.problem.specs.Bounds.{max_rules}
use Rattle.problem.specs.Checks.{Check, check, day_checks, rule_checks}
use Rattle.problem.specs.Rules.{Rule, rule_of}

-- what its constraints state, in their order
abbrev pub rules_of : Problem → List Rule
rules_of p = map rule_of (vec_items p.rules)

-- the problem has so many events, this horizon and these rules
pub record MadeOf (events horizon : ℕ) (rules : List Rule) (p : Problem) : Type 0 where
  pub events_are : p.day.events ≡ events
  pub horizon_is : p.day.horizon ≡ horizon
  pub rules_are : rules_of p ≡ rules

-- a day's own checks, then that no rules stand
abbrev pub rules_set_checks : List Rule → ℕ → ℕ → List Check
rules_set_checks rules events horizon = day_checks events horizon ++ (check (length rules == 0) refusal.RulesStand ∷ [])

-- that fewer than max_rules rules stand, then the rule's own checks on the day
abbrev pub rules_adopt_checks : Day → List Rule → Rule → List Check
rules_adopt_checks day rules r = check (nat_lt (length rules) max_rules) refusal.RuleCount ∷ rule_checks day r

-- where the problem's rules stand
abbrev pub set_checks : Problem → ℕ → ℕ → List Check
set_checks p events horizon = rules_set_checks (rules_of p) events horizon

-- on the problem's day, where its rules stand
abbrev pub adopt_checks : Problem → Rule → List Check
adopt_checks p r = rules_adopt_checks p.day (rules_of p) r

-- that the rules reach to this number
abbrev pub drop_checks : List Rule → ℕ → List Check
drop_checks rules number = check (nat_lt number (length rules)) refusal.NoSuchRule ∷ []
