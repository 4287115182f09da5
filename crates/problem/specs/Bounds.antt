-- The bounds of a problem.
--   max_events, max_horizon   of a day
--   max_rules                 of a problem
--   max_disjuncts             of a rule
--   max_bound                 of a gap between two events
use Rattle.std.specs.Prelude.{ℕ}

-- the most events
abbrev pub max_events : ℕ
max_events = 32

-- the minutes of a week
abbrev pub max_horizon : ℕ
max_horizon = 10080

-- the most rules
abbrev pub max_rules : ℕ
max_rules = 32

-- the most options
abbrev pub max_disjuncts : ℕ
max_disjuncts = 8

-- no gap within a day is longer
abbrev pub max_bound : ℕ
max_bound = max_horizon
