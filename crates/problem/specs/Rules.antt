-- Rules, by what they say.
--   Rule      a kind, and options in their stated order
--   rule_of   the rule that a constraint of the program states
use Rattle.std.specs.Prelude.{List, vec_items}
use Rattle.problem.specs.declared.constraint.Constraint.{Constraint}
use Rattle.problem.specs.declared.constraint.Disjunct.{Disjunct}
use Rattle.problem.specs.declared.constraint.Kind.{Kind}

-- what a rule says
pub record Rule : Type 0 where
  pub kind : Kind
  pub options : List Disjunct

-- apart from the memory that holds it
abbrev pub rule_of : Constraint → Rule
rule_of c = record { kind = c.kind; options = vec_items c.disjuncts }
