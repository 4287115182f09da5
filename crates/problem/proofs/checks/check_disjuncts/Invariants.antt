use Rattle.std.proofs.Common.{◌≡◌, drop}
use Rattle.std.specs.List.{flat_map}
use Rattle.problem.specs.Checks.{first_refusal, disjunct_checks}
use Rattle.problem.proofs.checks.check_disjuncts.Given as goal

-- the disjuncts so far pass, so the rest decides
abbrev pub invariant-loop-disjunct : goal.invariant-loop-disjunct
invariant-loop-disjunct l = first_refusal (flat_map (disjunct_checks l.day) l.disjuncts) ≡ first_refusal (flat_map (disjunct_checks l.day) (drop l.disjunct-index l.disjuncts))
