-- What the checks of rules say of their choices.
use Rattle.std.proofs.Common.{◌≡◌, ℕ, zero, suc, ◌+◌, ◌≤◌, true, leb, List, [], ◌∷◌, length, refl, arith}
use Rattle.std.specs.List.{AllByRecursion}
use Rattle.std.proofs.ByRecursion.{All-weaker}
use Rattle.std.proofs.lemmas.Bool.{and_parts, leb-true}
use Rattle.problem.specs.Bounds.{max_disjuncts}
use Rattle.problem.specs.Checks.{passes, rule_checks}
use Rattle.problem.specs.Rules.{Rule}
use Rattle.problem.specs.Timetables.{choices}
use Rattle.problem.specs.declared.constraint.Kind.{Kind}
use Rattle.problem.specs.declared.constraint.Kind.TheVariants.{Firm, Wish}
use Rattle.problem.specs.declared.day.Day.{Day}
use Rattle.problem.proofs.Fit.{passes_each}
use Rattle.search.specs.Selections.{Fit}
use Rattle.planner.specs.Choosing.{width_at}
use Rattle.planner.proofs.Choosing.{width_firm, width_wish}
use Rattle.planner.proofs.Order.{SomeChoice}

-- a rule has as many choices as options, or one more
widths : (r : Rule) (k : Kind) → r.kind ≡ k → (length r.options ≤ length (choices r)) × (length (choices r) ≤ length r.options + 1)
widths r Firm e = let w = width_firm r e in (omega arith, omega arith)
widths r (Wish p) e = let w = width_wish r p e in (omega arith, omega arith)

module _ (day : Day) where
  -- 1 to 9 choices
  abbrev Wide : Rule → Type 0
  Wide r = (1 ≤ length (choices r)) × (length (choices r) ≤ 9)

  wide : (r : Rule) → passes (rule_checks day r) ≡ true → Wide r
  wide r h =
      let p = and_parts (leb 1 (length r.options)) _ (and_parts _ _ h).0 in
      let low = leb-true 1 (length r.options) p.0 in
      let high = leb-true (length r.options) max_disjuncts p.1 in
      let w = widths r r.kind refl in
      (omega arith, omega arith)

  all_wide : (rules : List Rule) → Fit day rules → AllByRecursion Wide rules
  all_wide rules fit = All-weaker (λ r. passes (rule_checks day r) ≡ true) Wide wide rules (passes_each (rule_checks day) rules fit)

  pub fit_some : (rules : List Rule) → Fit day rules → SomeChoice rules
  fit_some rules fit = All-weaker Wide (λ r. 1 ≤ length (choices r)) (λ r w. w.0) rules (all_wide rules fit)

  wide_at : (rules : List Rule) (i : ℕ) → AllByRecursion Wide rules → width_at rules i ≤ 9
  wide_at [] i w = omega arith
  wide_at (r ∷ rules) zero w = w.0.1
  wide_at (r ∷ rules) (suc i) w = wide_at rules i w.1

  pub fit_width : (rules : List Rule) (i : ℕ) → Fit day rules → width_at rules i ≤ 9
  fit_width rules i fit = wide_at rules i (all_wide rules fit)
