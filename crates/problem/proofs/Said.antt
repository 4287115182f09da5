-- The rules of a problem, by what they say, and the vector that holds them.
use Rattle.std.proofs.Common.{◌≡◌, ℕ, zero, suc, true, List, [], ◌∷◌, ◌++◌, map, length, take, drop, vec_items, vec_len, sym, refl, ap, ◌∙◌, ap₂}
use Rattle.std.proofs.lemmas.List.{length-map, map_push, map-append, take-map, drop-map}
use Rattle.std.specs.List.{flat_map, remove}
use Rattle.problem.specs.declared.constraint.Constraint.{Constraint}
use Rattle.problem.specs.Checks.{Check, passes}
use Rattle.problem.specs.Rules.{Rule, rule_of}
use Rattle.problem.proofs.Fit.{passes_parts, passes_append}
use Rattle.problem.specs.declared.problems.Problem.{Problem}
use Rattle.problem.specs.Problems.{rules_of}

pub rules_count : (p : Problem) → length (rules_of p) ≡ vec_len p.rules
rules_count p = length-map (vec_items p.rules) rule_of ∙ sym p.rules.ok.0

-- one constraint more
pub rules_push : (cs ds : List Constraint) (c : Constraint) → ds ≡ cs ++ c ∷ [] → map rule_of ds ≡ map rule_of cs ++ rule_of c ∷ []
rules_push cs ds c e = ap (map rule_of) e ∙ map_push rule_of cs c

-- one constraint less
pub rules_removed : (cs ds : List Constraint) (i : ℕ) → ds ≡ remove cs i → map rule_of ds ≡ remove (map rule_of cs) i
rules_removed cs ds i e =
    ap (map rule_of) e ∙ map-append rule_of (take i cs) (drop (suc i) cs)
    ∙ ap₂ ◌++◌ (sym (take-map rule_of i cs)) (sym (drop-map rule_of (suc i) cs))

-- the rules that are left fit as they did
pub passes_removed : (f : Rule → List Check) (rs : List Rule) (i : ℕ) → passes (flat_map f rs) ≡ true → passes (flat_map f (remove rs i)) ≡ true
passes_removed f [] zero h = refl
passes_removed f [] (suc i) h = refl
passes_removed f (r ∷ rs) zero h = (passes_parts (f r) (flat_map f rs) h).1
passes_removed f (r ∷ rs) (suc i) h =
    let p = passes_parts (f r) (flat_map f rs) h in
    passes_append (f r) (flat_map f (remove rs i)) p.0 (passes_removed f rs i p.1)
