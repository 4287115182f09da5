-- Which calls do not belong to a state.
use Rattle.std.proofs.Common.{◌≡◌, ℕ, true, false, arith}
use Rattle.problem.specs.declared.constraint.Constraint.{Constraint}
use Rattle.histories.specs.Histories.{of_draft}
use Rattle.histories.specs.declared.calls.Call.{Call}

-- a call that is none of the first four
pub beyond_draft : (c : Call) → ((events horizon : ℕ) → c ≡ Call.Set events horizon → ⊥) → ((r : Constraint) → c ≡ Call.Adopt r → ⊥) → ((number : ℕ) → c ≡ Call.Drop number → ⊥) → (c ≡ Call.Close → ⊥) → of_draft c ≡ false
beyond_draft c set adopt drop close = grind arith

-- a call that is none of the last four
pub beyond_search : (c : Call) → ((steps : ℕ) → c ≡ Call.Press steps → ⊥) → (c ≡ Call.Outcome → ⊥) → ((event : ℕ) → c ≡ Call.Read event → ⊥) → (c ≡ Call.Reopen → ⊥) → of_draft c ≡ true
beyond_search c press outcome read reopen = grind arith
