-- Arrays made by a closure, index by index.
use Rattle.std.proofs.Common.{◌≡◌, ℕ, zero, suc, ◌+◌, ◌<◌, ◌≤◌, List, slice_index_or, sym, subst, ⊎_elim, arith}
use Rattle.std.proofs.lemmas.Bool.{cases_eq}
use Rattle.std.specs.Array.{IsFromFnResult, IsFromFnResultFrom}
use denote.Param.Members.{Mut, Called}

-- what holds of the closure, and stays true by its calls, tells each element
each_from : {F B : Type 0} (g : Mut F (ℕ × Unit {0}) B) (I : F → Type 0) (P : ℕ → B → Type 0)
    → ((p q : F) (k : ℕ) (y : B) → I p → Called g p (k, tt) y q → I q × P k y) → (f : F) (ys : List B) (i n : ℕ) → I f
    → IsFromFnResultFrom g f ys i n → (k : ℕ) (d : B) → i ≤ k → k < i + n → P k (slice_index_or ys k d)
each_from g I P step f ys i zero start each k d low high = absurd (omega arith)
each_from g I P step f ys i (suc n) start (q, y, is, called, rest) k d low high =
    let s = step f q i y start called in
    ⊎_elim
    (λ (e : k ≡ i).
    let G : ℕ → Type 0 = λ m. P m (slice_index_or ys m d) in
    subst G (sym e) (subst (P i) (sym (is.1 d)) s.1))
    (λ (apart : k ≡ i → ⊥). each_from g I P step q ys (i + 1) n s.0 rest k d (omega arith) (omega arith))
    (cases_eq k i)

pub each_made : {F B : Type 0} (g : Mut F (ℕ × Unit {0}) B) (f : F) (ys : List B) (n : ℕ) → IsFromFnResult g f ys n → (I : F → Type 0) (P : ℕ → B → Type 0) → I f
    → ((p q : F) (k : ℕ) (y : B) → I p → Called g p (k, tt) y q → I q × P k y) → (k : ℕ) (d : B) → k < n → P k (slice_index_or ys k d)
each_made g f ys n made I P start step k d below = each_from g I P step f ys 0 n start made.each k d (omega arith) (omega arith)
