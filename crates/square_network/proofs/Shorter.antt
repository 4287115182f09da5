-- The shorter of two ways, and what stays true of distances when a limit shortens them.
use Rattle.std.specs.Prelude.{◌≡◌, ℤ, pos, ◌+ℤ◌, ◌≤ℤ◌}
use Rattle.std.proofs.Common.{sym, arith}
use Rattle.std.specs.Int.{int_min}
use Rattle.std.proofs.lemmas.Int.{ints, clamps}

pub is_old : (a b r : ℤ) → a ≤ℤ b → r ≡ a → r ≡ int_min a b
is_old a b r le e = grind (arith, ints)

pub under_old : (a b : ℤ) → int_min a b ≤ℤ a
under_old a b = omega (arith, ints, clamps)

pub under_new : (a b : ℤ) → int_min a b ≤ℤ b
under_new a b = omega (arith, ints, clamps)

-- no way from an event back to itself is shorter than 0
pub same_kept : (same ix b yi yx : ℤ) → same ≡ pos 0 → yx ≤ℤ (yi +ℤ ix) → pos 0 ≤ℤ (yx +ℤ b) → int_min same ((ix +ℤ b) +ℤ yi) ≡ pos 0
same_kept same ix b yi yx e round free = sym (is_old same ((ix +ℤ b) +ℤ yi) (pos 0) (omega (arith, ints)) (sym e))

-- a way from i to m is no longer than one by way of j
pub triangle_kept : (im ij jm ix jx b yj ym yx : ℤ) → im ≤ℤ (ij +ℤ jm) → ix ≤ℤ (ij +ℤ jx) → ym ≤ℤ (yj +ℤ jm)
    → yx ≤ℤ (yj +ℤ jx) → pos 0 ≤ℤ (yx +ℤ b)
    → int_min im ((ix +ℤ b) +ℤ ym) ≤ℤ (int_min ij ((ix +ℤ b) +ℤ yj) +ℤ int_min jm ((jx +ℤ b) +ℤ ym))
triangle_kept im ij jm ix jx b yj ym yx t₁ t₂ t₃ t₄ free = omega (arith, ints, clamps)
