-- A limit is put on the rows of a table, one after another.
use Rattle.std.proofs.Common.{◌≡◌, ℕ, ◌+◌, ◌<◌, ◌≤◌, List, [], ◌++◌, length, get_or, take, set, ℤ, pos, sym, ap, ◌∙◌, subst, ⊎_elim, arith}
use Rattle.std.proofs.lemmas.List.{get_or-set_same, get_or-set_other, get_or-take, get_or_append_left}
use Rattle.std.proofs.lemmas.Bool.{cases_eq}
use Rattle.problem.specs.declared.day.Day.{Day}
use Rattle.network.specs.declared.limit.Limit.{Limit}
use Rattle.square_network.specs.Distances.{Square, at, shorter, Shortened}
use Rattle.square_network.specs.Rows.{ShortenedRow}

-- E has the first i rows of D once the limit is put on, and those left of the day as D has them
pub record RowsDone (day : Day) (D : Square) (l : Limit) (i : ℕ) (E : Square) : Type 0 where
  pub done : (k j : ℕ) → k < i → j < day.events → at E k j ≡ shorter D l k j
  pub left : (k : ℕ) → i ≤ k → k < day.events → get_or E k [] ≡ get_or D k []

module _ (day : Day) (D : Square) (l : Limit) where
  pub rows_none : (n : ℕ) → n ≡ day.events → RowsDone day D l 0 (take n D)
  rows_none n all = record {
    done = λ k j lt. absurd (omega arith);
    left = λ k le lt. get_or-take n D k [] (omega arith);
  }

  -- one row more
  pub row_more : (i : ℕ) (E : Square) (R : List ℤ) → RowsDone day D l i E → i < length E
      → ShortenedRow day (get_or D i []) (get_or D l.y []) l R → RowsDone day D l (i + 1) (set E i R)
  row_more i E R so_far inside new = record { done = done; left = left }
    where
      done : (k j : ℕ) → k < i + 1 → j < day.events → at (set E i R) k j ≡ shorter D l k j
      done k j lt column =
          ⊎_elim
          (λ (e : k ≡ i).
          let F : ℕ → Type 0 = λ m. at (set E i R) m j ≡ shorter D l m j in
          subst F (sym e) (ap (λ S. get_or S j (pos 0)) (get_or-set_same E i R [] inside) ∙ new j column))
          (λ (apart : k ≡ i → ⊥).
          ap (λ S. get_or S j (pos 0)) (get_or-set_other E i k R [] apart) ∙ so_far.done k j (omega arith) column)
          (cases_eq k i)

      left : (k : ℕ) → i + 1 ≤ k → k < day.events → get_or (set E i R) k [] ≡ get_or D k []
      left k le lt =
          let apart : k ≡ i → ⊥ = λ e. omega arith in
          get_or-set_other E i k R [] apart ∙ so_far.left k (omega arith) lt

  -- all rows of the day, before those past it
  pub rows_all : (i : ℕ) (E F : Square) → RowsDone day D l i E → day.events ≤ i → day.events ≤ length E → Shortened day D l (E ++ F)
  rows_all i E F so_far all long k j row column =
      ap (λ S. get_or S j (pos 0)) (get_or_append_left E F [] k (omega arith)) ∙ so_far.done k j (omega arith) column
