-- What a limit does to the shortest distances over a list of limits.
use Rattle.std.proofs.Common.{◌≡◌, ℕ, ◌<◌, List, [], ◌∷◌, ◌++◌, get_or, pos, ◌+ℤ◌, ◌≤ℤ◌, ◌<ℤ◌, neg_ℤ, Some, None, length, refl, ap, sym, subst, ◌∙◌, arith}
use Rattle.std.proofs.lemmas.Int.{ints, clamps}
use Rattle.std.proofs.lemmas.List.Elements.{All-from_recursion, All-push, All-pop}
use Rattle.std.specs.List.{All, AllByRecursion}
use Rattle.problem.specs.Checks.{first_refusal}
use Rattle.problem.specs.Timetables.{OfDay, gap}
use Rattle.problem.specs.declared.day.Day.{Day}
use Rattle.network.specs.Calls.{with_limit, refusal_before}
use Rattle.network.specs.Limits.{Lawful, Keeps, limit_checks}
use Rattle.network.specs.Nets.{Net, Unsolvable}
use Rattle.network.specs.declared.limit.Limit.{Limit}
use Rattle.network.proofs.Taken.{taken_lawful, lawful_x, lawful_y, lawful_low, lawful_high}
use Rattle.square_network.specs.Distances.{at, through, Shortened}
use Rattle.square_network.specs.Shortest.{Bounds, Shortest}
use Rattle.square_network.specs.declared.distances.Distances.{Distances}
use Rattle.square_network.proofs.Longer.{near, old_way, new_way}

-- a limit that passed the checks of the network's day and count of limits
module _ (m : Net) (l : Limit) (day : Day) (count : ℕ) (of_day : day ≡ m.day) (counted : count ≡ length m.limits)
    (none : None ≡ first_refusal (limit_checks day count l)) where
  pub passes : refusal_before m l ≡ None
  passes =
      sym (none ∙ ap (λ k. first_refusal (limit_checks day k l)) counted ∙ ap (λ e. first_refusal (limit_checks e (length m.limits) l)) of_day)

  pub taken : Lawful m.day l
  taken = taken_lawful m.day (length m.limits) l (sym passes)

module _ (day : Day) (ls : List Limit) (d : Distances) (s : Shortest day ls d) (l : Limit) (lawful : Lawful day l) where
  lawful_there : Lawful d.day l
  lawful_there = subst (λ e. Lawful e l) (sym s.of_day) lawful

  -- the way back, and the limit
  pub back_range : (neg_ℤ (pos 20160) ≤ℤ (at d.rows l.y l.x +ℤ l.bound)) × ((at d.rows l.y l.x +ℤ l.bound) ≤ℤ pos 20160)
  back_range =
      let back = near d l.y l.x (lawful_y d.day l lawful_there) (lawful_x d.day l lawful_there) in
      let low = lawful_low day l lawful in
      let high = lawful_high day l lawful in
      (omega (arith, ints), omega (arith, ints))

  row : l.x < day.events
  row = lawful_x day l lawful

  column : l.y < day.events
  column = lawful_y day l lawful

  -- no timetable keeps a limit that is too short for the way back
  pub clashes : (at d.rows l.y l.x +ℤ l.bound) <ℤ pos 0 → Unsolvable (with_limit (record { day = day; limits = ls }) l)
  clashes short T kept =
      let parts = All-pop (Keeps T) (ls ++ l ∷ []) ls (Some l) refl (All-from_recursion (Keeps T) (ls ++ l ∷ []) kept.1) in
      let keep : Keeps T l = parts.1 in
      let back = s.sound T kept.0 parts.0 l.y l.x column row in
      omega (arith, ints)

  -- e is a copy, and d' has the distances once the limit, which leaves the way back, is put on it
  module _ (all : AllByRecursion (Lawful day) ls) (free : pos 0 ≤ℤ (at d.rows l.y l.x +ℤ l.bound)) (e d' : Distances) (copy : e ≡ d)
      (same : d'.day ≡ e.day) (of_copy : Shortened e.day e.rows l d'.rows) where
    shortened : Shortened d.day d.rows l d'.rows
    shortened = subst (λ (k : Distances). Shortened k.day k.rows l d'.rows) copy of_copy

    old : (i j : ℕ) → i < day.events → j < day.events → at d'.rows i j ≤ℤ at d.rows i j
    old = subst (λ (e : Day). (i j : ℕ) → i < e.events → j < e.events → at d'.rows i j ≤ℤ at d.rows i j) s.of_day (old_way d l lawful_there free d'.rows shortened)

    new : (i j : ℕ) → i < day.events → j < day.events → at d'.rows i j ≤ℤ through d.rows l i j
    new = subst (λ (e : Day). (i j : ℕ) → i < e.events → j < e.events → at d'.rows i j ≤ℤ through d.rows l i j) s.of_day (new_way d l lawful_there free d'.rows shortened)

    is : Shortened day d.rows l d'.rows
    is = subst (λ e. Shortened e d.rows l d'.rows) s.of_day shortened

    newest : Bounds d'.rows l
    newest =
        let w = new l.x l.y row column in
        let p = subst (λ (e : Day). (i : ℕ) → i < e.events → at d.rows i i ≡ pos 0) s.of_day d.same l.x row in
        let q = subst (λ (e : Day). (i : ℕ) → i < e.events → at d.rows i i ≡ pos 0) s.of_day d.same l.y column in
        omega (arith, ints)

    others : All (Bounds d'.rows) ls
    others k o lt =
        let limit = get_or ls k o in
        let good = All-from_recursion (Lawful day) ls all k o lt in
        let w = old limit.x limit.y (lawful_x day limit good) (lawful_y day limit good) in
        let b = s.tight k o lt in
        omega (arith, ints)

    sound : (T : ℕ → ℕ) → OfDay day T → All (Keeps T) (ls ++ l ∷ []) → (i j : ℕ) → i < day.events → j < day.events → gap T i j ≤ℤ at d'.rows i j
    sound T of kept i j p q =
        let parts = All-pop (Keeps T) (ls ++ l ∷ []) ls (Some l) refl kept in
        let keep : Keeps T l = parts.1 in
        let direct = s.sound T of parts.0 i j p q in
        let to = s.sound T of parts.0 i l.x p row in
        let from = s.sound T of parts.0 l.y j column q in
        let each = is i j p q in
        omega (arith, ints, clamps)

    pub longer : Shortest day (ls ++ l ∷ []) d'
    longer = record {
      of_day = same ∙ ap (λ (k : Distances). k.day) copy ∙ s.of_day;
      tight = All-push (Bounds d'.rows) ls l others newest;
      sound = sound;
    }
