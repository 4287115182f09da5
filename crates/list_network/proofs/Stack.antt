-- The smallest minutes of each beginning of the limits, and how the calls keep them.
use Rattle.std.proofs.Common.{◌≡◌, ℕ, ◌+◌, ◌<◌, ◌≤◌, List, [], ◌∷◌, ◌++◌, length, take, replicate, get_or, set, sym, ap, ◌∙◌, subst, refl, inl, inr, ⊎_elim, None, Some, Err, Ok, Result, MatchResult, rules, arith}
use Rattle.std.specs.Result.{result_err}
use Rattle.std.proofs.ByRecursion.{All-weaker, All-push}
use Rattle.std.proofs.lemmas.List.{get_or-set_same, get_or-set_other, get_or-replicate, get_or_past, length-replicate, length_push, take_all, take-append-le}
use Rattle.std.proofs.lemmas.Bool.{cases_eq, cases_lt}
use Rattle.problem.specs.Bounds.{max_events}
use Rattle.problem.specs.Timetables.{minute}
use Rattle.problem.specs.declared.refusal.Refusal.{Refusal}
use Rattle.network.specs.Calls.{refusal_before, with_limit}
use Rattle.network.specs.Limits.{Keeps, max_limits}
use Rattle.network.specs.Lists.{net_of}
use Rattle.network.specs.Nets.{Net, Solves, Unsolvable, Earliest}
use Rattle.network.specs.declared.limit.Limit.{Limit}
use Rattle.list_network.specs.Relaxing.{Old, Candidate, Below, Lost, Settling, Settled}
use Rattle.list_network.specs.Held.{newest}
use Rattle.list_network.specs.Model.{modelled}
use Rattle.network.proofs.Solutions.{all_first}
use Rattle.list_network.proofs.Rounds.{all_right}
use Rattle.list_network.specs.Smallest.{Smallest, Stacked, beginning}
use Rattle.list_network.specs.declared.list.ListNetwork.{ListNetwork}
use Rattle.list_network.specs.declared.relax.Relaxation.{Relaxation}

zeros : (n i : ℕ) → minute (replicate n 0) i ≡ 0
zeros n i =
    ⊎_elim (λ (lt : i < n). get_or-replicate n i 0 0 lt)
    (λ (le : n ≤ i). get_or_past (replicate n 0) i 0 (simp length-replicate le)) (cases_lt i n)

-- no limits: all minutes are 0
pub fresh : (m : Net) (tss : List (List ℕ)) → m.limits ≡ [] → get_or tss 0 [] ≡ replicate max_events 0 → Stacked m tss
fresh m tss none row k le =
    let e : 0 ≡ k = omega (arith, ap length none) in
    let F : List Limit → Type 0 = λ ls. Smallest (record { day = m.day; limits = take k ls }) (get_or tss k []) in
    let G : ℕ → Type 0 = λ j. Smallest (record { day = m.day; limits = take j [] }) (get_or tss j []) in
    let H : List ℕ → Type 0 = Smallest (record { day = m.day; limits = [] }) in
    subst F (sym none) (subst G e (subst H (sym row) zero_smallest))
  where
    zero_smallest : Smallest (record { day = m.day; limits = [] }) (replicate max_events 0)
    zero_smallest = record {
      size = length-replicate {A = ℕ} max_events 0;
      solves = ((zeros max_events 0, λ i lt. omega (arith, zeros max_events i)), tt);
      lowest = λ T solves i. omega (arith, zeros max_events i);
    }

-- the limit l is put on m, whose smallest minutes are row
module _ (m : Net) (l : Limit) (row : List ℕ) (s : Smallest m row) where
  abbrev longer : List Limit
  longer = m.limits ++ (l ∷ [])

  -- a timetable of the day that keeps all limits is a candidate, and the minutes so far are below it
  candidate : (T : ℕ → ℕ) → Solves (with_limit m l) T → Candidate m.day l longer row T
  candidate T t = record {
    timetable = t.0;
    keeps_newest = (all_right (Keeps T) m.limits (l ∷ []) t.1).0;
    keeps = t.1;
    old = All-push (Old row l) m.limits l (All-weaker (Keeps (minute row)) (Old row l) (λ k h. inl h) m.limits s.solves.1) (inr refl);
  }

  starts_below : (T : ℕ → ℕ) → Solves (with_limit m l) T → Below l row T row
  starts_below T t i =
      let low = s.lowest T (t.0, all_first (Keeps T) m.limits (l ∷ []) t.1) i in
      (omega arith, low, λ lt. absurd (omega arith))

  -- no minutes left: no timetable
  pub clashes : Lost m.day l longer row → Unsolvable (with_limit m l)
  clashes lost T t = lost row T (candidate T t) (starts_below T t)

  -- minutes at rest are the smallest
  pub settled : (ts : List ℕ) → Settling m.day l longer row ts → Smallest (with_limit m l) ts
  settled ts r = record {
    size = r.size;
    solves = (r.timetable, r.keeps);
    lowest = λ T t i. (r.follows row T (candidate T t) (starts_below T t) i).1;
  }

-- the smallest minutes of one limit more, on top
pub one_more :
    (m : Net) (l : Limit) (tss : List (List ℕ)) (ts : List ℕ) → Stacked m tss → length m.limits + 1 < length tss → Smallest (with_limit m l) ts
    → Stacked (with_limit m l) (set tss (length m.limits + 1) ts)
one_more m l tss ts s space top k le =
    let n = length m.limits in
    let G : List Limit → Net = λ ls. record { day = m.day; limits = ls } in
    let F : Net → Type 0 = λ o. Smallest o (get_or (set tss (n + 1) ts) k []) in
    let long = length_push m.limits l in
    ⊎_elim
    (λ (e : k ≡ n + 1).
    let all : with_limit m l ≡ beginning k (with_limit m l) = ap G (sym (take_all k (m.limits ++ (l ∷ [])) (omega arith))) in
    let H : ℕ → Type 0 = λ j. Smallest (with_limit m l) (get_or (set tss (n + 1) ts) j []) in
    let K : List ℕ → Type 0 = Smallest (with_limit m l) in
    subst F all (subst H (sym e) (subst K (sym (get_or-set_same tss (n + 1) ts [] space)) top)))
    (λ (apart : k ≡ n + 1 → ⊥).
    let within : k ≤ n = omega arith in
    let K : List ℕ → Type 0 = Smallest (beginning k m) in
    let first : beginning k m ≡ beginning k (with_limit m l) = ap G (sym (take-append-le k m.limits (l ∷ []) within)) in
    subst F first (subst K (sym (get_or-set_other tss (n + 1) k ts [] apart)) (s k within)))
    (cases_eq k (n + 1))

-- the smallest minutes answer for a network
pub earliest : (m : Net) (row : List ℕ) → Smallest m row → (i t : ℕ) → t ≡ minute row i → Earliest m i t
earliest m row s i t e = record {
  reached = (minute row, s.solves, sym e);
  lowest = λ T solves. omega (arith, e, s.lowest T solves i);
}

-- a limit that passes its checks is put on
pub is_put :
    (m n : Net) (l : Limit) (answer : Result Unit Refusal) (Q : Refusal → Type 0) → refusal_before m l ≡ None → result_err answer ≡ refusal_before m l
    → MatchResult answer (λ _. n ≡ with_limit m l) Q → n ≡ with_limit m l
is_put m n l (Ok _) Q passes refused put = put
is_put m n l (Err e) Q passes refused put =
    let none : Some e ≡ None = refused ∙ passes in
    search rules

-- the limit l is put on the network s, whose newest minutes r began to relax
module _
    (s : ListNetwork) (l : Limit) (r : Relaxation) (same : net_of r.limits.now ≡ modelled s) (newest_is : r.newest ≡ l)
    (k : ℕ) (count : k ≡ length (modelled s).limits) (starts : r.times ≡ get_or s.times k [])
  where
    abbrev row : List ℕ
    row = get_or s.times (length (modelled s).limits) []

    at_start : (P : Net → Limit → List ℕ → Type 0) → P (net_of r.limits.now) r.newest r.times → P (modelled s) l row
    at_start P h =
        let F : Net → Type 0 = λ m. P m l row in
        let G : Limit → Type 0 = λ j. P (net_of r.limits.now) j row in
        let row_is : r.times ≡ row = starts ∙ ap (λ j. get_or s.times j []) count in
        subst F same (subst G newest_is (subst (P (net_of r.limits.now) r.newest) row_is h))

    pub put_clashes : (ts : List ℕ) → Settled r (Err (record {})) ts → Unsolvable (with_limit (modelled s) l)
    put_clashes ts h = clashes (modelled s) l row (newest s) (at_start (λ m l row. Lost m.day l (m.limits ++ (l ∷ [])) row) h)

    module _ (ts : List ℕ) (h : Settled r (Ok tt) ts) where
      put_settled : Smallest (with_limit (modelled s) l) ts
      put_settled = settled (modelled s) l row (newest s) ts (at_start (λ m l row. Settling m.day l (m.limits ++ (l ∷ [])) row ts) h)

      module _ (n : Net) (put : n ≡ with_limit (modelled s) l) where
        pub put_smallest : Smallest n ts
        put_smallest = let F : Net → Type 0 = λ m. Smallest m ts in subst F (sym put) put_settled

        pub put_stacked : (j : ℕ) → j ≡ length (modelled s).limits → length n.limits ≤ max_limits → Stacked n (set s.times (j + 1) ts)
        put_stacked j is few =
            let m = modelled s in
            let longer : length n.limits ≡ length m.limits + 1 = ap (λ o. length o.limits) put ∙ length_push m.limits l in
            let F : ℕ → Type 0 = λ i. Stacked (with_limit m l) (set s.times (i + 1) ts) in
            let G : Net → Type 0 = λ o. Stacked o (set s.times (j + 1) ts) in
            subst G (sym put) (subst F (sym is) (one_more m l s.times ts s.stacked (omega (arith, s.rows)) put_settled))
