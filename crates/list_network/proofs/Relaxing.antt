-- One limit relaxed.
use Rattle.std.proofs.Common.{◌≡◌, ℕ, zero, suc, ◌<◌, ◌≤◌, ◌⊎◌, List, [], ◌∷◌, length, get_or, set, ℤ, pos, neg_ℤ, ◌≤ℤ◌, ◌<ℤ◌, sym, ap, ◌∙◌, subst, ⊎_elim, le_of_suc-le-suc, arith}
use Rattle.std.proofs.lemmas.List.{get_or-set_same, get_or-set_other}
use Rattle.std.proofs.lemmas.Int.{ints}
use Rattle.std.proofs.lemmas.Bool.{cases_eq, cases_lt}
use Rattle.problem.specs.Bounds.{max_horizon, max_bound}
use Rattle.problem.specs.Timetables.{OfDay, minute}
use Rattle.problem.specs.declared.day.Day.{Day}
use Rattle.network.specs.Limits.{Lawful, Keeps}
use Rattle.network.specs.declared.limit.Limit.{Limit}
use Rattle.network.proofs.Taken.{lawful_x, lawful_y, lawful_low, lawful_high}
use Rattle.list_network.specs.Relaxing.{slack, least, Candidate, Forced, Below, Rising, Lost}

-- a raised minute is nearer to the horizon
slack_set : (h v : ℕ) (ts : List ℕ) (i : ℕ) → i < length ts → get_or ts i 0 < v → v ≤ h → slack h (set ts i v) < slack h ts
slack_set h v [] i inside more high = omega arith
slack_set h v (t ∷ ts) zero inside more high = omega arith
slack_set h v (t ∷ ts) (suc i) inside more high = omega (arith, slack_set h v ts i (le_of_suc-le-suc inside) more high)

-- after a write at y, what holds of the new minute and held of each minute holds of each
at_set : (P : ℕ → ℕ → Type 0) (ts : List ℕ) (y v : ℕ) → y < length ts → P y v → ((i : ℕ) → P i (minute ts i)) → (i : ℕ) → P i (minute (set ts y v) i)
at_set P ts y v inside here else i =
    ⊎_elim
    (λ (e : i ≡ y).
    let Q : ℕ → Type 0 = λ k. P k (minute (set ts y v) k) in
    let R : ℕ → Type 0 = λ k. P y k in
    subst Q (sym e) (subst R (sym (get_or-set_same ts y v 0 inside)) here))
    (λ (apart : i ≡ y → ⊥).
    let R : ℕ → Type 0 = λ k. P i k in
    subst R (sym (get_or-set_other ts y i v 0 apart)) (else i))
    (cases_eq i y)

-- what l, which leaves to its y no less than z, forces on a candidate that ts are below
module _
    (day : Day) (newest l : Limit) (ts : List ℕ) (z : ℤ) (more : pos (minute ts l.y) <ℤ z) (is : z ≡ least l ts)
    (us : List ℕ) (T : ℕ → ℕ) (cand : Candidate day newest (l ∷ []) us T) (below : Below newest us T ts)
  where
    reached : z ≤ℤ pos (T l.y)
    reached =
        let at = below l.x in
        let kept = cand.keeps.0 in
        omega (arith, ints)

    forced_old : Keeps (minute us) l → Forced newest us T l.y z
    forced_old old =
        let kept = cand.keeps.0 in
        let at = below l.x in
        let here = below l.y in
        ⊎_elim
        (λ (lt : minute us l.x < minute ts l.x). let raised = at.2 lt in omega (arith, ints))
        (λ (le : minute ts l.x ≤ minute us l.x). omega (arith, ints))
        (cases_lt (minute us l.x) (minute ts l.x))

    forced_newest : Keeps T l → Below l us T ts → Forced l us T l.y z
    forced_newest kept low =
        let at = low l.x in
        ⊎_elim
        (λ (lt : minute us l.x < minute ts l.x). let raised = at.2 lt in omega (arith, ints))
        (λ (le : minute ts l.x ≤ minute us l.x). omega (arith, ints))
        (cases_lt (minute us l.x) (minute ts l.x))

    forced : Forced newest us T l.y z
    forced =
        let F : Limit → Type 0 = λ k. Keeps T k → Below k us T ts → Forced k us T l.y z in
        ⊎_elim forced_old (λ (e : l ≡ newest). subst F e forced_newest cand.keeps_newest below) cand.old.0

module _ (day : Day) (newest l : Limit) (ts : List ℕ) (lawful : Lawful day l) where
  -- the minute of y is raised to v
  pub raised : (v : ℕ) → l.y < length ts → minute ts l.y < v → v ≤ day.horizon → pos v ≡ least l ts → Rising day newest (l ∷ []) ts (set ts l.y v)
  raised v inside more high is =
      let higher : pos (minute ts l.y) <ℤ pos v = omega (arith, ints) in
      record {
        nearer = slack_set day.horizon v ts l.y inside more high;
        follows = λ us T cand below.
            let to : pos v ≤ℤ pos (T l.y) = reached day newest l ts (pos v) higher is us T cand below in
            at_set (λ i t. (minute us i ≤ t) × (t ≤ T i) × (minute us i < t → Forced newest us T i (pos t))) ts l.y v inside
            (omega (arith, below l.y), omega (arith, ints), λ _. forced day newest l ts (pos v) higher is us T cand below) below;
      }

  -- no minute is left for y
  pub stuck :
      (z : ℤ) → pos (minute ts l.y) <ℤ z → z ≡ least l ts
      → (l.y ≡ 0) ⊎ ((l.y ≡ newest.x) ⊎ (pos day.horizon <ℤ z)) → Lost day newest (l ∷ []) ts
  stuck z more is why us T cand below =
      let to : z ≤ℤ pos (T l.y) = reached day newest l ts z more is us T cand below in
      let past = forced day newest l ts z more is us T cand below in
      let here = below l.y in
      let kept = cand.keeps_newest in
      ⊎_elim
      (λ (e : l.y ≡ 0). let t : T l.y ≡ 0 = ap T e ∙ cand.timetable.0 in omega (arith, ints))
      (⊎_elim
      (λ (e : l.y ≡ newest.x).
      let t : T l.y ≡ T newest.x = ap T e in
      let u : minute us l.y ≡ minute us newest.x = ap (minute us) e in
      omega (arith, ints))
      (λ (late : pos day.horizon <ℤ z). let by = cand.timetable.1 l.y (lawful_y day l lawful) in omega (arith, ints)))
      why

-- what l leaves to its y is made of small numbers
module _ (day : Day) (l : Limit) (ts : List ℕ) (lawful : Lawful day l) (timetable : OfDay day (minute ts)) where
  pub small : (minute ts l.x ≤ max_horizon) × (minute ts l.y ≤ max_horizon) × (neg_ℤ (pos max_bound) ≤ℤ l.bound) × (l.bound ≤ℤ pos max_bound)
  small = (
    omega (arith, day.week, timetable.1 l.x (lawful_x day l lawful)),
    omega (arith, day.week, timetable.1 l.y (lawful_y day l lawful)),
    lawful_low day l lawful,
    lawful_high day l lawful,
  )
