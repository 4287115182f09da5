-- A timetable meets a prefix exactly if it solves the network of its limits, and these limits are lawful where the rules fit.
use Rattle.std.proofs.Common.{◌≡◌, ℕ, zero, suc, ◌<◌, true, ltb, List, [], ◌∷◌, ◌++◌, map, length, get_or, ℤ, pos, ◌-ℤ◌, neg_ℤ, ◌≤ℤ◌, sym, subst, ap₂, arith}
use lib.Signed.{le_z}
use Rattle.std.specs.List.{flat_map, AllByRecursion}
use Rattle.std.proofs.ByRecursion.{All-append, All-map, All-get_or}
use Rattle.std.proofs.lemmas.Int.{ints}
use Rattle.std.proofs.lemmas.Bool.{and_parts, and_from, ltb-true, not-true, not_from_false, eqb-false, ne_eqb}
use Rattle.problem.specs.Bounds.{max_bound}
use Rattle.problem.specs.Checks.{passes, rule_checks, disjunct_checks, kind_checks, two_events, in_range}
use Rattle.problem.specs.Rules.{Rule}
use Rattle.problem.specs.Timetables.{Choice, option, give_up, giving_up, choices, gap, Chosen}
use Rattle.problem.specs.declared.constraint.Disjunct.{Disjunct}
use Rattle.problem.specs.declared.constraint.Kind.{Kind}
use Rattle.problem.specs.declared.constraint.Kind.TheVariants.{Firm, Wish}
use Rattle.problem.specs.declared.day.Day.{Day}
use Rattle.problem.proofs.Fit.{passes_parts, passes_each}
use Rattle.network.specs.Limits.{Lawful, Keeps}
use Rattle.network.specs.Nets.{Solves}
use Rattle.network.specs.declared.limit.Limit.{Limit}
use Rattle.search.specs.Selections.{no_choice, picked, Fit, Met}
use Rattle.search.specs.Limiting.{choice_limits, prefix_limits, prefix_net}

module _ (T : ℕ → ℕ) where
  -- meeting an option is keeping its two limits
  pub chosen_keeps : (ch : Choice) → Chosen T ch → AllByRecursion (Keeps T) (choice_limits ch)
  chosen_keeps (give_up p) h = tt
  chosen_keeps (option d) h =
      let low : d.lo ≤ℤ gap T d.x d.y = h.0 in
      (h.1, (omega (arith, ints), tt))

  pub keeps_chosen : (ch : Choice) → AllByRecursion (Keeps T) (choice_limits ch) → Chosen T ch
  keeps_chosen (give_up p) h = tt
  keeps_chosen (option d) h =
      let low : gap T d.y d.x ≤ℤ neg_ℤ d.lo = h.1.0 in
      (omega (arith, ints), h.0)

  all_keep : (chs : List Choice) → AllByRecursion (Chosen T) chs → AllByRecursion (Keeps T) (flat_map choice_limits chs)
  all_keep [] h = tt
  all_keep (ch ∷ chs) h = All-append (Keeps T) (choice_limits ch) (flat_map choice_limits chs) (chosen_keeps ch h.0) (all_keep chs h.1)

  -- what holds of two lists put together holds of each
  all_parts : (ls ks : List Limit) → AllByRecursion (Keeps T) (ls ++ ks) → AllByRecursion (Keeps T) ls × AllByRecursion (Keeps T) ks
  all_parts [] ks h = (tt, h)
  all_parts (l ∷ ls) ks h = let t = all_parts ls ks h.1 in ((h.0, t.0), t.1)

  all_chosen : (chs : List Choice) → AllByRecursion (Keeps T) (flat_map choice_limits chs) → AllByRecursion (Chosen T) chs
  all_chosen [] h = tt
  all_chosen (ch ∷ chs) h = let t = all_parts (choice_limits ch) (flat_map choice_limits chs) h in (keeps_chosen ch t.0, all_chosen chs t.1)

module _ (day : Day) (rules : List Rule) (T : ℕ → ℕ) (prefix : List ℕ) where
  pub met_solves : Met day rules T prefix → Solves (prefix_net day rules prefix) T
  met_solves m = (m.0, all_keep T (picked rules prefix) m.1)

  pub solves_met : Solves (prefix_net day rules prefix) T → Met day rules T prefix
  solves_met s = (s.0, all_chosen T (picked rules prefix) s.1)

module _ (day : Day) where
  -- an option that passes the checks; giving up always does
  abbrev pub SoundChoice : Choice → Type 0
  SoundChoice (option d) = passes (disjunct_checks day d) ≡ true
  SoundChoice (give_up p) = Unit {0}

  sound_giving_up : (k : Kind) → AllByRecursion SoundChoice (giving_up k)
  sound_giving_up Firm = tt
  sound_giving_up (Wish p) = (tt, tt)

  sound_choices : (r : Rule) → passes (rule_checks day r) ≡ true → AllByRecursion SoundChoice (choices r)
  sound_choices r h =
      let rest = (passes_parts (kind_checks r.kind) (flat_map (disjunct_checks day) r.options) (and_parts _ _ h).1).1 in
      All-append SoundChoice (map option r.options) (giving_up r.kind)
      (All-map SoundChoice option r.options (passes_each (disjunct_checks day) r.options rest)) (sound_giving_up r.kind)

  -- what a list holds, or else its default
  sound_at : (chs : List Choice) (n : ℕ) → AllByRecursion SoundChoice chs → SoundChoice (get_or chs n no_choice)
  sound_at [] n h = tt
  sound_at (ch ∷ chs) zero h = h.0
  sound_at (ch ∷ chs) (suc n) h = sound_at chs n h.1

  sound_picked : (rules : List Rule) (ns : List ℕ) → AllByRecursion (λ r. passes (rule_checks day r) ≡ true) rules → AllByRecursion SoundChoice (picked rules ns)
  sound_picked [] ns h = tt
  sound_picked (r ∷ rules) [] h = tt
  sound_picked (r ∷ rules) (n ∷ ns) h = (sound_at (choices r) n (sound_choices r h.0), sound_picked rules ns h.1)

  -- every choice of rules that fit the day is sound
  pub fit_sound : (rules : List Rule) (ns : List ℕ) → Fit day rules → AllByRecursion SoundChoice (picked rules ns)
  fit_sound rules ns fit = sound_picked rules ns (passes_each (rule_checks day) rules fit)

  -- events the other way round
  two_events_turned : (x y : ℕ) → two_events day x y ≡ true → two_events day y x ≡ true
  two_events_turned x y h =
      let p = and_parts (ltb x day.events) _ h in
      let q = and_parts (ltb y day.events) _ p.1 in
      let apart : x ≡ y → ⊥ = eqb-false x y (not-true _ q.1) in
      and_from _ _ q.0 (and_from _ _ p.0 (not_from_false _ (ne_eqb y x (λ e. apart (sym e)))))

  in_range_turned : (b : ℤ) → in_range b ≡ true → in_range (neg_ℤ b) ≡ true
  in_range_turned b h =
      let p = and_parts (le_z (neg_ℤ (pos max_bound)) b) _ h in
      let low : le_z (neg_ℤ (pos max_bound)) (neg_ℤ b) ≡ true = let e = p.1 in grind (arith, ints) in
      let high : le_z (neg_ℤ b) (pos max_bound) ≡ true = let e = p.0 in grind (arith, ints) in
      and_from _ _ low high

  sound_lawful : (ch : Choice) → SoundChoice ch → AllByRecursion (Lawful day) (choice_limits ch)
  sound_lawful (give_up p) h = tt
  sound_lawful (option d) h =
      let p = and_parts (two_events day d.x d.y) _ h in
      let q = (and_parts _ _ p.1).0 in
      let low = and_parts (in_range d.lo) _ q in
      let high = (and_parts (in_range d.hi) _ low.1).0 in
      (record { events = p.0; bound = high }, (record { events = two_events_turned d.x d.y p.0; bound = in_range_turned d.lo low.0 }, tt))

  all_lawful : (chs : List Choice) → AllByRecursion SoundChoice chs → AllByRecursion (Lawful day) (flat_map choice_limits chs)
  all_lawful [] h = tt
  all_lawful (ch ∷ chs) h = All-append (Lawful day) (choice_limits ch) (flat_map choice_limits chs) (sound_lawful ch h.0) (all_lawful chs h.1)

  -- the limits of a choice of a rule that fits are lawful
  pub choice_lawful : (rules : List Rule) → Fit day rules → (i n : ℕ) (d : Rule) → i < length rules → AllByRecursion (Lawful day) (choice_limits (get_or (choices (get_or rules i d)) n no_choice))
  choice_lawful rules fit i n d l =
      let r = get_or rules i d in
      sound_lawful (get_or (choices r) n no_choice)
      (sound_at (choices r) n (sound_choices r (All-get_or (λ q. passes (rule_checks day q) ≡ true) rules i d l (passes_each (rule_checks day) rules fit))))

  -- the limits of a prefix are lawful
  pub prefix_lawful : (rules : List Rule) (prefix : List ℕ) → Fit day rules → AllByRecursion (Lawful day) (prefix_limits rules prefix)
  prefix_lawful rules prefix fit = all_lawful (picked rules prefix) (fit_sound rules prefix fit)

  -- the events of a sound option are of the day
  sound_events : (d : Disjunct) → SoundChoice (option d) → (d.x < day.events) × (d.y < day.events)
  sound_events d h =
      let p = (and_parts (two_events day d.x d.y) _ h).0 in
      let q = and_parts (ltb d.x day.events) _ p in
      (ltb-true _ _ q.0, ltb-true _ _ (and_parts (ltb d.y day.events) _ q.1).0)

  -- whether a choice is met depends on the day's events alone
  chosen_local : (T U : ℕ → ℕ) → ((i : ℕ) → i < day.events → T i ≡ U i) → (ch : Choice) → SoundChoice ch × Chosen T ch → Chosen U ch
  chosen_local T U same (give_up p) h = tt
  chosen_local T U same (option d) (s, m) =
      let e = sound_events d s in
      let g : gap T d.x d.y ≡ gap U d.x d.y = ap₂ (λ a b. pos a -ℤ pos b) (same d.x e.0) (same d.y e.1) in
      (subst (λ z. d.lo ≤ℤ z) g m.0, subst (λ z. z ≤ℤ d.hi) g m.1)

  pub all_chosen_local : (T U : ℕ → ℕ) → ((i : ℕ) → i < day.events → T i ≡ U i) → (chs : List Choice) → AllByRecursion SoundChoice chs → AllByRecursion (Chosen T) chs → AllByRecursion (Chosen U) chs
  all_chosen_local T U same [] h m = tt
  all_chosen_local T U same (ch ∷ chs) h m = (chosen_local T U same ch (h.0, m.0), all_chosen_local T U same chs h.1 m.1)
