-- What is loaded, as choices come and go.
use Rattle.std.proofs.Common.{◌≡◌, ℕ, ◌+◌, ◌*◌, ◌<◌, ◌≤◌, true, false, ltb, List, [], ◌∷◌, ◌++◌, length, get_or, take, is_some, Some, None, Ok, Err, Option, Result, MatchResult, sym, refl, ap, ◌∙◌, subst, subst₂, inl, inr, arith}
use Rattle.std.specs.List.{AllByRecursion, flat_map}
use Rattle.std.specs.Result.{is_err, IsOk}
use Rattle.std.proofs.lemmas.List.{append_assoc, append-nil, length-append, length-take, flat_map_more, same_from_push, take-take}
use Rattle.std.proofs.lemmas.Bool.{cond-true, lt-ltb, false≢true}
use Rattle.problem.specs.Checks.{first_refusal, two_events, in_range}
use Rattle.problem.specs.Rules.{Rule}
use Rattle.problem.specs.Timetables.{Choice, option, give_up, choices}
use Rattle.problem.specs.declared.constraint.Disjunct.{Disjunct}
use Rattle.problem.specs.declared.constraint.Kind.TheVariants.{Firm}
use Rattle.problem.specs.declared.day.Day.{Day}
use Rattle.problem.specs.declared.refusal.Refusal.{Refusal}
use Rattle.network.specs.Calls.{with_limit, refusal_before, Granted, Pushed, Popped}
use Rattle.network.specs.Limits.{max_limits, Lawful, limit_checks}
use Rattle.network.specs.Nets.{Net, Solves, Unsolvable}
use Rattle.network.specs.declared.limit.Limit.{Limit}
use Rattle.network.proofs.Solutions.{shorter_solvable}
use Rattle.search.specs.Limiting.{choice_limits, prefix_limits, prefix_net}
use Rattle.search.specs.Selections.{no_choice, picked, Feasible, Fit}
use Rattle.search.specs.Tests.{selects}
use Rattle.search.proofs.Choosing.{picked_take, feasible_take}
use Rattle.search.proofs.Limiting.{met_solves, solves_met, choice_lawful}
use Rattle.planner.specs.Choosing.{as_option}
use Rattle.planner.specs.Loading.{Loaded, with_limits, Put, Without}
use Rattle.planner.proofs.Choosing.{selects_length, picked_at, picked_more}

-- a lawful limit passes the checks where there is room
lawful_passes : (day : Day) (count : ℕ) (l : Limit) → Lawful day l → count < max_limits → first_refusal (limit_checks day count l) ≡ None
lawful_passes day count l h room =
    cond-true (two_events day l.x l.y) _ _ h.events
    ∙ cond-true (in_range l.bound) _ _ h.bound
    ∙ cond-true (ltb count max_limits) _ _ (lt-ltb count max_limits room)

pub never : {X : Type 0} (x : X) (o : Option X) → o ≡ None → o ≡ Some x → ⊥
never x o p q = cc

-- a refused push of such a limit is a clash
pub refused_clashes : (m m' : Net) (l : Limit) (e : Refusal) → Lawful m.day l → length m.limits < max_limits → Pushed m l (Err e) m' → Unsolvable (with_limit m l) × (m' ≡ m)
refused_clashes m m' l e h room (inl r, same) = absurd (never e (refusal_before m l) (lawful_passes m.day (length m.limits) l h room) r)
refused_clashes m m' l e h room (inr c, same) = (c.unsolvable, same)

-- a push that clashes leaves no timetable for a longer list either
longer_unsolvable : (m : Net) (l k : Limit) → Unsolvable (with_limit m l) → Unsolvable (with_limits m (l ∷ (k ∷ [])))
longer_unsolvable m l k none T s =
    none T (shorter_solvable m.day (m.limits ++ l ∷ []) (k ∷ []) T (subst (λ ls. Solves (record { day = m.day; limits = ls }) T) (sym (append_assoc m.limits (l ∷ []) (k ∷ []))) s))

-- the first of two limits clashes
pub put_none : (m m' : Net) (l k : Limit) (e : Refusal) → Lawful m.day l → length m.limits + 2 ≤ max_limits → Pushed m l (Err e) m' → Put m (l ∷ (k ∷ [])) (Err e) m'
put_none m m' l k e h room p =
    let q = refused_clashes m m' l e h (omega arith) p in
    (longer_unsolvable m l k q.0, q.1)

pub limits_of : {m m' : Net} → m ≡ m' → m.limits ≡ m'.limits
limits_of e = ap (λ (m : Net). m.limits) e

pub day_of : {m m' : Net} → m ≡ m' → m.day ≡ m'.day
day_of e = ap (λ (m : Net). m.day) e

-- the newest limit comes off
pub pop_newest : (m m' : Net) (r : Result Unit Refusal) (ls : List Limit) (l : Limit) → m.limits ≡ ls ++ l ∷ [] → Popped m r m' → Without m ls m'
pop_newest m m' (Ok u) ls l e (k, same) =
    let both = same_from_push ls m'.limits l k (sym e ∙ limits_of same) in
    (λ i. record { day = sym (day_of same) i; limits = sym both.0 i })
pop_newest m m' (Err x) ls l e (code, none, same) =
    let z : length (ls ++ l ∷ []) ≡ 0 = ap length (sym e ∙ none) in
    let n = length-append ls (l ∷ []) in
    absurd (omega arith)

-- where there is one, a pop is not refused
pub pop_done : (m m' : Net) (r : Result Unit Refusal) (ls : List Limit) (l : Limit) → m.limits ≡ ls ++ l ∷ [] → Popped m r m' → IsOk r
pop_done m m' (Ok u) ls l e p = refl
pop_done m m' (Err x) ls l e (code, none, same) =
    let z : length (ls ++ l ∷ []) ≡ 0 = ap length (sym e ∙ none) in
    let n = length-append ls (l ∷ []) in
    absurd (omega arith)

-- the second of two limits clashes, and the first comes off
pub put_one : (m m₁ m₂ m₃ : Net) (l k : Limit) (e : Refusal) (r : Result Unit Refusal) → Lawful m.day k → length m.limits + 2 ≤ max_limits
    → Granted m l m₁ → Pushed m₁ k (Err e) m₂ → Popped m₂ r m₃ → Put m (l ∷ (k ∷ [])) (Err e) m₃
put_one m m₁ m₂ m₃ l k e r h room g p q =
    let one : m₁ ≡ with_limit m l = g.becomes in
    let long : length m₁.limits ≡ length m.limits + 1 = ap length (limits_of one) ∙ length-append m.limits (l ∷ []) in
    let c = refused_clashes m₁ m₂ k e (subst (λ d. Lawful d k) (sym (day_of one)) h) (omega arith) p in
    let none : Unsolvable (with_limits m (l ∷ (k ∷ []))) =
    λ T s. c.0 T (subst (λ x. Solves (with_limit x k) T) (sym one) (subst (λ ls. Solves (record { day = m.day; limits = ls }) T) (sym (append_assoc m.limits (l ∷ []) (k ∷ []))) s)) in
    let off : Without m₂ m.limits m₃ = pop_newest m₂ m₃ r m.limits l (limits_of (c.1 ∙ one)) q in
    (none, off ∙ (λ i. record { day = (day_of (c.1 ∙ one)) i; limits = m.limits }))

-- what a refused and a granted call say
pub refused : (P Q : Type 0) (r : Result Unit Refusal) → true ≡ is_err r → MatchResult r (λ _. P) (λ _. Q) → Q
refused P Q (Ok u) e h = absurd (false≢true (sym e))
refused P Q (Err x) e h = h

pub granted : (P Q : Type 0) (r : Result Unit Refusal) → false ≡ is_err r → MatchResult r (λ _. P) (λ _. Q) → P
granted P Q (Ok u) e h = h
granted P Q (Err x) e h = absurd (false≢true e)

-- an option has two limits, giving up none
few_of : (ch : Choice) → length (choice_limits ch) ≤ 2
few_of (option d) = omega arith
few_of (give_up p) = omega arith

few_joined : (chs : List Choice) → length (flat_map choice_limits chs) ≤ 2 * length chs
few_joined [] = omega arith
few_joined (ch ∷ chs) =
    let a = few_of ch in
    let b = few_joined chs in
    let n = length-append (choice_limits ch) (flat_map choice_limits chs) in
    omega arith

few_picked : (rules : List Rule) (ns : List ℕ) → length (picked rules ns) ≤ length ns
few_picked [] ns = omega arith
few_picked (r ∷ rules) [] = omega arith
few_picked (r ∷ rules) (n ∷ ns) = let h = few_picked rules ns in omega arith

few_limits : (rules : List Rule) (ns : List ℕ) (i : ℕ) → length (prefix_limits rules (take i ns)) ≤ 2 * i
few_limits rules ns i =
    let a = few_joined (picked rules (take i ns)) in
    let b = few_picked rules (take i ns) in
    let n = length-take i ns in
    omega arith

none_limits : (ch : Choice) → as_option ch ≡ None → choice_limits ch ≡ []
none_limits (option d) e = absurd (never d (as_option (option d)) e refl)
none_limits (give_up p) e = refl

pub some_option : (ch : Choice) (d : Disjunct) → as_option ch ≡ Some d → ch ≡ option d
some_option (option c) d e = let f : c ≡ d = cc in ap option f
some_option (give_up p) d e = absurd (never d (as_option (give_up p)) refl e)

no_limits : (ch : Choice) (o : Option Disjunct) → o ≡ as_option ch → false ≡ is_some o → choice_limits ch ≡ []
no_limits (option d) o e f = absurd (false≢true (f ∙ ap is_some e))
no_limits (give_up p) o e f = refl

-- the second limit of an option comes off
off_one : (m m₁ : Net) (ch : Choice) (o : Option Disjunct) (r : Result Unit Refusal) → o ≡ as_option ch → true ≡ is_some o → Popped m r m₁
    → (ls : List Limit) → m.limits ≡ ls ++ choice_limits ch → IsOk r × ((l : Limit) × Without m (ls ++ l ∷ []) m₁)
off_one m m₁ (option d) o r e t p ls same =
    let l : Limit = record { x = d.x; y = d.y; bound = d.hi } in
    let last = same ∙ sym (append_assoc ls (l ∷ []) _) in
    (pop_done m m₁ r (ls ++ l ∷ []) _ last p, (l, pop_newest m m₁ r (ls ++ l ∷ []) _ last p))
off_one m m₁ (give_up x) o r e t p ls same = absurd (false≢true (ap is_some (sym e) ∙ sym t))

module _ (day : Day) (rules : List Rule) (ns : List ℕ) where
  pub loaded_at : (d e : ℕ) (m : Net) → d ≡ e → Loaded day rules ns d m → Loaded day rules ns e m
  loaded_at d e m q = subst (λ k. Loaded day rules ns k m) q

  -- nothing is loaded
  pub loaded_none : (m : Net) → m.day ≡ day → m.limits ≡ [] → Loaded day rules ns 0 m
  loaded_none m d e = record {
    within = omega arith;
    loads = λ i. record { day = d i; limits = (e ∙ sym (ap (flat_map choice_limits) (picked_take rules ns 0))) i };
  }

  -- what is loaded is feasible
  pub loaded_feasible : (d i : ℕ) (m : Net) → i ≤ d → ((T : ℕ → ℕ) × Solves m T) → Loaded day rules ns d m → Feasible day rules (take i ns)
  loaded_feasible d i m l (T, s) h =
      subst (Feasible day rules) (take-take i d ns l)
      (feasible_take day rules (take d ns) i (T, solves_met day rules T (take d ns) (subst (λ x. Solves x T) h.loads s)))

  -- another selection shares the first choices
  pub loaded_shared : (ms : List ℕ) (d s : ℕ) (m : Net) → d ≤ s → take s ms ≡ take s ns → Loaded day rules ns d m → Loaded day rules ms d m
  loaded_shared ms d s m l e h = record {
    within = h.within;
    loads = h.loads ∙ ap (prefix_net day rules) (sym (take-take d s ns l) ∙ ap (take d) (sym e) ∙ take-take d s ms l);
  }

-- the choice of rule i of a selection
module _ (day : Day) (rules : List Rule) (ns : List ℕ) (placed : selects rules ns ≡ true) (i : ℕ) (l : i < length ns) where
  abbrev choice : Choice
  choice = get_or (picked rules ns) i no_choice

  limits_more : prefix_limits rules (take (i + 1) ns) ≡ prefix_limits rules (take i ns) ++ choice_limits choice
  limits_more = ap (flat_map choice_limits) (picked_more rules ns i placed l) ∙ sym (flat_map_more choice_limits [] (picked rules (take i ns)) choice)

  module _ (depth : ℕ) (m : Net) (h : Loaded day rules ns depth m) (here : depth ≡ i) where
    -- the limits of an option may be put on
    pub option_lawful : (d : Disjunct) → Some d ≡ as_option choice → Fit day rules → AllByRecursion (Lawful m.day) (choice_limits (option d))
    option_lawful d e fit =
        let n = selects_length rules ns placed in
        let r : Rule = get_or rules i (record { kind = Firm; options = [] }) in
        let picks : choice ≡ get_or (choices r) (get_or ns i 0) no_choice = picked_at rules ns i _ (omega arith) l in
        subst₂ (λ x ch. AllByRecursion (Lawful x) (choice_limits ch)) (sym (day_of h.loads)) (sym picks ∙ some_option choice d (sym e))
        (choice_lawful day rules fit i (get_or ns i 0) (record { kind = Firm; options = [] }) (omega arith))

    pub option_room : i < 32 → length m.limits + 2 ≤ max_limits
    option_room few =
        let n = few_limits rules ns depth in
        let e : length m.limits ≡ length (prefix_limits rules (take depth ns)) = ap length (limits_of h.loads) in
        omega arith

    -- a choice that gives up adds nothing
    pub loaded_nothing : None ≡ as_option choice → Loaded day rules ns (i + 1) m
    loaded_nothing e =
        let more : prefix_limits rules (take (i + 1) ns) ≡ prefix_limits rules (take depth ns) =
        limits_more ∙ ap (λ ls. prefix_limits rules (take i ns) ++ ls) (none_limits choice (sym e)) ∙ append-nil _ ∙ ap (λ k. prefix_limits rules (take k ns)) (sym here) in
        record { within = let n = selects_length rules ns placed in omega arith; loads = h.loads ∙ (λ j. record { day = day; limits = sym more j }) }

    more_with : (d : Disjunct) → Some d ≡ as_option choice → prefix_limits rules (take (i + 1) ns) ≡ prefix_limits rules (take depth ns) ++ choice_limits (option d)
    more_with d e =
        limits_more ∙ ap (λ k. prefix_limits rules (take k ns) ++ choice_limits choice) (sym here) ∙ ap (λ ch. prefix_limits rules (take depth ns) ++ choice_limits ch) (some_option choice d (sym e))

    -- limits that are put on
    pub loaded_put : (d : Disjunct) (m' : Net) → Some d ≡ as_option choice → m' ≡ with_limits m (choice_limits (option d)) → Loaded day rules ns (i + 1) m'
    loaded_put d m' e p = record {
      within = let n = selects_length rules ns placed in omega arith;
      loads = p ∙ ap (λ x. with_limits x (choice_limits (option d))) h.loads ∙ (λ j. record { day = day; limits = sym (more_with d e) j });
    }

    -- limits that clash
    pub unfeasible : (d : Disjunct) → Some d ≡ as_option choice → Unsolvable (with_limits m (choice_limits (option d))) → Feasible day rules (take (i + 1) ns) → ⊥
    unfeasible d e none (T, met) =
        let s = met_solves day rules T (take (i + 1) ns) met in
        none T (subst (λ x. Solves (with_limits x (choice_limits (option d))) T) (sym h.loads) (subst (λ ls. Solves (record { day = day; limits = ls }) T) (more_with d e) s))

  -- the limits of the newest choice are the newest
  loaded_newest : (m : Net) → Loaded day rules ns (i + 1) m → m.limits ≡ prefix_limits rules (take i ns) ++ choice_limits choice
  loaded_newest m h = limits_of h.loads ∙ limits_more

  loaded_less : (m m' : Net) → Loaded day rules ns (i + 1) m → Without m (prefix_limits rules (take i ns)) m' → Loaded day rules ns i m'
  loaded_less m m' h w = record { within = let n = h.within in omega arith; loads = w ∙ (λ j. record { day = day_of h.loads j; limits = prefix_limits rules (take i ns) }) }

  module _ (m : Net) (h : Loaded day rules ns (i + 1) m) (o : Option Disjunct) (read : o ≡ as_option choice) where
    -- a choice that gives up has no limits to take off
    pub loaded_same : false ≡ is_some o → Loaded day rules ns i m
    loaded_same none =
        let same : m.limits ≡ prefix_limits rules (take i ns) = loaded_newest m h ∙ ap (λ ls. prefix_limits rules (take i ns) ++ ls) (no_limits choice o read none) ∙ append-nil _ in
        loaded_less m m h (λ j. record { day = m.day; limits = same j })

    -- an option has two, which come off one after the other
    module _ (m₁ : Net) (r : Result Unit Refusal) (some : true ≡ is_some o) (p : Popped m r m₁) where
      first_off : IsOk r × ((l : Limit) × Without m (prefix_limits rules (take i ns) ++ l ∷ []) m₁)
      first_off = off_one m m₁ choice o r read some p (prefix_limits rules (take i ns)) (loaded_newest m h)

      pub pops : IsOk r
      pops = first_off.0

      module _ (m₂ : Net) (r₁ : Result Unit Refusal) (q : Popped m₁ r₁ m₂) where
        pub pops_again : IsOk r₁
        pops_again = pop_done m₁ m₂ r₁ (prefix_limits rules (take i ns)) first_off.1.0 (limits_of first_off.1.1) q

        pub loaded_off : Loaded day rules ns i m₂
        loaded_off =
            let one = first_off.1.1 in
            let two : Without m₁ (prefix_limits rules (take i ns)) m₂ = pop_newest m₁ m₂ r₁ (prefix_limits rules (take i ns)) first_off.1.0 (limits_of one) q in
            loaded_less m m₂ h (two ∙ (λ j. record { day = day_of one j; limits = prefix_limits rules (take i ns) }))
