-- Certificates of the steps of a search, and a check that computes.
--   Certificate              what a step did, with evidence
--   enumerated               all selections, in order
--   below                    a test passes on every number below another
--   met                      whether minutes meet a prefix
--   same_limit, among, stated, chained, ringed   whether limits are a ring
--   is_first, hopeful_below, outdone             what the step has to show of the selection that it looks at
--   valid                    whether a certificate shows a step from a state
--   moved, reached           the state that one certificate, or several, lead to
--   checked                  whether they show steps, one after another
--   fresh, counted           the start, and how many steps they are
--   chains_from, smallest    whether chains show minutes to be the smallest
use Rattle.std.specs.Prelude.{ℕ, zero, suc, ◌-◌, Bool, true, false, not, ◌&&◌, ◌||◌, leb, List, [], ◌∷◌, map, length, take, ℤ, pos, neg_ℤ, Some, None, Option, ◌==◌, int_le, int_lt, nat_le, nat_lt}
use Rattle.std.specs.List.{range_with_len, flat_map}
use Rattle.counting.specs.Ways.{Way}
use Rattle.problem.specs.Rules.{Rule}
use Rattle.problem.specs.Timetables.{choices, minute}
use Rattle.problem.specs.declared.day.Day.{Day}
use Rattle.network.specs.declared.limit.Limit.{Limit}
use Rattle.search.specs.Limiting.{prefix_limits}
use Rattle.search.specs.Searches.{State}
use Rattle.search.specs.Selections.{picked, price}
use Rattle.search.specs.Tests.{every, chosen, selects, before, skipped, taken}
use Rattle.certificates.specs.Rings.{at_horizon, after_start, total}

-- a step that looked at the selection ns, with minutes that meet the prefixes it went through
pub data Certificate : Type 0 where
  -- no timetable meets the prefix of j choices, as the ring from event a shows
  clash : (ns : List ℕ) (j : ℕ) (minutes : List ℕ) (a : ℕ) (ring : List Limit) → Certificate
  -- the prefix of j choices costs at least as much as the plan
  dear : (ns : List ℕ) (j : ℕ) (minutes : List ℕ) → Certificate
  -- ns becomes the plan
  keep : (ns : List ℕ) (minutes : List ℕ) → Certificate

-- the selections of the rules, in order
abbrev pub enumerated : List Rule → List (List ℕ)
enumerated [] = [] ∷ []
enumerated (r ∷ rules) = flat_map (λ n. map (λ ns. n ∷ ns) (enumerated rules)) (range_with_len 0 (length (choices r)))

-- the test passes on each number below k
abbrev pub below : ℕ → (ℕ → Bool) → Bool
below zero p = true
below (suc k) p = p k && below k p

-- the minutes are a timetable of the day and meet the prefix
abbrev pub met : Day → List Rule → List ℕ → List ℕ → Bool
met day rules minutes prefix =
    (minute minutes 0 == 0) && (every (λ m. leb m day.horizon) minutes && every (chosen (minute minutes)) (picked rules prefix))

-- each is at most the other
abbrev pub equal_integers : ℤ → ℤ → Bool
equal_integers a b = int_le a b && int_le b a

-- the same events and the same bound
abbrev pub same_limit : Limit → Limit → Bool
same_limit l k = l.x == k.x && (l.y == k.y && equal_integers l.bound k.bound)

-- l is one of the limits
abbrev pub among : List Limit → Limit → Bool
among [] l = false
among (k ∷ ks) l = same_limit k l || among ks l

-- among ls, or one of the horizon's
abbrev pub stated : Day → List Limit → Limit → Bool
stated day ls l =
    among ls l
    || ((nat_lt l.x day.events && same_limit (at_horizon day l.x) l) || (nat_lt l.y day.events && same_limit (after_start l.y) l))

-- a chain from event a to event b
abbrev pub chained : ℕ → ℕ → List Limit → Bool
chained a b [] = a == b
chained a b (l ∷ ls) = l.y == a && chained l.x b ls

-- a ring of stated limits with a total below 0
abbrev pub ringed : Day → List Limit → List Limit → ℕ → Bool
ringed day ls ring a = every (stated day ls) ring && (chained a a ring && int_lt (total ring) (pos 0))

module _ {C : Type 0} (way : Way C) (day : Day) (rules : List Rule) where
  -- a plan is kept, and its price is at most that of the prefix
  abbrev pub outdone : Option (List ℕ) → List ℕ → Bool
  outdone None prefix = false
  outdone (Some plan) prefix = way.atmost (price way rules plan) (price way rules prefix)

  -- ns is the first unsettled selection
  abbrev pub is_first : State → List ℕ → Bool
  is_first s ns = selects rules ns && (not (s.settled ns) && every (λ ms. not (before ms ns) || s.settled ms) (enumerated rules))

  -- the minutes meet every prefix of fewer than k choices, and the plan outdoes none of them
  abbrev pub hopeful_below : State → List ℕ → List ℕ → ℕ → Bool
  hopeful_below s ns minutes k = met day rules minutes (take (k - 1) ns) && below k (λ i. not (outdone s.kept (take i ns)))

  -- the certificate shows a step
  abbrev pub valid : State → Certificate → Bool
  valid s (Certificate.clash ns j minutes a ring) =
      is_first s ns && (nat_le j (length ns) && (hopeful_below s ns minutes j && ringed day (prefix_limits rules (take j ns)) ring a))
  valid s (Certificate.dear ns j minutes) = is_first s ns && (nat_le j (length ns) && (hopeful_below s ns minutes j && outdone s.kept (take j ns)))
  valid s (Certificate.keep ns minutes) = is_first s ns && hopeful_below s ns minutes (suc (length ns))

  -- the state after the step
  abbrev pub moved : State → Certificate → State
  moved s (Certificate.clash ns j minutes a ring) = skipped j ns s
  moved s (Certificate.dear ns j minutes) = skipped j ns s
  moved s (Certificate.keep ns minutes) = taken ns s

  -- the state after all steps
  abbrev pub reached : State → List Certificate → State
  reached s [] = s
  reached s (c ∷ cs) = reached (moved s c) cs

  -- each certificate shows a step from the state that those before it lead to
  abbrev pub checked : State → List Certificate → Bool
  checked s [] = true
  checked s (c ∷ cs) = valid s c && checked (moved s c) cs

-- nothing settled, no plan
abbrev pub fresh : State
fresh = record { settled = λ ns. false; kept = None }

-- so many more than k
abbrev pub counted : ℕ → List Certificate → ℕ
counted k [] = k
counted k (c ∷ cs) = counted (suc k) cs

-- from the events from i on, each chain leads back to event 0 and adds up to at most minus its minute
abbrev pub chains_from : Day → List Limit → ℕ → List ℕ → List (List Limit) → Bool
chains_from day ls i [] [] = true
chains_from day ls i [] (chain ∷ chains) = false
chains_from day ls i (m ∷ ms) [] = false
chains_from day ls i (m ∷ ms) (chain ∷ chains) =
    (every (stated day ls) chain && (chained i 0 chain && int_le (total chain) (neg_ℤ (pos m)))) && chains_from day ls (suc i) ms chains

-- the minutes meet the selection, and the chains show that each is the smallest
abbrev pub smallest : Day → List Rule → List ℕ → List ℕ → List (List Limit) → Bool
smallest day rules ns minutes chains =
    (length minutes == day.events) && (met day rules minutes ns && chains_from day (prefix_limits rules ns) 0 minutes chains)
