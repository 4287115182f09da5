-- Chains back to event 0 show the smallest minutes.
use Rattle.std.proofs.Common.{◌≡◌, ℕ, zero, suc, ◌+◌, ◌<◌, ◌≤◌, true, false, ◌&&◌, eqb, List, [], ◌∷◌, length, pos, neg_ℤ, ◌≤ℤ◌, refl, subst, le_of_suc-le-suc, arith}
use lib.Signed.{le_z}
use Rattle.std.proofs.lemmas.Int.{ints}
use Rattle.std.proofs.lemmas.Bool.{and_parts, both_ways, eqb-true}
use Rattle.problem.specs.Timetables.{minute, gap}
use Rattle.problem.specs.declared.day.Day.{Day}
use Rattle.network.specs.Nets.{Solves}
use Rattle.network.specs.declared.limit.Limit.{Limit}
use Rattle.search.specs.Limiting.{prefix_limits}
use Rattle.search.specs.Tests.{every}
use Rattle.search.proofs.Limiting.{met_solves}
use Rattle.certificates.specs.Certificates.{stated, chained, met, chains_from}
use Rattle.certificates.specs.Rings.{total}
use Rattle.certificates.specs.Theorems.{ChainsSmallest}
use Rattle.certificates.proofs.Rings.{chain_total}
use Rattle.certificates.proofs.Testing.{all_stated, chained_true, met_true}

module _ (day : Day) (ls : List Limit) (T : ℕ → ℕ) (solves : Solves (record { day = day; limits = ls }) T) where
  -- a chain from event i to event 0 of at most -m puts event i at m or later
  chain_lowest : (i m : ℕ) (chain : List Limit) → (every (stated day ls) chain && (chained i 0 chain && le_z (total chain) (neg_ℤ (pos m)))) ≡ true → m ≤ T i
  chain_lowest i m chain h =
      let p = and_parts (every (stated day ls) chain) _ h in
      let q = and_parts (chained i 0 chain) _ p.1 in
      let low : gap T 0 i ≤ℤ total chain = chain_total day ls T solves i 0 chain (all_stated day ls chain p.0) (chained_true i 0 chain q.0) in
      let sum : total chain ≤ℤ neg_ℤ (pos m) = let e = q.1 in grind (arith, ints) in
      let start : T 0 ≡ 0 = solves.0.0 in
      omega (arith, ints)

  chains_lowest : (i : ℕ) (ms : List ℕ) (chains : List (List Limit)) → chains_from day ls i ms chains ≡ true → (k : ℕ) → k < length ms → minute ms k ≤ T (i + k)
  chains_lowest i [] chains h k l = absurd (omega arith)
  chains_lowest i (m ∷ ms) [] h k l = absurd (both_ways false refl h)
  chains_lowest i (m ∷ ms) (chain ∷ chains) h zero l =
      let p = and_parts _ (chains_from day ls (suc i) ms chains) h in
      subst (λ j. m ≤ T j) (let e : i ≡ i + 0 = omega arith in e) (chain_lowest i m chain p.0)
  chains_lowest i (m ∷ ms) (chain ∷ chains) h (suc k) l =
      let p = and_parts _ (chains_from day ls (suc i) ms chains) h in
      subst (λ j. minute ms k ≤ T j) (let e : suc i + k ≡ i + suc k = omega arith in e) (chains_lowest (suc i) ms chains p.1 k (le_of_suc-le-suc l))

pub chains_smallest : ChainsSmallest
chains_smallest day rules ns minutes chains h i l =
    let p = and_parts (eqb (length minutes) day.events) _ h in
    let q = and_parts (met day rules minutes ns) _ p.1 in
    let long : length minutes ≡ day.events = eqb-true _ _ p.0 in
    record {
      reached = (minute minutes, met_true day rules minutes ns q.0, refl);
      lowest = λ T m. subst (λ j. minute minutes i ≤ T j) (let e : 0 + i ≡ i = omega arith in e)
          (chains_lowest day (prefix_limits rules ns) T (met_solves day rules T ns m) 0 minutes chains q.1 i (omega arith));
    }
