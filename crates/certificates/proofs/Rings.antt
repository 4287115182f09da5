-- What a chain of limits says of every timetable.
use Rattle.std.proofs.Common.{◌≡◌, ℕ, ◌<◌, ◌≤◌, List, [], ◌∷◌, pos, ◌≤ℤ◌, ◌<ℤ◌, sym, ap, subst, inl, inr, arith}
use Rattle.std.specs.List.{AllByRecursion}
use Rattle.std.proofs.ByRecursion.{all-has}
use Rattle.std.proofs.lemmas.Int.{ints}
use Rattle.problem.specs.Timetables.{gap}
use Rattle.problem.specs.declared.day.Day.{Day}
use Rattle.network.specs.Limits.{Keeps}
use Rattle.network.specs.Nets.{Solves}
use Rattle.network.specs.declared.limit.Limit.{Limit}
use Rattle.certificates.specs.Rings.{at_horizon, after_start, Stated, Chain, total}
use Rattle.certificates.specs.Theorems.{RingClashes}

module _ (day : Day) (ls : List Limit) (T : ℕ → ℕ) (solves : Solves (record { day = day; limits = ls }) T) where
  keeps_horizon : (i : ℕ) → i < day.events → Keeps T (at_horizon day i)
  keeps_horizon i l =
      let early : T i ≤ day.horizon = solves.0.1 i l in
      let start : T 0 ≡ 0 = solves.0.0 in
      omega (arith, ints)

  keeps_start : (i : ℕ) → Keeps T (after_start i)
  keeps_start i = let start : T 0 ≡ 0 = solves.0.0 in omega (arith, ints)

  -- a stated limit is kept
  keeps_stated : (l : Limit) → Stated day ls l → Keeps T l
  keeps_stated l (inl h) = all-has (Keeps T) ls l solves.1 h
  keeps_stated l (inr (i, b, inl e)) = subst (Keeps T) (sym e) (keeps_horizon i b)
  keeps_stated l (inr (i, b, inr e)) = subst (Keeps T) (sym e) (keeps_start i)

  -- from one end of a chain to the other is at most its total
  pub chain_total : (a b : ℕ) (chain : List Limit) → AllByRecursion (Stated day ls) chain → Chain a b chain → gap T b a ≤ℤ total chain
  chain_total a b [] s c =
      let same : T a ≡ T b = ap T c in
      omega (arith, ints)
  chain_total a b (l ∷ chain) s c =
      let first : gap T l.x l.y ≤ℤ l.bound = keeps_stated l s.0 in
      let rest : gap T b l.x ≤ℤ total chain = chain_total l.x b chain s.1 c.1 in
      let same : T l.y ≡ T a = ap T c.0 in
      omega (arith, ints)

pub ring_clashes : RingClashes
ring_clashes day ls ring a r T solves =
    let round : gap T a a ≤ℤ total ring = chain_total day ls T solves a a ring r.stated r.closed in
    let below : total ring <ℤ pos 0 = r.negative in
    omega (arith, ints)
