-- Raising one choice: where, and what the choices then are.
use Rattle.std.proofs.Common.{◌≡◌, ℕ, zero, suc, ◌+◌, ◌-◌, ◌<◌, ◌≤◌, true, List, [], ◌∷◌, ◌++◌, length, get_or, take, drop, set, replicate, Some, None, refl, sym, ap, ◌∙◌, subst, ap₂, le_of_suc-le-suc, add-one, arith}
use Rattle.std.proofs.lemmas.List.{append_assoc, append-nil, drop_all, length-drop, length-take, take_more_set, length-set}
use borrow.Rule.Slice.PartMut.{put_mid, mid_of}
use Rattle.problem.specs.Rules.{Rule}
use Rattle.problem.specs.declared.day.Day.{Day}
use Rattle.network.specs.Nets.{Net}
use Rattle.search.specs.Tests.{selects, before}
use Rattle.planner.specs.Advancing.{Raisable, raised, Advanced}
use Rattle.planner.specs.Choosing.{Choices}
use Rattle.planner.specs.Loading.{Loaded}
use Rattle.planner.proofs.Choosing.{selects_length}
use Rattle.planner.proofs.Loadings.{never, loaded_shared}
use Rattle.planner.proofs.Order.{SomeChoice, all_ahead, raised_before, selects_raised}

raised_parts : (ns : List ℕ) (i : ℕ) → i < length ns → take i ns ++ (get_or ns i 0 + 1) ∷ replicate (length ns - (i + 1)) 0 ≡ raised i ns
raised_parts [] i l = absurd (omega arith)
raised_parts (n ∷ ns) zero l = ap₂ (λ a k. a ∷ replicate k 0) (add-one n) (omega arith)
raised_parts (n ∷ ns) (suc i) l =
    let e : suc (length ns) - (suc i + 1) ≡ length ns - (i + 1) = omega arith in
    ap (λ k. n ∷ (take i ns ++ (get_or ns i 0 + 1) ∷ replicate k 0)) e ∙ ap (λ t. n ∷ t) (raised_parts ns i (omega arith))

-- choice i is raised, and those behind it are filled with first choices
pub raised_filled : (ns xs zs : List ℕ) (i k : ℕ) → i < length ns → xs ≡ set ns i (get_or ns i 0 + 1) → k ≡ length xs - (i + 1) → zs ≡ replicate (length (mid_of (i + 1) k xs)) 0
    → put_mid (i + 1) k xs zs ≡ raised i ns
raised_filled ns xs zs i k l w e z =
    let v = get_or ns i 0 + 1 in
    let n : length xs ≡ length ns = ap length w ∙ length-set ns i v in
    let a = length-drop (i + 1) xs in
    let past : drop k (drop (i + 1) xs) ≡ [] = drop_all k (drop (i + 1) xs) (omega arith) in
    let m : length (mid_of (i + 1) k xs) ≡ length ns - (i + 1) = (let t = length-take k (drop (i + 1) xs) in omega arith) in
    ap₂ (λ front back. front ++ (zs ++ back)) (ap (take (i + 1)) w ∙ take_more_set ns i v l) past ∙ ap (λ t. (take i ns ++ v ∷ []) ++ t) (append-nil zs ∙ z)
    ∙ append_assoc (take i ns) (v ∷ []) (replicate (length (mid_of (i + 1) k xs)) 0) ∙ ap (λ j. take i ns ++ v ∷ replicate j 0) m ∙ raised_parts ns i l

-- the choices before place i stay
pub raised_shares : (ns : List ℕ) (i j : ℕ) → j ≤ i → take j (raised i ns) ≡ take j ns
raised_shares ns i zero l = refl
raised_shares [] i (suc j) l = refl
raised_shares (n ∷ ns) zero (suc j) l = absurd (omega arith)
raised_shares (n ∷ ns) (suc i) (suc j) l = ap (λ t. n ∷ t) (raised_shares ns i j (le_of_suc-le-suc l))

-- what is loaded of the choices before place i stays loaded
pub raised_loaded : (day : Day) (rules : List Rule) (ns : List ℕ) (i : ℕ) (next : Choices) → next.items ≡ raised i ns → (d : ℕ) (m : Net) → d ≤ i → Loaded day rules ns d m
    → (position : Choices) → Some next ≡ Some position → Loaded day rules position.items d m
raised_loaded day rules ns i next e d m l h position same =
    let same_next : next ≡ position = cc in
    subst (λ (x : Choices). Loaded day rules x.items d m) same_next (rw e (loaded_shared day rules ns (raised i ns) d i m l (raised_shares ns i i (omega arith)) h))

module _ (rules : List Rule) (some : SomeChoice rules) (ns : List ℕ) (placed : selects rules ns ≡ true) (j : ℕ) (within : j ≤ length ns) where
  -- the choice at place i is raised
  pub advanced_raised : (i : ℕ) (next : Choices) → next.items ≡ raised i ns → Raisable rules ns j (Some i) → Advanced rules ns j (Some next)
  advanced_raised i next e (l, w, last) =
      let n = selects_length rules ns placed in
      record {
        placed = λ position q. let same : position ≡ next = cc in rw (same, e) (selects_raised rules ns i some placed (omega arith) w);
        passes = λ qs hq. ap (before qs) e ∙ raised_before rules ns qs i j placed hq l (omega arith) (λ k a b. last k (omega arith) b);
      }

  -- no choice can be raised
  pub advanced_ended : Raisable rules ns j None → Advanced rules ns j None
  advanced_ended last =
      let n = selects_length rules ns placed in
      record {
        placed = λ position q. absurd (never position None refl q);
        passes = λ qs hq. sym (all_ahead rules ns qs j placed hq (omega arith) (λ k b. last k (omega arith) b));
      }
