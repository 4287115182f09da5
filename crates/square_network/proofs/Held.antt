-- One table more, for one limit more.
use Rattle.std.proofs.Common.{◌≡◌, ℕ, ◌+◌, List, [], ◌∷◌, ◌++◌, length, get_or, take, set, sym, ap, ◌∙◌, subst, ⊎_elim, arith, length-append}
use Rattle.std.proofs.lemmas.List.{get_or_push, get_or_append_left, take_all, take-append-le}
use Rattle.std.proofs.lemmas.Bool.{cases_eq}
use Rattle.std.proofs.Math.Seq.{set-append_seam}
use Rattle.problem.specs.declared.day.Day.{Day}
use Rattle.network.specs.Calls.{with_limit}
use Rattle.network.specs.Nets.{Net}
use Rattle.network.specs.declared.limit.Limit.{Limit}
use Rattle.square_network.specs.Shortest.{Shortest, Held}
use Rattle.square_network.specs.declared.distances.Distances.{Distances}

-- one limit more, and its table
held_more : (day : Day) (ls : List Limit) (l : Limit) (ds : List Distances) (d : Distances) → length ds ≡ length ls + 1 → Held day ls ds
    → Shortest day (ls ++ l ∷ []) d → Held day (ls ++ l ∷ []) (ds ++ d ∷ [])
held_more day ls l ds d each held s k le e =
    let long : length (ls ++ l ∷ []) ≡ length ls + 1 = length-append ls (l ∷ []) in
    let F : List Limit → Type 0 = λ ks. Shortest day ks (get_or (ds ++ d ∷ []) k e) in
    ⊎_elim
    (λ (new : k ≡ length ls + 1).
    subst F (sym (take_all k (ls ++ l ∷ []) (omega arith)))
    (subst (Shortest day (ls ++ l ∷ [])) (sym (get_or_push ds d e k (omega arith))) s))
    (λ (old : k ≡ length ls + 1 → ⊥).
    subst F (sym (take-append-le k ls (l ∷ []) (omega arith)))
    (subst (Shortest day (take k ls)) (sym (get_or_append_left ds (d ∷ []) e k (omega arith))) (held k (omega arith) e)))
    (cases_eq k (length ls + 1))

-- the newest table is copied, and the limit is put on the copy
module _ (ds ds' : List Distances) (d : Distances) (copied : ds' ≡ ds ++ d ∷ []) (n : ℕ) (there : length ds ≡ n) where
  pub copy_is : (e : Distances) → e ≡ get_or ds' n e → e ≡ d
  copy_is e is = is ∙ ap (λ es. get_or es n e) copied ∙ get_or_push ds d e n there

  pub written_is : (e : Distances) → set ds' n e ≡ ds ++ e ∷ []
  written_is e = ap (λ es. set es n e) copied ∙ ap (λ k. set (ds ++ d ∷ []) k e) (sym there) ∙ set-append_seam ds d [] e

-- the limit stands last in the list, and its table behind the others
pub held_behind : (m m' : Net) (l : Limit) (ds ds' : List Distances) (d : Distances) → m' ≡ with_limit m l → ds' ≡ ds ++ d ∷ [] → length ds ≡ length m.limits + 1
    → Held m.day m.limits ds → Shortest m.day (m.limits ++ l ∷ []) d → Held m'.day m'.limits ds'
held_behind m m' l ds ds' d becomes behind each held s =
    let F : Net → Type 0 = λ k. Held k.day k.limits ds' in
    subst F (sym becomes) (subst (Held m.day (m.limits ++ l ∷ [])) (sym behind) (held_more m.day m.limits l ds d each held s))
