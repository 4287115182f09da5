-- Scripts that are run record by record, and over and over.
use Rattle.std.proofs.Common.{◌≡◌, ℕ, ◌+◌, ◌<◌, ◌≤◌, List, [], ◌∷◌, ◌++◌, length, get_or, take, sym, ap, ◌∙◌, subst, add-one}
use Rattle.std.proofs.lemmas.List.{append-nil, append_assoc, take_more, take_all}
use Rattle.network.specs.Nets.{Net}
use Rattle.network_bench.specs.Scripts.{call_of, Acts, mixed, Ran, repeated}
use Rattle.network.specs.declared.call.Call.{Call}

module _ (m : Net) (rs script : List (List ℕ)) (i c : ℕ) (m' : Net) where
  -- one record more
  pub ran_more : i < length script → (call : Call) → call ≡ call_of (get_or script i []) → Ran m (rs ++ take i script) c m' → (a : ℕ) (m'' : Net)
      → Acts m' call a m'' → Ran m (rs ++ take (i + 1) script) (mixed c a) m''
  ran_more inside call is so_far a m'' acts =
      let F : List (List ℕ) → Type 0 = λ ks. Ran m ks (mixed c a) m'' in
      let G : Call → Type 0 = λ k. Acts m' k a m'' in
      let one = get_or script i [] in
      subst F (append_assoc rs (take i script) (one ∷ []) ∙ ap (λ ks. rs ++ ks) (sym (take_more script i [] inside)))
      (Ran.more (rs ++ take i script) c m' one a m'' so_far (subst G is acts))

  -- all of them
  pub ran_all : length script ≤ i → Ran m (rs ++ take i script) c m' → Ran m (rs ++ script) c m'
  ran_all past = subst (λ ks. Ran m (rs ++ ks) c m') (take_all i script past)

module _ (m : Net) (rs script : List (List ℕ)) (c : ℕ) (m' : Net) where
  -- not once
  pub not_yet : Ran m rs c m' → Ran m (rs ++ repeated 0 script) c m'
  not_yet = subst (λ ks. Ran m ks c m') (sym (append-nil rs))

  -- once more
  pub once_more : (i : ℕ) → Ran m ((rs ++ repeated i script) ++ script) c m' → Ran m (rs ++ repeated (i + 1) script) c m'
  once_more i =
      subst (λ ks. Ran m ks c m') (append_assoc rs (repeated i script) script ∙ ap (λ k. rs ++ repeated k script) (sym (add-one i)))

  -- in other words for the same lists
  pub in_words : (i n : ℕ) (first again : List (List ℕ)) → i ≡ n → rs ≡ first → script ≡ again → Ran m (rs ++ repeated i script) c m'
      → Ran m (first ++ repeated n again) c m'
  in_words i n first again same begins goes =
      subst (λ ks. Ran m ks c m') (ap (λ k. rs ++ repeated k script) same ∙ ap (λ ks. ks ++ repeated n script) begins ∙ ap (λ ks. first ++ repeated n ks) goes)
