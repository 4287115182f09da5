-- The limits of a list: how many they are, and all but the newest.
use Rattle.std.proofs.Common.{◌≡◌, ℕ, ◌-◌, ◌+◌, ◌<◌, ◌≤◌, List, [], ◌∷◌, ◌++◌, length, get_or, take, ap, ◌∙◌, subst, arith}
use Rattle.std.proofs.lemmas.List.{take_more}
use Rattle.std.specs.List.{AllByRecursion}
use Rattle.network.specs.Limits.{max_limits, nowhere}
use Rattle.network.specs.Lists.{net_of}
use Rattle.network.specs.declared.limit.Limit.{Limit}
use Rattle.network.specs.declared.limit_list.LimitList.{LimitList}
use Rattle.network.proofs.Solutions.{all_first}

-- no list has too many
pub few_limits : (list : LimitList) → length (net_of list).limits ≤ max_limits
few_limits list = list.few

module _ (count : ℕ) (ls : List Limit) (some : 0 < count) (few : count ≤ length ls) where
  -- the first limits are those but the newest, and the newest
  pub and_newest : take count ls ≡ take (count - 1) ls ++ (get_or ls (count - 1) nowhere ∷ [])
  and_newest =
      let one_more : count ≡ (count - 1) + 1 = omega arith in
      ap (λ k. take k ls) one_more ∙ take_more ls (count - 1) nowhere (omega arith)

  -- what holds of each of them holds of each but the newest
  pub all_but_newest : (P : Limit → Type 0) → AllByRecursion P (take count ls) → AllByRecursion P (take (count - 1) ls)
  all_but_newest P all = all_first P (take (count - 1) ls) (get_or ls (count - 1) nowhere ∷ []) (subst (AllByRecursion P) and_newest all)
