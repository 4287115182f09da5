use Rattle.std.proofs.Common.{ℕ, List, replicate, refl, rules}
use Rattle.list_network.proofs.Stack.{fresh}
use Rattle.list_network.proofs.list.ListNetwork.new.Goals as goal

pub invariant_of-result : goal.invariant_of-result
invariant_of-result c =
    let times : List (List ℕ) = replicate 65 (replicate 32 0) in
    record { rows = refl; stacked = fresh _ times (search rules) refl }
