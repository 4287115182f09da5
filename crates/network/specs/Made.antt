-- Any call on a network: what it is replied, and what it leaves.
--   done   the reply to a call that tells nothing
--   told   the reply to a question
--   Made   a call, by the words for each of the four
use Rattle.std.specs.Prelude.{◌≡◌, ℕ, Ok, Err, Result, MatchResult}
use Rattle.std.specs.Result.{result_err}
use Rattle.problem.specs.Checks.{first_refusal, day_checks}
use Rattle.problem.specs.declared.refusal.Refusal.{Refusal}
use Rattle.network.specs.Calls.{Emptied, Pushed, Popped, Asked}
use Rattle.network.specs.Nets.{Net}
use Rattle.network.specs.declared.call.Call.{Call}
use Rattle.network.specs.declared.call.Call.TheVariants.{Reset, Push, Pop, Earliest}
use Rattle.network.specs.declared.call.Reply.{Reply}
use Rattle.network.specs.declared.call.Reply.TheVariants.{Done, Minute}

-- done, or the refusal
abbrev pub done : Result Unit Refusal → Result Reply Refusal
done (Ok _) = Ok Done
done (Err e) = Err e

-- the minute, or the refusal
abbrev pub told : Result ℕ Refusal → Result Reply Refusal
told (Ok t) = Ok (Minute t)
told (Err e) = Err e

-- from m, with the reply, to m'
abbrev pub Made : Net → Call → Result Reply Refusal → Net → Type 0
Made m (Reset events horizon) reply m' =
    (r : Result Unit Refusal) × (reply ≡ done r) × (result_err r ≡ first_refusal (day_checks events horizon)) × MatchResult r (λ _. Emptied events horizon m') (λ _. m' ≡ m)
Made m (Push l) reply m' = (r : Result Unit Refusal) × (reply ≡ done r) × Pushed m l r m'
Made m Pop reply m' = (r : Result Unit Refusal) × (reply ≡ done r) × Popped m r m'
Made m (Earliest i) reply m' = (r : Result ℕ Refusal) × (reply ≡ told r) × Asked m i r × (m' ≡ m)
