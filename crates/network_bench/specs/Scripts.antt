-- Scripts of calls on a network, as records of five bytes, and what they answer.
--   call_of    the call that a record states
--   number_of  the answer to a call, as a number
--   Acts       what a call on a network answers, as a number, and what it leaves
--   mixed      a checksum with one answer more
--   Ran        the checksum of the answers to a list of records, from one network to another
--   records    the records of a script
--   repeated   a list, so many times
--   Checked    the checksum of a new network's answers to one script, and then to another so many times
use Rattle.std.specs.Prelude.{◌≡◌, ℕ, zero, suc, ◌+◌, ◌*◌, ◌/◌, ◌%◌, ◌^◌, cond, List, [], ◌∷◌, ◌++◌, length, Ok, Err, Result, ◌==◌, slice_index}
use Rattle.std.specs.Int.{w16}
use Rattle.std.proofs.Common.{to_z}
use Rattle.std.specs.Simd.{first_chunks}
use Rattle.problem.specs.Refusals.{refusal_number}
use Rattle.problem.specs.declared.refusal.Refusal.{Refusal}
use Rattle.network.specs.Calls.{Emptied}
use Rattle.network.specs.Made.{Made}
use Rattle.network.specs.Nets.{Net}
use Rattle.network.specs.declared.call.Call.{Call}
use Rattle.network.specs.declared.call.Call.TheVariants.{Reset, Push, Pop, Earliest}
use Rattle.network.specs.declared.call.Reply.{Reply}
use Rattle.network.specs.declared.call.Reply.TheVariants.{Done, Minute}

-- the number in a record's last two bytes, the low one first
abbrev number : List ℕ → ℕ
number r = slice_index r 3 + slice_index r 4 * 256

-- by the first byte: 0 for a reset, 1 for a push, 2 for a pop, and any other for a question
abbrev pub call_of : List ℕ → Call
call_of r =
    cond (slice_index r 0 == 0) (Reset (slice_index r 1) (number r))
    (cond (slice_index r 0 == 1) (Push (record { x = slice_index r 1; y = slice_index r 2; bound = to_z w16 (number r) })) (cond (slice_index r 0 == 2) Pop (Earliest (slice_index r 1))))

-- 0 for a call that tells nothing, 100 and the minute, or the number of the refusal
abbrev pub number_of : Result Reply Refusal → ℕ
number_of (Ok Done) = 0
number_of (Ok (Minute t)) = (t + 100) % 2 ^ 32
number_of (Err e) = refusal_number e

-- from m, with the answer a, to m'
abbrev pub Acts : Net → Call → ℕ → Net → Type 0
Acts m call a m' = (reply : Result Reply Refusal) × (a ≡ number_of reply) × Made m call reply m'

-- 31 times the checksum and the answer, in 64 bits
abbrev pub mixed : ℕ → ℕ → ℕ
mixed c a = ((c * 31) % 2 ^ 64 + a) % 2 ^ 64

-- from m with checksum 0, by the calls of the records, to a network and a checksum
pub data Ran (m : Net) : List (List ℕ) → ℕ → Net → Type 0 where
  none : Ran m [] 0 m
  more : (rs : List (List ℕ)) (c : ℕ) (m' : Net) (r : List ℕ) (a : ℕ) (m'' : Net) → Ran m rs c m' → Acts m' (call_of r) a m'' → Ran m (rs ++ r ∷ []) (mixed c a) m''

-- five bytes each; bytes past the last whole record say nothing
abbrev pub records : List ℕ → List (List ℕ)
records bs = first_chunks 5 (length bs / 5) bs

-- n times
abbrev pub repeated : {X : Type 0} → ℕ → List X → List X
repeated zero xs = []
repeated (suc n) xs = repeated n xs ++ xs

-- c is the checksum of all answers that some network of one event and horizon 0 gives
abbrev pub Checked : List ℕ → List ℕ → ℕ → ℕ → Type 0
Checked setup script n c = (m m' : Net) × Emptied 1 0 m × Ran m (records setup ++ repeated n (records script)) c m'
