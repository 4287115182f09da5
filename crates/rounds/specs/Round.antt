-- The text that states a round.
--
-- roundText   the minutes in decimal, with commas between them
-- States      a line is the text of some minutes, one or more, each with at most nine digits
-- FirstFault  an event is the first whose field writes no number
-- Refuses     what a fault says of the line
-- OneRound    no two lists of minutes are stated by one line
-- NoRound     a line with a first fault states no minutes
-- fault_text  what is printed of a fault
use Rattle.std.specs.Prelude.{◌≡◌, ℕ, ◌<◌, List, [], ◌++◌, codes, map, length, decimal, slice_index_or}
use Rattle.std.specs.List.{AllByRecursion}
use Rattle.fields.specs.Fields.{parts, joined}
use Rattle.fields.specs.Numbers.{Short, Writes}
use Rattle.rounds.specs.declared.reading.RoundFault.{RoundFault}
use Rattle.rounds.specs.declared.reading.RoundFault.TheVariants.{NotANumber, NoMemory}

-- the decimal text of each minute, in order, with a comma between each and the next
abbrev pub roundText : List ℕ → List ℕ
roundText minutes = joined (map decimal minutes)

-- the line is the text of these minutes
pub record States (line minutes : List ℕ) : Type 0 where
  pub text : line ≡ roundText minutes
  pub some : 0 < length minutes
  pub short : AllByRecursion Short minutes

-- the line has a field for the event, which writes no number, and each field before it writes one
pub record FirstFault (line : List ℕ) (event : ℕ) : Type 0 where
  pub within : event < length (parts line)
  pub none : (minute : ℕ) → Writes (slice_index_or (parts line) event []) minute → ⊥
  pub before : (earlier : ℕ) → earlier < event → (minute : ℕ) × Writes (slice_index_or (parts line) earlier []) minute

-- what a fault says of the line
abbrev pub Refuses : List ℕ → RoundFault → Type 0
Refuses line (NotANumber event) = FirstFault line event
Refuses line NoMemory = Unit {0}

-- minutes that one line states are the same
abbrev pub OneRound : Type 0
OneRound = (line these those : List ℕ) → States line these → States line those → these ≡ those

-- no minutes are stated by a line in which an event's field writes no number
abbrev pub NoRound : Type 0
NoRound = (line minutes : List ℕ) (event : ℕ) → FirstFault line event → States line minutes → ⊥

-- which minute is no number, or that memory ran out
abbrev pub fault_text : RoundFault → List ℕ
fault_text (NotANumber event) = codes "the minute of event " ++ decimal event ++ codes " is no number"
fault_text NoMemory = codes "out of memory"
