-- What certificates show.
--   RingClashes          no timetable keeps the limits of a ring
--   CertificatesStep     checked certificates are steps of a search
--   EnumerationEnds      a search has ended where every enumerated selection is settled
--   ChainsSmallest       chains show the smallest minutes
use Rattle.std.specs.Prelude.{◌≡◌, ℕ, true, List}
use Rattle.counting.specs.Ways.{Way}
use Rattle.problem.specs.Rules.{Rule}
use Rattle.problem.specs.Timetables.{minute}
use Rattle.problem.specs.declared.day.Day.{Day}
use Rattle.network.specs.Nets.{Unsolvable}
use Rattle.network.specs.declared.limit.Limit.{Limit}
use Rattle.search.specs.Searches.{State, After, Ended}
use Rattle.search.specs.Tests.{every}
use Rattle.search.specs.Theorems.{AllSmallest}
use Rattle.certificates.specs.Rings.{Ring}
use Rattle.certificates.specs.Certificates.{Certificate, enumerated, reached, checked, fresh, counted, smallest}

-- a ring of stated limits below 0 leaves no timetable
abbrev pub RingClashes : Type 0
RingClashes = (day : Day) (ls ring : List Limit) (a : ℕ) → Ring day ls ring a → Unsolvable (record { day = day; limits = ls })

-- what is checked from the start is a search of so many steps
abbrev pub CertificatesStep : Type 0 → Type 0
CertificatesStep C =
    (way : Way C) (day : Day) (rules : List Rule) (cs : List Certificate) → checked way day rules fresh cs ≡ true
    → After way day rules (counted 0 cs) (reached way day rules fresh cs)

-- every enumerated selection is settled, so every selection is
abbrev pub EnumerationEnds : Type 0
EnumerationEnds = (rules : List Rule) (s : State) → every s.settled (enumerated rules) ≡ true → Ended rules s

abbrev pub ChainsSmallest : Type 0
ChainsSmallest =
    (day : Day) (rules : List Rule) (ns minutes : List ℕ) (chains : List (List Limit)) → smallest day rules ns minutes chains ≡ true
    → AllSmallest day rules ns (minute minutes)
