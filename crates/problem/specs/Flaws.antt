-- When minutes are no timetable of a day.
--   Flawed   when each flaw is found
--   Judged   what the check of minutes answers
use Rattle.std.specs.Prelude.{◌≡◌, ℕ, ◌<◌, ◌≤◌, List, length, Ok, Err, Result, ◌≢◌}
use Rattle.problem.specs.declared.day.Day.{Day}
use Rattle.problem.specs.declared.timetable.Flaw.{Flaw}
use Rattle.problem.specs.declared.timetable.Flaw.TheVariants.{Count, Start, Late}
use Rattle.problem.specs.Timetables.{OfDay, minute}

-- what each flaw says of the minutes; each excludes those before it
abbrev pub Flawed : Day → List ℕ → Flaw → Type 0
Flawed day ms Count = length ms ≡ day.events → ⊥
Flawed day ms Start = (length ms ≡ day.events) × (minute ms 0 ≢ 0)
Flawed day ms (Late i) =
    (length ms ≡ day.events) × (minute ms 0 ≡ 0) × (i < day.events) × (day.horizon < minute ms i)
    × ((k : ℕ) → k < i → minute ms k ≤ day.horizon)

-- the minutes are a timetable of the day, or have this flaw
abbrev pub Judged : Day → List ℕ → Result Unit Flaw → Type 0
Judged day ms (Ok _) = (length ms ≡ day.events) × OfDay day (minute ms)
Judged day ms (Err flaw) = Flawed day ms flaw
