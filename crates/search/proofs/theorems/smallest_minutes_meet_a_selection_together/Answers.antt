use Rattle.search.proofs.Smallest.{smallest_minutes, smallest_meet}
use Rattle.search.proofs.theorems.smallest_minutes_meet_a_selection_together.Goals as goal

pub returns : goal.returns
returns c = λ day rules ns fit feasible.
    let t = smallest_minutes day rules fit ns feasible in
    (t.0, smallest_meet day rules fit ns t.0 t.1, t.1)
