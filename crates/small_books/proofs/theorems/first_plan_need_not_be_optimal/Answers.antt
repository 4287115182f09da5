use Rattle.small_books.proofs.Astray.{first_plan_is_not_proved}
use Rattle.small_books.proofs.theorems.first_plan_need_not_be_optimal.Goals as goal

pub returns : goal.returns
returns c = first_plan_is_not_proved
