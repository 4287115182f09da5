use Rattle.rounds.proofs.Stating.{one_round}
use Rattle.rounds.proofs.reading.a_line_states_one_round.Goals as goal

pub returns : goal.returns
returns c = one_round
