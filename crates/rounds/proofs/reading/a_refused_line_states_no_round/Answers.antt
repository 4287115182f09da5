use Rattle.rounds.proofs.Stating.{no_round}
use Rattle.rounds.proofs.reading.a_refused_line_states_no_round.Goals as goal

pub returns : goal.returns
returns c = no_round
