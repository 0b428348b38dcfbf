use Rattle.round_robin.proofs.TurnFacts.{is-turn}
use Rattle.round_robin.proofs.turns.round_robin_is_a_turn.Goals as goal

pub returns : goal.returns
returns c = is-turn
