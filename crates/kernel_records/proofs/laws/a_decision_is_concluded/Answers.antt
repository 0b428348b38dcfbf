use Rattle.kernel_records.proofs.ConcludingFacts.{is-concluded}
use Rattle.kernel_records.proofs.laws.a_decision_is_concluded.Goals as goal

pub returns : goal.returns
returns c = is-concluded
