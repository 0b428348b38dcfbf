-- Each event without a raw step leaves fewer such events to come.
use Rattle.machine_laws.proofs.Counts.Quiet.{quiet-next}
use Rattle.machine_laws.proofs.events_without_a_raw_step_fall.Goals as goal

pub returns : goal.returns
returns c = quiet-next
