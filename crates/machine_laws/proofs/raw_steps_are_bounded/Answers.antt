-- The raw steps of a run are bounded by its task steps, its takes and the instructions of its frames.
use Rattle.machine_laws.proofs.Counts.Events.{bounded-run}
use Rattle.machine_laws.proofs.raw_steps_are_bounded.Goals as goal

pub returns : goal.returns
returns c = bounded-run
