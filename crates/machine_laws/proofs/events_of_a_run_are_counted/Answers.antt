-- A run has at most one event without a raw step, one more for each look, and two more for each interrupt.
use Rattle.machine_laws.proofs.Counts.Quiet.{counted-run}
use Rattle.machine_laws.proofs.events_of_a_run_are_counted.Goals as goal

pub returns : goal.returns
returns c = counted-run
