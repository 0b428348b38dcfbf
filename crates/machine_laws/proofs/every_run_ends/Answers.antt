-- Every run goes on to its number of task steps.
use Rattle.machine_laws.proofs.Runs.Ends.{run-ends}
use Rattle.machine_laws.proofs.every_run_ends.Goals as goal

pub returns : goal.returns
returns c = run-ends
