use Rattle.machine_laws.proofs.Runs.Machines.{follow-run}
use Rattle.machine_laws.proofs.the_machines_of_a_run_follow_one_another.Goals as goal

pub returns : goal.returns
returns c = follow-run
