use Rattle.machine_laws.proofs.Runs.Machines.{events-run}
use Rattle.machine_laws.proofs.each_event_is_of_its_machine.Goals as goal

pub returns : goal.returns
returns c = events-run
