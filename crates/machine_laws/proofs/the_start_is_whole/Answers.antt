-- The start of a run is whole.
use Rattle.machine_laws.proofs.Whole.Start.{whole-start_machine}
use Rattle.machine_laws.proofs.the_start_is_whole.Goals as goal

pub returns : goal.returns
returns c = whole-start_machine
