-- The start of a run is valid.
use Rattle.machine_laws.proofs.Valid.Events.{valid-start_machine}
use Rattle.machine_laws.proofs.the_start_is_valid.Goals as goal

pub returns : goal.returns
returns c = valid-start_machine
