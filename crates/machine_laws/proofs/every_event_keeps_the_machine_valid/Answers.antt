-- Every event keeps the machine valid.
use Rattle.machine_laws.proofs.Valid.Events.{valid-next}
use Rattle.machine_laws.proofs.every_event_keeps_the_machine_valid.Goals as goal

pub returns : goal.returns
returns c = valid-next
