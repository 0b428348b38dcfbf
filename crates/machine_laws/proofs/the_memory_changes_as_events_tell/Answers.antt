use Rattle.machine_laws.proofs.Isolation.Memory.{memory-next}
use Rattle.machine_laws.proofs.the_memory_changes_as_events_tell.Goals as goal

pub returns : goal.returns
returns c = memory-next
