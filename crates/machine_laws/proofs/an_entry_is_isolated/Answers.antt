-- The entry of an interrupt changes nothing of the kernel and of the tasks.
use Rattle.machine_laws.proofs.Isolation.Kernel.{entry-next}
use Rattle.machine_laws.proofs.an_entry_is_isolated.Goals as goal

pub returns : goal.returns
returns c = entry-next
