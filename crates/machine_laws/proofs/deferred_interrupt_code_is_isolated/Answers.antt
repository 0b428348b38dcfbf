-- Under the deferred method interrupt code changes nothing of the kernel and of the tasks.
use Rattle.machine_laws.proofs.Isolation.Kernel.{isolated-next}
use Rattle.machine_laws.proofs.deferred_interrupt_code_is_isolated.Goals as goal

pub returns : goal.returns
returns c = isolated-next
