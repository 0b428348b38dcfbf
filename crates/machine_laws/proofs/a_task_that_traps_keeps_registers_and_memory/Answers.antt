-- A task that traps leaves the registers of all tasks and the memory as they were.
use Rattle.machine_laws.proofs.Isolation.Kernel.{trap-next}
use Rattle.machine_laws.proofs.a_task_that_traps_keeps_registers_and_memory.Goals as goal

pub returns : goal.returns
returns c = trap-next
