-- Under the deferred method interrupt code switches to no other task.
use Rattle.machine_laws.proofs.Isolation.CurrentTask.{task-next}
use Rattle.machine_laws.proofs.deferred_interrupt_code_keeps_the_task.Goals as goal

pub returns : goal.returns
returns c = task-next
