-- While the timer task is processing it is the current task.
use Rattle.machine_laws.proofs.Valid.Timer.{timer-current}
use Rattle.machine_laws.proofs.the_timer_task_is_current_while_processing.Goals as goal

pub returns : goal.returns
returns c = timer-current
