-- The tick task, the timer task, the idle task and the number of the handler in a valid kernel.
use Rattle.std.specs.Prelude.{◌≡◌, ◌≤◌, ℕ, Bool, true, false, not, ◌&&◌, List, [], if◌then◌else◌}
use Rattle.kern_base.specs.declared.outcomes.Waiting.TheVariants.{No, Signal}
use Rattle.kern_model.specs.State.{Task, task_in, is_ready, is_zero, application_limit, handler_task, idle_task, tick_task, timer_task, idle_priority}
use Rattle.kern_model.specs.Valid.Tasks.{has_result}

-- these are the tasks, with so many signals for the tick task and the timer task, and this tells whether the latter is processing
pub record HasInternalTasks (ts : List Task) (tick timer : ℕ) (processing : Bool) : Type 0 where
  -- an application task alone waits for objects and reads results
  pub no_objects : (x : ℕ) → application_limit ≤ x → ((task_in ts x).objects ≡ []) × (has_result (task_in ts x).answered ≡ false)
  -- the idle task is ready, with the last priority; no task has the handler's number
  pub handler : (task_in ts handler_task).alive ≡ false
  pub idle : is_ready (task_in ts idle_task) ≡ true
  pub idle_prio : (task_in ts idle_task).prio ≡ idle_priority
  pub idle_base : (task_in ts idle_task).base ≡ idle_priority
  -- the tick task and the timer task live, are not suspended, and wait exactly where there is nothing for them to do
  pub tick_lives : ((task_in ts tick_task).alive ≡ true) × ((task_in ts tick_task).suspended ≡ 0)
  pub timer_lives : ((task_in ts timer_task).alive ≡ true) × ((task_in ts timer_task).suspended ≡ 0)
  pub tick_waits : (task_in ts tick_task).waiting ≡ (if is_zero tick then Signal else No)
  pub timer_waits : (task_in ts timer_task).waiting ≡ (if is_zero timer && not processing then Signal else No)
