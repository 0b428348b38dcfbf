-- Suspension of tasks, and the yield: the services whose whole effect on the lists is known when they begin.
use Rattle.std.specs.Prelude.{ℕ, zero, suc, ◌-◌, Bool, true, false, ◌&&◌, Option, Some, None, if◌then◌else◌, ◌==◌}
use Rattle.kern_base.specs.declared.numbers.TaskId.{TaskId}
use Rattle.kern_base.specs.declared.services.Service.{Service}
use Rattle.kern_base.specs.declared.services.Service.TheVariants.{TaskSuspend, TaskResume, RoundRobinYield}
use Rattle.kern_base.specs.declared.errors.OsErr.TheVariants.{Depth, SchedLocked, TaskNotSuspended, TaskResumeSelf}
use Rattle.kern_base.specs.declared.outcomes.Decision.{Decision}
use Rattle.kern_base.specs.declared.outcomes.Decision.TheVariants.{Done, Block, Wake}
use Rattle.kern_base.specs.declared.outcomes.Outcome.{Outcome}
use Rattle.kern_base.specs.declared.outcomes.Outcome.TheVariants.{Waits}
use Rattle.kern_model.specs.State.{Kernel, Task, nesting_limit, prio_of, task_at, update_task}
use Rattle.kern_model.specs.Effect.{Effect, answers, done, fine}
use Rattle.kern_model.specs.RoundRobin.{rotates}
use Rattle.kern_model.specs.Tasks.{resumes, suspended_task, suspends}
use Rattle.decisions.specs.Rows.{is_no_error, refusal}
use Rattle.round_robin.specs.Turns.{refilled}

-- whether the service moves a task in the ready lists and does no more to the lists
abbrev pub moves_in_lists : Service → Bool
moves_in_lists TaskSuspend = true
moves_in_lists TaskResume = true
moves_in_lists RoundRobinYield = true
moves_in_lists _ = false

-- OSTaskSuspend of a task that is suspended so often; a caller's own is refused while the scheduler is locked
abbrev pub suspend_decision : Bool → ℕ → Decision
suspend_decision own_under_lock suspended =
    if own_under_lock then refusal SchedLocked else (if suspended == nesting_limit then refusal Depth else Done (fine 0))

-- OSTaskResume of a task that is suspended so often, and is not the caller
abbrev pub resumed_from : ℕ → Decision
resumed_from zero = refusal TaskNotSuspended
resumed_from (suc n) = Done (fine 0)

abbrev pub task_resume_decision : Bool → ℕ → Decision
task_resume_decision own suspended = if own then refusal TaskResumeSelf else resumed_from suspended

-- whether something comes of a decision: a call that is refused changes nothing
abbrev pub acts : Decision → Bool
acts (Done a) = is_no_error a.err
acts Block = true
acts (Wake who) = true

-- whether this decision on a call of a service suspends a task, or resumes one, or lets its caller go to the tail of its list
abbrev pub moves_task : Service → Decision → Bool
moves_task s d = moves_in_lists s && acts d

-- what it does to task y, where x calls: a yield moves the caller
abbrev pub suspension_of : Service → ℕ → ℕ → ℕ → Kernel → Effect
suspension_of TaskSuspend y x compared k = suspends (y == x) y k
suspension_of TaskResume y x compared k = resumes (task_at k y).suspended y compared k
suspension_of RoundRobinYield y x compared k = rotates x (prio_of k x) k
suspension_of s y x compared k = done k (fine 0)

-- what it does to the task's record
abbrev pub resumed_task : Task → Task
resumed_task t = record t { suspended = t.suspended - 1 }

abbrev pub task_moved : Service → Bool → Task → Task
task_moved TaskSuspend own t = suspended_task own t
task_moved s own t = resumed_task t

-- the first task behind one that yields has its full quantum again
abbrev pub refilled_first : Option TaskId → Kernel → Kernel
refilled_first None k = k
refilled_first (Some z) k = refilled z.0 k

-- what is made in the records, where this task is the first of those that wait for what the call is about
abbrev pub records_moved : Service → ℕ → ℕ → Option TaskId → Kernel → Kernel
records_moved RoundRobinYield y x first k = refilled_first first k
records_moved s y x first k = record k { tasks = update_task k.tasks y (task_moved s (y == x)) }

-- its outcome: a task that suspends itself waits, and reads the answer when it is resumed
abbrev pub outcome_moved : Service → Bool → Outcome
outcome_moved TaskSuspend own = if own then Waits else answers (fine 0)
outcome_moved s own = answers (fine 0)
