-- Calls on the scheduler: its lock, its ticks, delays, suspension of tasks, and the yield.
use Rattle.std.specs.Prelude.{ℕ, zero, suc, ◌+◌, ◌-◌, Bool, true, false, not, ◌&&◌, ◌||◌, List, [], ◌∷◌, if◌then◌else◌, ◌==◌}
use Rattle.kern_base.specs.declared.services.Service.{Service}
use Rattle.kern_base.specs.declared.services.Service.TheVariants.{SchedLock, SchedUnlock, TimeGet, TimeDly, TimeDlyResume, TaskSuspend, TaskResume, RoundRobinYield, TimeTick}
use Rattle.kern_base.specs.declared.requests.Request.{Request}
use Rattle.kern_base.specs.declared.errors.OsErr.TheVariants.{CallUnknown, LockOverflow, SchedLocked, SchedNotLocked}
use Rattle.kern_base.specs.declared.outcomes.Around.{Around}
use Rattle.kern_base.specs.declared.outcomes.Decision.{Decision}
use Rattle.kern_base.specs.declared.outcomes.Decision.TheVariants.{Done}
use Rattle.kern_model.specs.State.{Kernel, is_zero, list_at, nesting_limit, prio_of, task_at, timer_task}
use Rattle.kern_model.specs.Checks.{named_task}
use Rattle.kern_model.specs.Effect.{answer, fine}
use Rattle.kern_model.specs.Time.{delay_of}
use Rattle.decisions.specs.Rows.{is_no_error, refusal}
use Rattle.round_robin.specs.Turns.{yield_decision}
use Rattle.tick_timers.specs.Delays.{delay_decision, is_delayed, resume_decision}
use Rattle.kernel_records.specs.Suspension.{suspend_decision, task_resume_decision}

abbrev pub is_scheduler_call : Service → Bool
is_scheduler_call SchedLock = true
is_scheduler_call SchedUnlock = true
is_scheduler_call TimeGet = true
is_scheduler_call TimeDly = true
is_scheduler_call TimeDlyResume = true
is_scheduler_call TaskSuspend = true
is_scheduler_call TaskResume = true
is_scheduler_call RoundRobinYield = true
is_scheduler_call TimeTick = true
is_scheduler_call _ = false

-- OSTimeTick is not decided: it always succeeds
abbrev pub is_tick : Service → Bool
is_tick TimeTick = true
is_tick _ = false

-- the scheduler is locked so often, and once more
abbrev pub lock_decision : ℕ → Decision
lock_decision lock = if lock == nesting_limit then refusal LockOverflow else Done (fine (lock + 1))

-- what is left of the lock
abbrev pub unlocked_to : ℕ → Decision
unlocked_to zero = Done (fine 0)
unlocked_to (suc n) = Done (answer SchedLocked (suc n))

-- caller x unlocks it once: in a callback the lock of the timer task itself stays
abbrev pub unlock_decision : ℕ → ℕ → Decision
unlock_decision x lock =
    if (lock == 0) || ((lock == 1) && (x == timer_task)) then refusal SchedNotLocked else unlocked_to (lock - 1)

abbrev pub scheduler_decision_for : Service → Request → Around → Kernel → Decision
scheduler_decision_for SchedLock r seen k = lock_decision k.lock
scheduler_decision_for SchedUnlock r seen k = unlock_decision seen.caller.0 k.lock
scheduler_decision_for TimeGet r seen k = Done (fine k.ticks)
scheduler_decision_for TimeDly r seen k = delay_decision seen.locked (delay_of r k.ticks)
scheduler_decision_for TimeDlyResume r seen k = resume_decision (is_delayed (task_at k (named_task r seen.caller.0)).waiting)
scheduler_decision_for TaskSuspend r seen k =
    let y = named_task r seen.caller.0 in suspend_decision ((y == seen.caller.0) && seen.locked) (task_at k y).suspended
scheduler_decision_for TaskResume r seen k =
    let y = named_task r seen.caller.0 in task_resume_decision (y == seen.caller.0) (task_at k y).suspended
scheduler_decision_for RoundRobinYield r seen k = yield_decision seen.first seen.locked k.settings.round_robin
scheduler_decision_for _ r seen k = refusal CallUnknown

abbrev pub scheduler_decision : Request → Around → Kernel → Decision
scheduler_decision r seen k = scheduler_decision_for r.service r seen k

-- those whose turn comes once x has yielded, where its ready list is this
abbrev pub turn_waiters : ℕ → List ℕ → List ℕ
turn_waiters x [] = []
turn_waiters x (y ∷ []) = []
turn_waiters x (y ∷ z ∷ zs) = if y == x then z ∷ zs else y ∷ z ∷ zs

-- who waits for what a call of x is about: the task that it names, where its delay is to end, or those whose turn comes
abbrev pub scheduler_waiters : Service → Request → ℕ → Kernel → List ℕ
scheduler_waiters TimeDlyResume r x k =
    let y = named_task r x in if is_delayed (task_at k y).waiting then y ∷ [] else []
scheduler_waiters RoundRobinYield r x k = turn_waiters x (list_at k.ready (prio_of k x))
scheduler_waiters s r x k = []

-- the lock after this was decided of a call that locks or unlocks: an unlock that is not the last is answered with an error and what
-- is left, a call that is refused with the value 0
abbrev pub lock_after : Service → Decision → ℕ → ℕ
lock_after SchedLock (Done a) lock = if is_no_error a.err then lock + 1 else lock
lock_after SchedUnlock (Done a) lock = if is_no_error a.err || not (is_zero a.value) then lock - 1 else lock
lock_after s d lock = lock
