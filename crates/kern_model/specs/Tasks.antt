-- The services that suspend, resume and delete tasks and change their priorities, and those of the scheduler's lock.
use Rattle.std.specs.Prelude.{ℕ, zero, suc, ◌+◌, ◌-◌, Bool, true, false, ◌&&◌, ◌||◌, List, [], ◌∷◌, ◌++◌, length, if◌then◌else◌, ◌==◌, nat_lt, nat_le, Some, None}
use Rattle.kern_base.specs.declared.services.Service.TheVariants.{TaskSuspend}
use Rattle.kern_base.specs.declared.outcomes.Waiting.TheVariants.{No}
use Rattle.kern_base.specs.declared.outcomes.Outcome.{Outcome}
use Rattle.kern_base.specs.declared.outcomes.Outcome.TheVariants.{Waits, Gone}
use Rattle.kern_base.specs.declared.requests.Request.{Request}
use Rattle.kern_base.specs.declared.errors.OsErr.TheVariants.{SchedLocked, Depth, TaskResumeSelf, TaskNotSuspended, PrioInvalid, LockOverflow, SchedNotLocked}
use Rattle.kern_model.specs.State.{Kernel, Task, task_at, with_task, update_task, update_list, without, is_ready, waits_for_nothing, timer_task, nesting_limit, lowest_priority}
use Rattle.kern_model.specs.Micro.{Block, unready, at_tail}
use Rattle.kern_model.specs.Effect.{Effect, refused, done, answer, answers, fine, plain_result, left_all, leave_blocks, woken_ready, ready_blocks, unmatched}
use Rattle.kern_model.specs.Checks.{argument, named_task}
use Rattle.kern_model.specs.Inherit.{renewing, waited_objects}

-- the ready lists after a task leaves them, where it stands in one
abbrev pub left_ready : Bool → ℕ → ℕ → List (List ℕ) → List (List ℕ)
left_ready true x p lists = update_list lists p (without x)
left_ready false x p lists = lists

-- the blocks of that
abbrev pub unready_blocks : Bool → ℕ → ℕ → List Block
unready_blocks true x p = unready x p ∷ []
unready_blocks false x p = []

-- OSTaskSuspend: the task is suspended once more, up to 250 times, and is not ready. A caller that suspends itself has a
-- result that waits until it is resumed.
abbrev pub suspended_task : Bool → Task → Task
suspended_task own t =
    record t { suspended = t.suspended + 1; answered = if own then Some (plain_result TaskSuspend (fine 0)) else t.answered }

-- x is suspended once more, by itself or by another
abbrev pub suspends : Bool → ℕ → Kernel → Effect
suspends own x k =
    let t = task_at k x in
    record {
      kernel = record k { tasks = update_task k.tasks x (suspended_task own); ready = left_ready (is_ready t) x t.prio k.ready };
      outcome = if own then Waits else answers (fine 0);
      blocks = unready_blocks (is_ready t) x t.prio;
    }

-- OSTaskSuspend of the task that the call names
abbrev pub task_suspend : Request → ℕ → Kernel → Effect
task_suspend r x k =
    let y = named_task r x in
    if (y == x) && nat_lt 0 k.lock then refused k SchedLocked
    else (if (task_at k y).suspended == nesting_limit then refused k Depth else suspends (y == x) y k)

-- OSTaskResume: the suspension count of another task falls; at 0 it is ready where it waits for nothing.
abbrev pub resumed_ready : Bool → ℕ → ℕ → ℕ → ℕ → List (List ℕ) → List (List ℕ)
resumed_ready true n p compared x lists = woken_ready n p compared x lists
resumed_ready false n p compared x lists = lists

-- the blocks of that
abbrev pub resumed_blocks : Bool → ℕ → ℕ → ℕ → ℕ → List Block
resumed_blocks true n x p compared = ready_blocks n x p compared
resumed_blocks false n x p compared = []

-- x, suspended so often, is resumed once
abbrev pub resumes : ℕ → ℕ → ℕ → Kernel → Effect
resumes zero x compared k = refused k TaskNotSuspended
resumes (suc n) x compared k =
    let t = task_at k x in
    record {
      kernel = record k { tasks = update_task k.tasks x (λ t. record t { suspended = n }); ready = resumed_ready (waits_for_nothing t.waiting) n t.prio compared x k.ready };
      outcome = answers (fine 0);
      blocks = resumed_blocks (waits_for_nothing t.waiting) n x t.prio compared;
    }

-- OSTaskResume of the task that the call names, which must not be the caller
abbrev pub task_resume : Request → ℕ → ℕ → Kernel → Effect
task_resume r x compared k =
    let y = named_task r x in
    if y == x then refused k TaskResumeSelf else resumes (task_at k y).suspended y compared k

-- OSTaskDel: the task leaves its lists, its timeout and its waiting result are gone and its messages are free; it keeps its
-- mutexes. Priorities are renewed.
abbrev pub deleted_task : Task → Task
deleted_task t = record t { alive = false; waiting = No; answered = None; messages = [] }

-- x is deleted, with this outcome for the caller
abbrev pub task_ends : Outcome → ℕ → Kernel → Effect
task_ends outcome x k =
    let t = task_at k x in
    record {
      kernel = record k {
        tasks = update_task k.tasks x deleted_task;
        ready = left_ready (is_ready t) x t.prio k.ready;
        pend = left_all x (waited_objects t) k.pend;
        matches = unmatched x k.matches;
        free = k.free + length t.messages;
      };
      outcome = outcome;
      blocks = unready_blocks (is_ready t) x t.prio ++ leave_blocks x (waited_objects t);
    }

-- OSTaskDel of the task that the call names
abbrev pub task_del : Request → ℕ → Kernel → Effect
task_del r x k =
    let y = named_task r x in
    if (y == x) && nat_lt 0 k.lock then refused k SchedLocked
    else renewing at_tail (task_ends (if y == x then Gone else answers (fine 0)) y k)

-- OSTaskChangePrio: the task's base priority becomes another, and priorities are renewed.
abbrev pub task_change_prio : Request → ℕ → Kernel → Effect
task_change_prio r x k =
    let priority = argument r 1 in
    if nat_le 1 priority && nat_le priority lowest_priority then renewing at_tail (done (with_task k (named_task r x) (λ t. record t { base = priority })) (fine 0))
    else refused k PrioInvalid

-- OSSchedLock: the scheduler is locked once more, up to 250 times.
abbrev pub sched_lock : Kernel → Effect
sched_lock k = if k.lock == nesting_limit then refused k LockOverflow else done (record k { lock = k.lock + 1 }) (fine (k.lock + 1))

-- OSSchedUnlock: the lock falls; a callback can not undo the timer task's own.
abbrev pub unlocks : ℕ → Kernel → Effect
unlocks zero k = done (record k { lock = 0 }) (fine 0)
unlocks (suc n) k = done (record k { lock = suc n }) (answer SchedLocked (suc n))

-- OSSchedUnlock by the caller x
abbrev pub sched_unlock : ℕ → Kernel → Effect
sched_unlock x k =
    if (k.lock == 0) || ((k.lock == 1) && (x == timer_task)) then refused k SchedNotLocked else unlocks (k.lock - 1) k
