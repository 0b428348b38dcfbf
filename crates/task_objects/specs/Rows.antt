-- What is decided of a call on a task's own semaphore or queue, and how these and the pool change.
use Rattle.std.specs.Prelude.{◌≡◌, ℕ, zero, suc, ◌+◌, ◌-◌, ◌^◌, Bool, true, false, List, [], ◌∷◌, drop, length, Option, Some, None, if◌then◌else◌, ◌==◌}
use Rattle.kern_base.specs.declared.numbers.TaskId.{TaskId}
use Rattle.kern_base.specs.declared.services.Service.{Service}
use Rattle.kern_base.specs.declared.services.Service.TheVariants.{TaskSemPost, TaskQPost, TaskSemPend, TaskQPend, TaskSemPendAbort, TaskQPendAbort}
use Rattle.kern_base.specs.declared.requests.Request.{Request}
use Rattle.kern_base.specs.declared.errors.OsErr.TheVariants.{PendAbortNone, PendAbortSelf, SemOverflow}
use Rattle.kern_base.specs.declared.outcomes.Around.{Around}
use Rattle.kern_base.specs.declared.outcomes.Decision.{Decision}
use Rattle.kern_base.specs.declared.outcomes.Decision.TheVariants.{Done, Wake}
use Rattle.kern_base.specs.declared.outcomes.Waiting.{Waiting}
use Rattle.kern_base.specs.declared.outcomes.Who.TheVariants.{First}
use Rattle.kern_model.specs.State.{Kernel, Task, task_at, with_task}
use Rattle.kern_model.specs.Call.{call_of}
use Rattle.kern_model.specs.Checks.{argument, named_task}
use Rattle.kern_model.specs.Effect.{fine}
use Rattle.kern_model.specs.Options.{stores_first, does_not_wait}
use Rattle.kern_model.specs.Queues.{stored, store_error}
use Rattle.kern_model.specs.Services.{perform}
use Rattle.kern_model.specs.TaskObjects.{waits_for_semaphore, waits_for_queue}
use Rattle.decisions.specs.Around.{IsAround}
use Rattle.decisions.specs.Decided.{decided}
use Rattle.decisions.specs.Rows.{is_success, refusal, wait_decision}
use Rattle.msg_queues.specs.Rows.{store_decision, pend_decision}

-- whether a call is about a task's own semaphore or queue
abbrev pub is_task_call : Service → Bool
is_task_call TaskSemPost = true
is_task_call TaskQPost = true
is_task_call TaskSemPend = true
is_task_call TaskQPend = true
is_task_call TaskSemPendAbort = true
is_task_call TaskQPendAbort = true
is_task_call _ = false

abbrev pub IsTaskCall : Request → Type 0
IsTaskCall r = is_task_call r.service ≡ true

-- the task whose object a call of x is about: a wait is about the caller's own
abbrev pub target : Service → Request → ℕ → ℕ
target TaskSemPend r x = x
target TaskQPend r x = x
target _ r x = named_task r x

-- whether a task that waits so waits for the object that a call is about
abbrev pub waits_for_it : Service → Waiting → Bool
waits_for_it TaskQPost w = waits_for_queue w
waits_for_it TaskQPend w = waits_for_queue w
waits_for_it TaskQPendAbort w = waits_for_queue w
waits_for_it _ w = waits_for_semaphore w

-- the waiters of that object: the task itself, or nobody
abbrev pub waiters : Service → ℕ → Kernel → List ℕ
waiters s y k = if waits_for_it s (task_at k y).waiting then y ∷ [] else []

-- a post to a semaphore with this count
abbrev pub sem_post_decision : ℕ → Option TaskId → Decision
sem_post_decision n None = if n == 2 ^ 32 - 1 then refusal SemOverflow else Done (fine (n + 1))
sem_post_decision n (Some x) = Wake First

-- a post of a message, where so many are held, so many may be, and so many are free
abbrev pub q_post_decision : ℕ → ℕ → ℕ → Option TaskId → Decision
q_post_decision held limit free None = store_decision (store_error held limit free)
q_post_decision held limit free (Some x) = Wake First

-- a wait for the caller's semaphore with this count
abbrev pub sem_pend_decision : ℕ → ℕ → Bool → Decision
sem_pend_decision zero option locked = wait_decision (does_not_wait option) locked
sem_pend_decision (suc n) option locked = Done (fine n)

-- an abort of the wait of another task, or of the caller
abbrev pub task_abort_decision : Bool → Option TaskId → Decision
task_abort_decision true first = refusal PendAbortSelf
task_abort_decision false None = refusal PendAbortNone
task_abort_decision false (Some x) = Wake First

-- the decision on a call, where the semaphore has this count and the queue with this limit these messages
abbrev pub decision_for : Service → ℕ → ℕ → List (ℕ × ℕ) → ℕ → Request → Around → Decision
decision_for TaskSemPost n limit ms free r seen = sem_post_decision n seen.first
decision_for TaskQPost n limit ms free r seen = q_post_decision (length ms) limit free seen.first
decision_for TaskSemPend n limit ms free r seen = sem_pend_decision n (argument r 1) seen.locked
decision_for TaskQPend n limit ms free r seen = pend_decision ms (argument r 1) seen.locked
decision_for _ n limit ms free r seen = task_abort_decision (named_task r seen.caller.0 == seen.caller.0) seen.first

abbrev pub decision_of : ℕ → ℕ → List (ℕ × ℕ) → ℕ → Request → Around → Decision
decision_of n limit ms free r seen = decision_for r.service n limit ms free r seen

-- the count after a call that was decided so
abbrev pub count_after : Service → Decision → ℕ → ℕ
count_after TaskSemPost d n = if is_success d then n + 1 else n
count_after TaskSemPend d n = if is_success d then n - 1 else n
count_after _ d n = n

-- the messages after it
abbrev pub messages_after : Service → Decision → Request → List (ℕ × ℕ) → List (ℕ × ℕ)
messages_after TaskQPost d r ms =
    if is_success d then stored (stores_first (argument r 3)) (argument r 1, argument r 2) ms else ms
messages_after TaskQPend d r ms = if is_success d then drop 1 ms else ms
messages_after _ d r ms = ms

-- the number of free messages after it
abbrev pub free_after : Service → Decision → ℕ → ℕ
free_after TaskQPost d free = if is_success d then free - 1 else free
free_after TaskQPend d free = if is_success d then free + 1 else free
free_after _ d free = free

-- a task's own objects hold this
pub record Holds (n limit : ℕ) (ms : List (ℕ × ℕ)) (t : Task) : Type 0 where
  pub counted : t.count ≡ n
  pub limited : t.limit ≡ limit
  pub filled : t.messages ≡ ms

-- The decision on a call about the own objects of a task that hold this, where so many messages are free and with this around
-- them: it comes to what the service does, in every kernel with these.
abbrev pub IsTaskDecided : Decision → ℕ → ℕ → List (ℕ × ℕ) → ℕ → Request → Around → Type 0
IsTaskDecided d n limit ms free r seen =
    (k : Kernel) (interrupted compared : ℕ) →
    let y = target r.service r seen.caller.0 in
    Holds n limit ms (task_at k y) → k.free ≡ free → IsAround seen (waiters r.service y k) k →
    perform r.service (call_of r seen.caller.0 interrupted compared) k
    ≡ decided d r.service r seen.caller.0 compared (waiters r.service y k)
    (record (with_task k y (λ t. record t { count = count_after r.service d n; messages = messages_after r.service d r ms })) {
      free = free_after r.service d free;
    })
