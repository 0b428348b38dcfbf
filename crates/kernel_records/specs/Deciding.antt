-- What is decided of a call, by the records alone, and how what the call is about then changes: the object that it names, a timer
-- with its match, the own semaphore or queue of a task, or the scheduler.
use Rattle.std.specs.Prelude.{◌≡◌, ℕ, true, List, length, Option, Some, None, if◌then◌else◌}
use Rattle.kern_base.specs.declared.services.Service.{Service}
use Rattle.kern_base.specs.declared.services.Service.TheVariants.{FlagPost}
use Rattle.kern_base.specs.declared.requests.Request.{Request}
use Rattle.kern_base.specs.declared.errors.OsErr.{OsErr}
use Rattle.kern_base.specs.declared.errors.OsErr.TheVariants.{CallUnknown, ObjectType}
use Rattle.kern_base.specs.declared.outcomes.Around.{Around}
use Rattle.kern_base.specs.declared.outcomes.Decision.{Decision}
use Rattle.kern_base.specs.declared.outcomes.Decision.TheVariants.{Done, Block, Wake}
use Rattle.kern_base.specs.declared.outcomes.Who.TheVariants.{First, All, Matching}
use Rattle.kern_model.specs.State.{Kernel, Task, Content, Count, Messages, Bits, list_at, task_at, with_content, with_task}
use Rattle.kern_model.specs.Micro.{Lists}
use Rattle.kern_model.specs.Call.{call_of}
use Rattle.kern_model.specs.Checks.{argument, call_error, named_task}
use Rattle.kern_model.specs.Effect.{Effect}
use Rattle.kern_model.specs.Services.{content_for, effect, perform}
use Rattle.served.specs.Served.{program_serves}
use Rattle.decisions.specs.Around.{IsAround}
use Rattle.decisions.specs.Decided.{decided}
use Rattle.decisions.specs.Rows.{refusal}
use Rattle.semaphores.specs.Rows as semaphore
use Rattle.event_flags.specs.Rows as flags
use Rattle.msg_queues.specs.Rows as queue
use Rattle.task_objects.specs.Rows as own
use Rattle.task_objects.specs.Rows.{is_task_call, target, waiters}
use Rattle.kernel_records.specs.RecordsRecord.{with_lists}
use Rattle.kernel_records.specs.Suspension.{moves_task, suspension_of}
pub use Rattle.kernel_records.specs.Suspension.{acts}
use Rattle.kernel_records.specs.SchedulerCalls.{is_scheduler_call, lock_after, scheduler_decision, scheduler_waiters}
use Rattle.kernel_records.specs.TimerCalls.{counted_in, is_timer_call, timer_change, timer_decision}
use Rattle.kernel_records.specs.Served.{is_served_wake, is_served_wait, may_wake_all}

-- who waits for what a call of x is about: the task whose own semaphore or queue it is, the waiters of the object, or the task whose
-- delay is to end
abbrev pub waiters_of_objects : Request → ℕ → Kernel → List ℕ
waiters_of_objects r x k =
    if is_task_call r.service then waiters r.service (target r.service r x) k else list_at k.pend (argument r 0)

abbrev pub waiters_of : Request → ℕ → Kernel → List ℕ
waiters_of r x k = if is_scheduler_call r.service then scheduler_waiters r.service r x k else waiters_of_objects r x k

-- the object that a call names decides it, where so many messages are free
abbrev pub decision_by : Content → ℕ → Request → Around → Decision
decision_by (Count n) free r seen = semaphore.decision_of n r seen
decision_by (Messages limit ms) free r seen = queue.decision_of limit ms free r seen
decision_by (Bits bits) free r seen = flags.decision_of bits r seen
decision_by content free r seen = refusal ObjectType

-- a call of a service for objects that hold this
abbrev pub IsCallOn : Content → Request → Type 0
IsCallOn (Count n) r = semaphore.IsSemaphoreCall r
IsCallOn (Messages limit ms) r = queue.IsQueueCall r
IsCallOn (Bits bits) r = flags.IsFlagCall r
IsCallOn content r = ⊥

-- the own semaphore and queue of a task decide it
abbrev pub decision_by_task : Task → ℕ → Request → Around → Decision
decision_by_task t free r seen = own.decision_of t.count t.limit t.messages free r seen

-- after the checks of a call
abbrev pub decision_on_objects : Request → Around → Kernel → Decision
decision_on_objects r seen k =
    if is_task_call r.service then decision_by_task (task_at k (target r.service r seen.caller.0)) k.free r seen
    else decision_by (content_for r k) k.free r seen

-- the timer that a call names decides it, or what else it is about
abbrev pub decision_on_named : Request → Around → Kernel → Decision
decision_on_named r seen k =
    if is_timer_call r.service then timer_decision r.service (content_for r k) (argument r 0) (counted_in k)
    else decision_on_objects r seen k

abbrev pub decision_about : Request → Around → Kernel → Decision
decision_about r seen k = if is_scheduler_call r.service then scheduler_decision r seen k else decision_on_named r seen k

abbrev pub decision_after : Option OsErr → Request → Around → Kernel → Decision
decision_after (Some err) r seen k = refusal err
decision_after None r seen k = decision_about r seen k

-- The decision on a call: a service that is not served counts as an unknown number.
abbrev pub decision_of : Request → Around → Kernel → Decision
decision_of r seen k = if program_serves r.service then decision_after (call_error r seen.caller.0 k) r seen k else refusal CallUnknown

-- what an object holds after this was decided of a call on it
abbrev pub content_after : Request → Decision → Content → Content
content_after r d (Count n) = Count (semaphore.count_after r.service d n)
content_after r d (Messages limit ms) = Messages limit (queue.messages_after r.service d r ms)
content_after r d (Bits bits) = Bits (flags.bits_after_call r.service d r bits)
content_after r d content = content

-- how many messages are then free
abbrev pub free_after : Request → Decision → Content → ℕ → ℕ
free_after r d (Messages limit ms) free = queue.free_after r.service d (length ms) free
free_after r d content free = free

-- the kernel after the object has changed that a call names
abbrev pub object_change : Request → Decision → Kernel → Kernel
object_change r d k =
    record (with_content k (argument r 0) (content_after r d (content_for r k))) { free = free_after r d (content_for r k) k.free }

-- a task after its own semaphore or queue has changed
abbrev pub own_task_after : Request → Decision → Task → Task
own_task_after r d t =
    record t { count = own.count_after r.service d t.count; messages = own.messages_after r.service d r t.messages }

-- the kernel after the own objects of task y have changed
abbrev pub task_change : Request → ℕ → Decision → Kernel → Kernel
task_change r y d k = record (with_task k y (own_task_after r d)) { free = own.free_after r.service d k.free }

-- the kernel after the scheduler has changed
abbrev pub scheduler_change : Request → Decision → Kernel → Kernel
scheduler_change r d k = record k { lock = lock_after r.service d k.lock }

-- the kernel after the own objects of a task have changed, or an object that is no timer
abbrev pub held_change : Request → ℕ → Decision → Kernel → Kernel
held_change r x d k = if is_task_call r.service then task_change r (target r.service r x) d k else object_change r d k

-- the kernel after what a call of x is about has changed
abbrev pub changed_by : Request → ℕ → Decision → Kernel → Kernel
changed_by r x d k =
    if is_timer_call r.service then timer_change r.service (argument r 0) (content_for r k) k else held_change r x d k

abbrev pub changed_objects : Request → ℕ → Decision → Kernel → Kernel
changed_objects r x d k = if acts d then changed_by r x d k else k

abbrev pub own_change : Request → ℕ → Decision → Kernel → Kernel
own_change r x d k = if is_scheduler_call r.service then scheduler_change r d k else changed_objects r x d k

-- The effect of a decision on a call of x, on a kernel k that is j once what the call is about has changed: a task is suspended or
-- resumed, or it is what was decided.
abbrev pub effect_for : Service → Decision → Request → ℕ → ℕ → List ℕ → Kernel → Kernel → Effect
effect_for s d r x compared xs k j =
    if moves_task s d then suspension_of s (named_task r x) x compared k else decided d s r x compared xs j

abbrev pub effect_by : Decision → Request → ℕ → ℕ → List ℕ → Kernel → Effect
effect_by d r x compared xs k = effect_for r.service d r x compared xs k (own_change r x d k)

-- A decision is what the service does, whatever the kernel's lists are: those that wait for what the call is about have been seen.
abbrev pub IsRow : Request → Around → Decision → Kernel → Type 0
IsRow r seen d k =
    (l : Lists) (interrupted compared : ℕ) → IsAround seen (waiters_of r seen.caller.0 (with_lists k l)) k →
    effect program_serves (call_of r seen.caller.0 interrupted compared) (with_lists k l)
    ≡ effect_by d r seen.caller.0 compared (waiters_of r seen.caller.0 (with_lists k l)) (with_lists k l)

-- The decision of an object that holds this, where so many messages are free, is what the service does, in every kernel with these.
abbrev pub IsObjectRow : Request → Around → Decision → Content → ℕ → Type 0
IsObjectRow r seen d c free =
    (k : Kernel) (interrupted compared : ℕ) → content_for r k ≡ c → k.free ≡ free → IsAround seen (list_at k.pend (argument r 0)) k →
    perform r.service (call_of r seen.caller.0 interrupted compared) k
    ≡ decided d r.service r seen.caller.0 compared (list_at k.pend (argument r 0))
    (record (with_content k (argument r 0) (content_after r d c)) { free = free_after r d c free })

-- The decisions that come of the services that are served: waits block, posts wake, those of a semaphore or a queue all that wait for
-- it where they say so, and a post of event flags alone looks at each waiter.
abbrev pub IsServedDecision : Decision → Service → Type 0
IsServedDecision (Done a) s = Unit {0}
IsServedDecision Block s = is_served_wait s ≡ true
IsServedDecision (Wake First) s = is_served_wake s ≡ true
IsServedDecision (Wake All) s = may_wake_all s ≡ true
IsServedDecision (Wake Matching) s = s ≡ FlagPost
