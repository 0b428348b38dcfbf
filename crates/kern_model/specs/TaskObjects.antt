-- The services of a task's own semaphore and message queue.
use Rattle.std.specs.Prelude.{ℕ, zero, suc, ◌+◌, ◌-◌, ◌^◌, Bool, true, false, List, [], ◌∷◌, length, if◌then◌else◌, ◌==◌, Option, Some, None}
use Rattle.kern_base.specs.declared.outcomes.Waiting.{Waiting}
use Rattle.kern_base.specs.declared.outcomes.Waiting.TheVariants.{TaskSem, TaskQ}
use Rattle.kern_base.specs.declared.requests.Request.{Request}
use Rattle.kern_base.specs.declared.errors.OsErr.{OsErr}
use Rattle.kern_base.specs.declared.errors.OsErr.TheVariants.{SemOverflow, PendAbort, PendAbortNone, PendAbortSelf}
use Rattle.kern_model.specs.State.{Kernel, task_at, with_task}
use Rattle.kern_model.specs.Effect.{Effect, refused, done, answer, fine, message, woken, result_of, waits_unless, blocks_on, waits_for}
use Rattle.kern_model.specs.Options.{stores_first, does_not_wait}
use Rattle.kern_model.specs.Checks.{argument, named_task}
use Rattle.kern_model.specs.Queues.{stored, store_error}

-- a task's semaphore counts up, unless it is at its greatest count
abbrev pub task_counts_up : ℕ → ℕ → Kernel → Effect
task_counts_up n x k =
    if n == 2 ^ 32 - 1 then refused k SemOverflow else done (with_task k x (λ t. record t { count = n + 1 })) (fine (n + 1))

-- OSTaskSemPost: wakes the task where it waits for its semaphore; else the count rises.
abbrev pub task_sem_post_to : Waiting → ℕ → ℕ → Kernel → Effect
task_sem_post_to TaskSem x compared k = woken (result_of (fine 0)) (fine 0) compared (x ∷ []) k
task_sem_post_to w x compared k = task_counts_up (task_at k x).count x k

-- OSTaskSemPost to the task that the call names
abbrev pub task_sem_post : Request → ℕ → ℕ → Kernel → Effect
task_sem_post r x compared k = let y = named_task r x in task_sem_post_to (task_at k y).waiting y compared k

-- a message is stored in a task's queue, unless it can not be
abbrev pub task_store : Option OsErr → ℕ → List (ℕ × ℕ) → Kernel → Effect
task_store (Some err) x ms k = refused k err
task_store None x ms k = done (record (with_task k x (λ t. record t { messages = ms })) { free = k.free - 1 }) (fine 0)

-- OSTaskQPost: hands the message to the task where it waits for its queue; else it is stored, with option 1 as the first.
abbrev pub task_q_post_to : Waiting → Request → ℕ → ℕ → Kernel → Effect
task_q_post_to TaskQ r x compared k =
    let address = argument r 1 in
    let size = argument r 2 in
    woken (result_of (message address size)) (fine 0) compared (x ∷ []) k
task_q_post_to w r x compared k =
    let address = argument r 1 in
    let size = argument r 2 in
    let option = argument r 3 in
    let t = task_at k x in
    task_store (store_error (length t.messages) t.limit k.free) x (stored (stores_first option) (address, size) t.messages) k

-- OSTaskQPost to the task that the call names
abbrev pub task_q_post : Request → ℕ → ℕ → Kernel → Effect
task_q_post r x compared k = let y = named_task r x in task_q_post_to (task_at k y).waiting r y compared k

-- OSTaskSemPend: takes one from the caller's own count; at 0 it waits.
abbrev pub task_sem_pend_on : ℕ → Request → ℕ → Kernel → Effect
task_sem_pend_on zero r x k =
    let timeout = argument r 0 in
    let option = argument r 1 in
    waits_unless k (does_not_wait option) (blocks_on k x (waits_for TaskSem [] timeout))
task_sem_pend_on (suc n) r x k = done (with_task k x (λ t. record t { count = n })) (fine n)

-- OSTaskSemPend by its caller
abbrev pub task_sem_pend : Request → ℕ → Kernel → Effect
task_sem_pend r x k = task_sem_pend_on (task_at k x).count r x k

-- OSTaskQPend: takes the first message of the caller's own queue; where there is none it waits.
abbrev pub task_q_pend_on : List (ℕ × ℕ) → Request → ℕ → Kernel → Effect
task_q_pend_on [] r x k =
    let timeout = argument r 0 in
    let option = argument r 1 in
    waits_unless k (does_not_wait option) (blocks_on k x (waits_for TaskQ [] timeout))
task_q_pend_on (m ∷ ms) r x k =
    done (record (with_task k x (λ t. record t { messages = ms })) { free = k.free + 1 }) (message m.0 m.1)

-- OSTaskQPend by its caller
abbrev pub task_q_pend : Request → ℕ → Kernel → Effect
task_q_pend r x k = task_q_pend_on (task_at k x).messages r x k

-- whether a task waits for its own semaphore
abbrev pub waits_for_semaphore : Waiting → Bool
waits_for_semaphore TaskSem = true
waits_for_semaphore w = false

-- whether a task waits for its own queue
abbrev pub waits_for_queue : Waiting → Bool
waits_for_queue TaskQ = true
waits_for_queue w = false

-- OSTaskSemPendAbort and OSTaskQPendAbort: another task waits no more for its own semaphore, or for its own queue.
abbrev pub task_abort_of : Bool → ℕ → ℕ → Kernel → Effect
task_abort_of false x compared k = refused k PendAbortNone
task_abort_of true x compared k = woken (result_of (answer PendAbort 0)) (fine 1) compared (x ∷ []) k

-- the abort of such a wait of the task that the call names, which must not be the caller
abbrev pub task_abort : (Waiting → Bool) → Request → ℕ → ℕ → Kernel → Effect
task_abort waits r x compared k =
    let y = named_task r x in
    if y == x then refused k PendAbortSelf else task_abort_of (waits (task_at k y).waiting) y compared k
