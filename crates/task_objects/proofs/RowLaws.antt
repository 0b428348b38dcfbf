-- Each decision on a task's own semaphore or queue comes to what its service does.
use Rattle.std.proofs.Common.{◌≡◌, ℕ, zero, suc, ◌+◌, ◌^◌, List, [], ◌∷◌, length, refl, sym, ap, subst, ◌∙◌, Bool, true, false, not, arith, Some, None}
use Rattle.std.specs.Prelude.{if◌then◌else◌, ◌==◌, ◌-◌, nat_le, slice_index_or}
use Rattle.std.proofs.lemmas.Bool.{false≢true}
use Rattle.kern_base.specs.declared.services.Service.{Service}
use Rattle.kern_base.specs.declared.services.Service.TheVariants.{TaskSemPost, TaskQPost, TaskSemPend, TaskQPend, TaskSemPendAbort, TaskQPendAbort}
use Rattle.kern_base.specs.declared.requests.Request.{Request}
use Rattle.kern_base.specs.declared.errors.OsErr.TheVariants.{PendAbort, PendAbortNone, PendAbortSelf, PoolEmpty, QueueMax, SemOverflow}
use Rattle.kern_base.specs.declared.outcomes.Around.{Around}
use Rattle.kern_base.specs.declared.outcomes.Decision.{Decision}
use Rattle.kern_base.specs.declared.outcomes.Decision.TheVariants.{Done}
use Rattle.kern_base.specs.declared.outcomes.Waiting.{Waiting}
use Rattle.kern_base.specs.declared.outcomes.Waiting.TheVariants.{TaskSem, TaskQ}
use Rattle.kern_model.specs.State.{Kernel, Task, no_task, task_at, update_task, with_task}
use Rattle.kern_model.specs.Call.{call_of}
use Rattle.kern_model.specs.Checks.{argument, named_task}
use Rattle.kern_model.specs.Effect.{Effect, answer, done, fine, message, refused, result_of, woken}
use Rattle.kern_model.specs.Options.{stores_first, does_not_wait}
use Rattle.kern_model.specs.Queues.{stored, store_error}
use Rattle.kern_model.specs.Services.{perform}
use Rattle.kern_model.specs.TaskObjects.{task_counts_up, task_sem_post_to, task_store, task_q_post_to, task_sem_pend_on, task_q_pend_on, task_abort_of, waits_for_semaphore, waits_for_queue}
use Rattle.decisions.specs.Around.{IsAround, first_waiter}
use Rattle.decisions.specs.Rows.{refusal, wait_decision}
use Rattle.decisions.specs.Decided.{decided}
use Rattle.decisions.proofs.Rows.{wait-row}
use Rattle.msg_queues.specs.Rows.{store_decision, pend_decision}
use Rattle.task_objects.specs.Rows.{IsTaskCall, is_task_call, IsTaskDecided, Holds, target, waiters, sem_post_decision, q_post_decision, sem_pend_decision, task_abort_decision, decision_for, decision_of, count_after, messages_after, free_after}

-- the kernel with this in a task's own objects, and so many messages free
abbrev kept : Kernel → ℕ → ℕ → List (ℕ × ℕ) → ℕ → Kernel
kept k y n ms free = record (with_task k y (λ t. record t { count = n; messages = ms })) { free = free }

-- a task alone, where it waits
abbrev alone : Bool → ℕ → List ℕ
alone waits y = if waits then y ∷ [] else []

-- a task that keeps what it has stays as it is
update_task-same : (ts : List Task) (y : ℕ) → update_task ts y (λ t. record t { count = (slice_index_or ts y no_task).count; messages = (slice_index_or ts y no_task).messages }) ≡ ts
update_task-same [] y = refl
update_task-same (t ∷ ts) zero = refl
update_task-same (t ∷ ts) (suc y) = ap (λ us. t ∷ us) (update_task-same ts y)

module _ (r : Request) (x h y : ℕ) (k : Kernel) (n limit : ℕ) (ms : List (ℕ × ℕ)) (held : Holds n limit ms (task_at k y)) where
  stays : {A : Type 0} (f : Kernel → A) → f k ≡ f (kept k y n ms k.free)
  stays f =
      ap (λ ts. f (record k { tasks = ts })) (sym (update_task-same k.tasks y))
      ∙ ap (λ m. f (kept k y m (task_at k y).messages k.free)) held.counted
      ∙ ap (λ l. f (kept k y n l k.free)) held.filled

  -- what a decision comes to
  abbrev comes : Service → List ℕ → Decision → Effect
  comes s xs d = decided d s r x h xs (kept k y (count_after s d n) (messages_after s d r ms) (free_after s d k.free))

  -- OSTaskSemPost

  counts-row : (b : Bool) → (if b then refused k SemOverflow else done (with_task k y (λ t. record t { count = n + 1 })) (fine (n + 1))) ≡ comes TaskSemPost [] (if b then refusal SemOverflow else Done (fine (n + 1)))
  counts-row true = stays (λ j. refused j SemOverflow)
  counts-row false = ap (λ l. done (kept k y (n + 1) l k.free) (fine (n + 1))) held.filled

  sem-post-row : (w : Waiting) → task_sem_post_to w y h k ≡ comes TaskSemPost (alone (waits_for_semaphore w) y) (sem_post_decision n (first_waiter (alone (waits_for_semaphore w) y)))
  sem-post-row TaskSem = stays (λ j. woken (result_of (fine 0)) (fine 0) h (y ∷ []) j)
  sem-post-row _ = ap (λ m. task_counts_up m y k) held.counted ∙ counts-row (n == 2 ^ 32 - 1)

  -- OSTaskQPost

  store-row : (full empty : Bool) → task_store (if full then Some QueueMax else (if empty then Some PoolEmpty else None)) y (stored (stores_first (argument r 3)) (argument r 1, argument r 2) ms) k ≡ comes TaskQPost [] (store_decision (if full then Some QueueMax else (if empty then Some PoolEmpty else None)))
  store-row true empty = stays (λ j. refused j QueueMax)
  store-row false true = stays (λ j. refused j PoolEmpty)
  store-row false false = ap (λ m. done (kept k y m (stored (stores_first (argument r 3)) (argument r 1, argument r 2) ms) (k.free - 1)) (fine 0)) held.counted

  q-post-row : (w : Waiting) → task_q_post_to w r y h k ≡ comes TaskQPost (alone (waits_for_queue w) y) (q_post_decision (length ms) limit k.free (first_waiter (alone (waits_for_queue w) y)))
  q-post-row TaskQ = stays (λ j. woken (result_of (message (argument r 1) (argument r 2))) (fine 0) h (y ∷ []) j)
  q-post-row _ =
      let first = stores_first (argument r 3) in
      ap (λ l. task_store (store_error (length (task_at k y).messages) l k.free) y (stored first (argument r 1, argument r 2) (task_at k y).messages) k) held.limited
      ∙ ap (λ l. task_store (store_error (length l) limit k.free) y (stored first (argument r 1, argument r 2) l) k) held.filled
      ∙ store-row (nat_le limit (length ms)) (k.free == 0)

  -- OSTaskSemPendAbort and OSTaskQPendAbort

  sem-abort-row : (own waits : Bool) → (if own then refused k PendAbortSelf else task_abort_of waits y h k) ≡ comes TaskSemPendAbort (alone waits y) (task_abort_decision own (first_waiter (alone waits y)))
  sem-abort-row true waits = stays (λ j. refused j PendAbortSelf)
  sem-abort-row false true = stays (λ j. woken (result_of (answer PendAbort 0)) (fine 1) h (y ∷ []) j)
  sem-abort-row false false = stays (λ j. refused j PendAbortNone)

  q-abort-row : (own waits : Bool) → (if own then refused k PendAbortSelf else task_abort_of waits y h k) ≡ comes TaskQPendAbort (alone waits y) (task_abort_decision own (first_waiter (alone waits y)))
  q-abort-row true waits = stays (λ j. refused j PendAbortSelf)
  q-abort-row false true = stays (λ j. woken (result_of (answer PendAbort 0)) (fine 1) h (y ∷ []) j)
  q-abort-row false false = stays (λ j. refused j PendAbortNone)

-- OSTaskSemPend

sem-unchanged : (k : Kernel) (x : ℕ) (ms : List (ℕ × ℕ)) (non_blocking locked : Bool) → kept k x 0 ms k.free ≡ kept k x (count_after TaskSemPend (wait_decision non_blocking locked) 0) ms k.free
sem-unchanged k x ms true locked = refl
sem-unchanged k x ms false true = refl
sem-unchanged k x ms false false = refl

sem-pend-law : (r : Request) (x h : ℕ) (xs : List ℕ) (k : Kernel) (n limit : ℕ) (ms : List (ℕ × ℕ)) (held : Holds n limit ms (task_at k x)) → task_sem_pend_on n r x k ≡ comes r x h x k n limit ms held TaskSemPend xs (sem_pend_decision n (argument r 1) (not (k.lock == 0)))
sem-pend-law r x h xs k zero limit ms held =
    let d = wait_decision (does_not_wait (argument r 1)) (not (k.lock == 0)) in
    wait-row k (λ d. decided d TaskSemPend r x h xs k) _ refl refl refl (does_not_wait (argument r 1))
    ∙ stays r x h x k 0 limit ms held (λ j. decided d TaskSemPend r x h xs j)
    ∙ ap (λ j. decided d TaskSemPend r x h xs j) (sem-unchanged k x ms (does_not_wait (argument r 1)) (not (k.lock == 0)))
sem-pend-law r x h xs k (suc n) limit ms held =
    let less_one : n ≡ suc n - 1 = omega arith in
    ap (λ l. done (kept k x n l k.free) (fine n)) held.filled ∙ ap (λ m. done (kept k x m ms k.free) (fine n)) less_one

-- OSTaskQPend

q-unchanged : (r : Request) (k : Kernel) (x n : ℕ) (non_blocking locked : Bool) → kept k x n [] k.free ≡ kept k x n (messages_after TaskQPend (wait_decision non_blocking locked) r []) (free_after TaskQPend (wait_decision non_blocking locked) k.free)
q-unchanged r k x n true locked = refl
q-unchanged r k x n false true = refl
q-unchanged r k x n false false = refl

q-pend-law : (r : Request) (x h : ℕ) (xs : List ℕ) (k : Kernel) (n limit : ℕ) (ms : List (ℕ × ℕ)) (held : Holds n limit ms (task_at k x)) → task_q_pend_on ms r x k ≡ comes r x h x k n limit ms held TaskQPend xs (pend_decision ms (argument r 1) (not (k.lock == 0)))
q-pend-law r x h xs k n limit [] held =
    let d = wait_decision (does_not_wait (argument r 1)) (not (k.lock == 0)) in
    wait-row k (λ d. decided d TaskQPend r x h xs k) _ refl refl refl (does_not_wait (argument r 1))
    ∙ stays r x h x k n limit [] held (λ j. decided d TaskQPend r x h xs j)
    ∙ ap (λ j. decided d TaskQPend r x h xs j) (q-unchanged r k x n (does_not_wait (argument r 1)) (not (k.lock == 0)))
q-pend-law r x h xs k n limit (m ∷ ms) held = ap (λ c. done (kept k x c ms (k.free + 1)) (message m.0 m.1)) held.counted

-- all six

row : (s : Service) → is_task_call s ≡ true → (n limit : ℕ) (ms : List (ℕ × ℕ)) (r : Request) (seen : Around) (k : Kernel) (c h : ℕ) (held : Holds n limit ms (task_at k (target s r seen.caller.0))) → IsAround seen (waiters s (target s r seen.caller.0) k) k → perform s (call_of r seen.caller.0 c h) k ≡ comes r seen.caller.0 h (target s r seen.caller.0) k n limit ms held s (waiters s (target s r seen.caller.0) k) (decision_for s n limit ms k.free r seen)
row TaskSemPost wanted n limit ms r seen k c h held around =
    let y = named_task r seen.caller.0 in
    let xs = waiters TaskSemPost y k in
    sem-post-row r seen.caller.0 h y k n limit ms held (task_at k y).waiting
    ∙ ap (λ first. comes r seen.caller.0 h y k n limit ms held TaskSemPost xs (sem_post_decision n first)) (sym around.first)
row TaskQPost wanted n limit ms r seen k c h held around =
    let y = named_task r seen.caller.0 in
    let xs = waiters TaskQPost y k in
    q-post-row r seen.caller.0 h y k n limit ms held (task_at k y).waiting
    ∙ ap (λ first. comes r seen.caller.0 h y k n limit ms held TaskQPost xs (q_post_decision (length ms) limit k.free first)) (sym around.first)
row TaskSemPend wanted n limit ms r seen k c h held around =
    let x = seen.caller.0 in
    let xs = waiters TaskSemPend x k in
    ap (λ m. task_sem_pend_on m r x k) held.counted
    ∙ sem-pend-law r x h xs k n limit ms held
    ∙ ap (λ locked. comes r x h x k n limit ms held TaskSemPend xs (sem_pend_decision n (argument r 1) locked)) (sym around.locked)
row TaskQPend wanted n limit ms r seen k c h held around =
    let x = seen.caller.0 in
    let xs = waiters TaskQPend x k in
    ap (λ l. task_q_pend_on l r x k) held.filled
    ∙ q-pend-law r x h xs k n limit ms held
    ∙ ap (λ locked. comes r x h x k n limit ms held TaskQPend xs (pend_decision ms (argument r 1) locked)) (sym around.locked)
row TaskSemPendAbort wanted n limit ms r seen k c h held around =
    let x = seen.caller.0 in
    let y = named_task r x in
    let xs = waiters TaskSemPendAbort y k in
    sem-abort-row r x h y k n limit ms held (y == x) (waits_for_semaphore (task_at k y).waiting)
    ∙ ap (λ first. comes r x h y k n limit ms held TaskSemPendAbort xs (task_abort_decision (y == x) first)) (sym around.first)
row TaskQPendAbort wanted n limit ms r seen k c h held around =
    let x = seen.caller.0 in
    let y = named_task r x in
    let xs = waiters TaskQPendAbort y k in
    q-abort-row r x h y k n limit ms held (y == x) (waits_for_queue (task_at k y).waiting)
    ∙ ap (λ first. comes r x h y k n limit ms held TaskQPendAbort xs (task_abort_decision (y == x) first)) (sym around.first)
row s wanted n limit ms r seen k c h held around = absurd (false≢true wanted)

-- what is decided comes to what the service does
pub decided-row : (d : Decision) (n limit : ℕ) (ms : List (ℕ × ℕ)) (free : ℕ) (r : Request) (seen : Around) → IsTaskCall r → d ≡ decision_of n limit ms free r seen → IsTaskDecided d n limit ms free r seen
decided-row d n limit ms free r seen wanted e =
    subst (λ (d : Decision). IsTaskDecided d n limit ms free r seen) (sym e) (λ k interrupted compared held same around.
    let x = seen.caller.0 in
    let y = target r.service r x in
    let xs = waiters r.service y k in
    subst (λ m. let d = decision_of n limit ms m r seen in perform r.service (call_of r x interrupted compared) k ≡ decided d r.service r x compared xs (kept k y (count_after r.service d n) (messages_after r.service d r ms) (free_after r.service d m))) same
    (row r.service wanted n limit ms r seen k interrupted compared held around))
