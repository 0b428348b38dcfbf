-- A decision of an object, or of a task's own semaphore and queue, is what the service does, whatever the lists are.
use Rattle.std.proofs.Common.{◌≡◌, ℕ, zero, suc, ◌+◌, ◌-◌, List, [], ◌∷◌, drop, length, refl, sym, ap, ◌∙◌, subst, Bool, true, false, Option, Some, None}
use Rattle.std.specs.Prelude.{if◌then◌else◌}
use Rattle.std.proofs.lemmas.Bool.{false≢true}
use Rattle.std.proofs.lemmas.List.{set-get_or}
use Rattle.kern_base.specs.Checks.{kinds_wanted}
use Rattle.kern_base.specs.declared.kinds.Kind.TheVariants.{Sem, Queue, Flags}
use Rattle.kern_base.specs.declared.numbers.TaskId.{TaskId}
use Rattle.kern_base.specs.declared.services.Service.{Service}
use Rattle.kern_base.specs.declared.services.Service.TheVariants.{SemPost, QPost, FlagPost, TaskSemPost, TaskQPost, SemPend, QPend, FlagPend, TaskSemPend, TaskQPend, QDel, SchedLock, SchedUnlock, TimeDly, TimeDlyResume, SemPendAbort, QPendAbort, FlagPendAbort, TaskSemPendAbort, TaskQPendAbort, SemDel, FlagDel}
use Rattle.kern_base.specs.declared.requests.Request.{Request}
use Rattle.kern_base.specs.declared.errors.OsErr.{OsErr}
use Rattle.kern_base.specs.declared.errors.OsErr.TheVariants.{CallUnknown, TaskWaiting}
use Rattle.kern_base.specs.declared.outcomes.Around.{Around}
use Rattle.kern_base.specs.declared.outcomes.Decision.{Decision}
use Rattle.kern_base.specs.declared.outcomes.Decision.TheVariants.{Done, Block, Wake}
use Rattle.kern_base.specs.declared.outcomes.Who.{Who}
use Rattle.kern_base.specs.declared.outcomes.Who.TheVariants.{First, All}
use Rattle.kern_model.specs.State.{Kernel, Object, Content, Count, Messages, Bits, Held, Timed, no_task, task_at, list_at, with_content, with_task}
use Rattle.kern_model.specs.Call.{call_of}
use Rattle.kern_model.specs.Effect.{refused}
use Rattle.kern_model.specs.Checks.{argument, call_error}
use Rattle.kern_model.specs.FlagBits.{consumed}
use Rattle.kern_model.specs.Options.{deletes_always, stores_first}
use Rattle.kern_model.specs.Queues.{store_error, stored}
use Rattle.kern_model.specs.Services.{after_checks, content_for, effect, perform}
use Rattle.served.specs.Served.{program_serves}
use Rattle.kern_model.specs.Micro.{Lists}
use Rattle.decisions.specs.Around.{IsAround}
use Rattle.decisions.specs.Rows.{abort_decision, delete_decision, is_success, refusal, wait_decision}
use Rattle.decisions.specs.Decided.{decided}
use Rattle.semaphores.specs.Rows as semaphore
use Rattle.event_flags.specs.Rows as flags
use Rattle.msg_queues.specs.Rows as queue
use Rattle.msg_queues.specs.Rows.{IsQueueDecided}
use Rattle.task_objects.specs.Rows as own
use Rattle.task_objects.specs.Rows.{Holds, IsTaskDecided, is_task_call, target, waiters}
use Rattle.kernel_records.specs.RecordsRecord.{with_lists}
use Rattle.kernel_records.specs.SchedulerCalls.{is_scheduler_call, lock_after, scheduler_waiters}
use Rattle.kernel_records.specs.Served.{is_served_wake, is_served_wait, may_wake_all, serves_object}
use Rattle.kernel_records.specs.Deciding.{IsCallOn, IsObjectRow, IsRow, IsServedDecision, acts, changed_by, content_after, decision_by, free_after, object_change, own_change, task_change, waiters_of, waiters_of_objects}
use Rattle.kernel_records.specs.TimerCalls.{is_timer_call}
use Rattle.kernel_records.proofs.DecidingFacts.{changed-object, changed-task, effect-decided, no-scheduler, no-timer-call, own-acts, own-none, own-scheduler, same-content, same-lock, served-object, still-objects}

-- a call without success leaves what its object holds

count-none : (s : Service) (d : Decision) (n : ℕ) → is_success d ≡ false → semaphore.count_after s d n ≡ n
count-none SemPost d n h = ap (λ b. if b then n + 1 else n) h
count-none SemPend d n h = ap (λ b. if b then n - 1 else n) h
count-none _ d n h = refl

messages-none : (s : Service) (a : _) (r : Request) (ms : List (ℕ × ℕ)) → is_success (Done a) ≡ false → queue.messages_after s (Done a) r ms ≡ ms
messages-none QPost a r ms h = ap (λ b. if b then stored (stores_first (argument r 3)) (argument r 1, argument r 2) ms else ms) h
messages-none QPend a r ms h = ap (λ b. if b then drop 1 ms else ms) h
messages-none _ a r ms h = refl

free-none : (s : Service) (a : _) (held free : ℕ) → is_success (Done a) ≡ false → queue.free_after s (Done a) held free ≡ free
free-none QPost a held free h = ap (λ b. if b then free - 1 else free) h
free-none QPend a held free h = ap (λ b. if b then free + 1 else free) h
free-none _ a held free h = refl

-- a post of event flags is never refused by its group
flags-none : (s : Service) (d : Decision) (r : Request) (seen : Around) (bits : ℕ) → d ≡ flags.decision_for s bits r seen → acts d ≡ false → flags.bits_after_call s d r bits ≡ bits
flags-none FlagPost d r seen bits e h = absurd (false≢true (sym h ∙ ap acts e))
flags-none FlagPend (Done a) r seen bits e h = ap (λ b. if b then consumed bits a.value (argument r 3) else bits) h
flags-none FlagPend Block r seen bits e h = refl
flags-none FlagPend (Wake who) r seen bits e h = refl
flags-none _ d r seen bits e h = refl

-- what a decision leaves that acts not, and it is an answer
module _ (r : Request) (seen : Around) (k : Kernel) (n : is_scheduler_call r.service ≡ false) (m : is_timer_call r.service ≡ false) (t : is_task_call r.service ≡ false) where
  -- the kernel after an object has changed that held this, in both cases
  own-object : (d : Decision) (c : Content) (b : Bool) → acts d ≡ b → content_for r k ≡ c
      → (b ≡ false → (content_after r d c ≡ c) × (free_after r d c k.free ≡ k.free))
      → own_change r seen.caller.0 d k ≡ record (with_content k (argument r 0) (content_after r d c)) { free = free_after r d c k.free }
  own-object d c true a h same =
      own-acts r seen.caller.0 d k n a ∙ changed-object r seen.caller.0 d k m t
      ∙ ap (λ e. record (with_content k (argument r 0) (content_after r d e)) { free = free_after r d e k.free }) h
  own-object d c false a h same =
      own-none r seen.caller.0 d k n a
      ∙ sym (same-content k (argument r 0) (content_after r d c) ((same refl).0 ∙ sym h))
      ∙ ap (λ f. record (with_content k (argument r 0) (content_after r d c)) { free = f }) (sym (same refl).1)

-- what the object holds is left by a decision of it that acts not
no-success : (d : Decision) → acts d ≡ false → is_success d ≡ false
no-success (Done a) h = h
no-success Block h = refl
no-success (Wake who) h = refl

queue-none : (r : Request) (limit : ℕ) (ms : List (ℕ × ℕ)) (free : ℕ) (d : Decision) → acts d ≡ false → (Messages limit (queue.messages_after r.service d r ms) ≡ Messages limit ms) × (queue.free_after r.service d (length ms) free ≡ free)
queue-none r limit ms free (Done a) h = (ap (Messages limit) (messages-none r.service a r ms h), free-none r.service a (length ms) free h)
queue-none r limit ms free Block h = absurd (false≢true (sym h))
queue-none r limit ms free (Wake who) h = absurd (false≢true (sym h))

none-by : (c : Content) (r : Request) (seen : Around) (free : ℕ) (d : Decision) → d ≡ decision_by c free r seen → acts d ≡ false → (content_after r d c ≡ c) × (free_after r d c free ≡ free)
none-by (Count n) r seen free d e h = (ap Count (count-none r.service d n (no-success d h)), refl)
none-by (Messages limit ms) r seen free d e h = queue-none r limit ms free d h
none-by (Bits bits) r seen free d e h = (ap Bits (flags-none r.service d r seen bits e h), refl)
none-by (Held owner n) r seen free d e h = (refl, refl)
none-by (Timed t) r seen free d e h = (refl, refl)

waiters-objects : (r : Request) (x : ℕ) (k : Kernel) → is_scheduler_call r.service ≡ false → waiters_of r x k ≡ waiters_of_objects r x k
waiters-objects r x k n = ap (λ b. if b then scheduler_waiters r.service r x k else waiters_of_objects r x k) n

pub waiters-scheduler : (r : Request) (x : ℕ) (k : Kernel) → is_scheduler_call r.service ≡ true → waiters_of r x k ≡ scheduler_waiters r.service r x k
waiters-scheduler r x k n = ap (λ b. if b then scheduler_waiters r.service r x k else waiters_of_objects r x k) n

pub waiters-object : (r : Request) (x : ℕ) (k : Kernel) → is_scheduler_call r.service ≡ false → is_task_call r.service ≡ false → waiters_of r x k ≡ list_at k.pend (argument r 0)
waiters-object r x k n t = waiters-objects r x k n ∙ ap (λ b. if b then waiters r.service (target r.service r x) k else list_at k.pend (argument r 0)) t

pub waiters-task : (r : Request) (x : ℕ) (k : Kernel) → is_scheduler_call r.service ≡ false → is_task_call r.service ≡ true → waiters_of r x k ≡ waiters r.service (target r.service r x) k
waiters-task r x k n t = waiters-objects r x k n ∙ ap (λ b. if b then waiters r.service (target r.service r x) k else list_at k.pend (argument r 0)) t

-- what is around a call does not depend on the lists of the kernel
around-lists : (seen : Around) (xs : List ℕ) (k : Kernel) (l : Lists) → IsAround seen xs k → IsAround seen xs (with_lists k l)
around-lists seen xs k l a = record { locked = a.locked; first = a.first; prio = a.prio }

-- a call that has passed its checks goes to its service
module _ (r : Request) (seen : Around) (d : Decision) (k : Kernel) (s : program_serves r.service ≡ true) (p : call_error r seen.caller.0 k ≡ None) where
  pub performed : (l : Lists) (c h : ℕ) → effect program_serves (call_of r seen.caller.0 c h) (with_lists k l) ≡ perform r.service (call_of r seen.caller.0 c h) (with_lists k l)
  performed l c h =
      ap (λ b. if b then after_checks (call_error r seen.caller.0 k) (call_of r seen.caller.0 c h) (with_lists k l) else refused (with_lists k l) CallUnknown) s
      ∙ ap (λ e. after_checks e (call_of r seen.caller.0 c h) (with_lists k l)) p

  -- of an object
  pub row-object : (c : Content) → is_scheduler_call r.service ≡ false → is_timer_call r.service ≡ false → is_task_call r.service ≡ false → content_for r k ≡ c → (acts d ≡ false → (content_after r d c ≡ c) × (free_after r d c k.free ≡ k.free))
      → ((j : Kernel) (i h : ℕ) → content_for r j ≡ c → j.free ≡ k.free → IsAround seen (list_at j.pend (argument r 0)) j → perform r.service (call_of r seen.caller.0 i h) j ≡ decided d r.service r seen.caller.0 h (list_at j.pend (argument r 0)) (record (with_content j (argument r 0) (content_after r d c)) { free = free_after r d c k.free }))
      → IsRow r seen d k
  row-object c n m t held same does l i h around =
      let j = with_lists k l in
      let xs : waiters_of r seen.caller.0 j ≡ list_at l.pend (argument r 0) = waiters-object r seen.caller.0 j n t in
      performed l i h
      ∙ does j i h held refl (around-lists seen (list_at l.pend (argument r 0)) k l (subst (λ ys. IsAround seen ys k) xs around))
      ∙ ap (λ ys. decided d r.service r seen.caller.0 h ys (record (with_content j (argument r 0) (content_after r d c)) { free = free_after r d c k.free })) (sym xs)
      ∙ ap (decided d r.service r seen.caller.0 h (waiters_of r seen.caller.0 j)) (sym (own-object r seen j n m t d c (acts d) refl held same))
      ∙ sym (effect-decided r d seen.caller.0 h (waiters_of r seen.caller.0 j) j (still-objects r.service d n))

  -- by what the object decides
  pub row-by : (c : Content) → is_scheduler_call r.service ≡ false → is_timer_call r.service ≡ false → is_task_call r.service ≡ false → content_for r k ≡ c → d ≡ decision_by c k.free r seen → IsObjectRow r seen d c k.free → IsRow r seen d k
  row-by c n m t held value does = row-object c n m t held (none-by c r seen k.free d value) does

-- of a task's own semaphore and queue

own-count-none : (s : Service) (a : _) (n : ℕ) → is_success (Done a) ≡ false → own.count_after s (Done a) n ≡ n
own-count-none TaskSemPost a n h = ap (λ b. if b then n + 1 else n) h
own-count-none TaskSemPend a n h = ap (λ b. if b then n - 1 else n) h
own-count-none _ a n h = refl

own-messages-none : (s : Service) (a : _) (r : Request) (ms : List (ℕ × ℕ)) → is_success (Done a) ≡ false → own.messages_after s (Done a) r ms ≡ ms
own-messages-none TaskQPost a r ms h = ap (λ b. if b then stored (stores_first (argument r 3)) (argument r 1, argument r 2) ms else ms) h
own-messages-none TaskQPend a r ms h = ap (λ b. if b then drop 1 ms else ms) h
own-messages-none _ a r ms h = refl

own-free-none : (s : Service) (a : _) (free : ℕ) → is_success (Done a) ≡ false → own.free_after s (Done a) free ≡ free
own-free-none TaskQPost a free h = ap (λ b. if b then free - 1 else free) h
own-free-none TaskQPend a free h = ap (λ b. if b then free + 1 else free) h
own-free-none _ a free h = refl

-- a task that keeps its own objects
task-kept : (d : Decision) (r : Request) (y : ℕ) (k : Kernel) → own.count_after r.service d (task_at k y).count ≡ (task_at k y).count → own.messages_after r.service d r (task_at k y).messages ≡ (task_at k y).messages → own.free_after r.service d k.free ≡ k.free → task_change r y d k ≡ k
task-kept d r y k count messages free =
    let t = task_at k y in
    ap (λ n. record (with_task k y (λ u. record u { count = n; messages = own.messages_after r.service d r t.messages })) { free = own.free_after r.service d k.free }) count
    ∙ ap (λ ms. record (with_task k y (λ u. record u { count = t.count; messages = ms })) { free = own.free_after r.service d k.free }) messages
    ∙ ap (λ f. record (with_task k y (λ u. record u { count = t.count; messages = t.messages })) { free = f }) free
    ∙ ap (λ ts. record k { tasks = ts }) (set-get_or k.tasks y no_task)

own-task-none : (d : Decision) (r : Request) (y : ℕ) (k : Kernel) → acts d ≡ false → task_change r y d k ≡ k
own-task-none (Done a) r y k h =
    let t = task_at k y in
    task-kept (Done a) r y k (own-count-none r.service a t.count h) (own-messages-none r.service a r t.messages h) (own-free-none r.service a k.free h)
own-task-none Block r y k h = absurd (false≢true (sym h))
own-task-none (Wake who) r y k h = absurd (false≢true (sym h))

own-task : (d : Decision) (r : Request) (x : ℕ) (k : Kernel) (b : Bool) → acts d ≡ b → is_scheduler_call r.service ≡ false → is_timer_call r.service ≡ false → is_task_call r.service ≡ true → own_change r x d k ≡ task_change r (target r.service r x) d k
own-task d r x k true a n m t = own-acts r x d k n a ∙ changed-task r x d k m t
own-task d r x k false a n m t = own-none r x d k n a ∙ sym (own-task-none d r (target r.service r x) k a)

pub row-task : (r : Request) (seen : Around) (d : Decision) (k : Kernel) (n limit : ℕ) (ms : List (ℕ × ℕ)) → serves_object r.service ≡ true → call_error r seen.caller.0 k ≡ None → is_task_call r.service ≡ true → Holds n limit ms (task_at k (target r.service r seen.caller.0)) → IsTaskDecided d n limit ms k.free r seen → IsRow r seen d k
row-task r seen d k n limit ms s p t holds does l i h around =
    let j = with_lists k l in
    let y = target r.service r seen.caller.0 in
    let xs : waiters_of r seen.caller.0 j ≡ waiters r.service y j = waiters-task r seen.caller.0 j (no-scheduler r.service s) t in
    performed r seen d k (served-object r.service s) p l i h
    ∙ does j i h holds refl (around-lists seen (waiters r.service y j) k l (subst (λ ys. IsAround seen ys k) xs around))
    ∙ ap (λ (a : ℕ × List (ℕ × ℕ)). decided d r.service r seen.caller.0 h (waiters r.service y j) (record (with_task j y (λ u. record u { count = own.count_after r.service d a.0; messages = own.messages_after r.service d r a.1 })) { free = own.free_after r.service d j.free })) (ap (λ m. (m, ms)) (sym holds.counted) ∙ ap (λ m. ((task_at k y).count, m)) (sym holds.filled))
    ∙ ap (λ ys. decided d r.service r seen.caller.0 h ys (task_change r y d j)) (sym xs)
    ∙ ap (decided d r.service r seen.caller.0 h (waiters_of r seen.caller.0 j)) (sym (own-task d r seen.caller.0 j (acts d) refl (no-scheduler r.service s) (no-timer-call r.service s) t))
    ∙ sym (effect-decided r d seen.caller.0 h (waiters_of r seen.caller.0 j) j (still-objects r.service d (no-scheduler r.service s)))

-- the decisions of the services that are served

who-served : (b : Bool) (s : Service) → is_served_wake s ≡ true → may_wake_all s ≡ true → IsServedDecision (Wake (if b then All else First)) s
who-served true s h a = a
who-served false s h a = h

wait-served : (nb locked : Bool) (s : Service) → is_served_wait s ≡ true → IsServedDecision (wait_decision nb locked) s
wait-served true locked s h = tt
wait-served false true s h = tt
wait-served false false s h = h

either-served : (b : Bool) (s : Service) (err : OsErr) (a : _) → IsServedDecision (if b then refusal err else Done a) s
either-served true s err a = tt
either-served false s err a = tt

-- an abort
abort-served : (option : ℕ) (first : Option TaskId) (s : Service) → is_served_wake s ≡ true → may_wake_all s ≡ true → IsServedDecision (abort_decision option first) s
abort-served option None s h a = tt
abort-served option (Some x) s h a = who-served _ s h a

delete-served : (option : ℕ) (first : Option TaskId) (s : Service) → may_wake_all s ≡ true → IsServedDecision (delete_decision option first) s
delete-served option None s a = a
delete-served option (Some x) s a = delete-if (deletes_always option) s a
  where
    delete-if : (b : Bool) (t : Service) → may_wake_all t ≡ true → IsServedDecision (if b then Wake All else refusal TaskWaiting) t
    delete-if true t a = a
    delete-if false t a = tt

task-abort-served : (b : Bool) (first : Option TaskId) (s : Service) → is_served_wake s ≡ true → IsServedDecision (own.task_abort_decision b first) s
task-abort-served true first s h = tt
task-abort-served false None s h = tt
task-abort-served false (Some x) s h = h

sem-post-served : (n option : ℕ) (first : Option TaskId) → IsServedDecision (semaphore.post_decision n option first) SemPost
sem-post-served n option None = either-served _ SemPost _ _
sem-post-served n option (Some x) = who-served _ SemPost refl refl

sem-pend-served : (n option : ℕ) (locked : Bool) → IsServedDecision (semaphore.pend_decision n option locked) SemPend
sem-pend-served zero option locked = wait-served _ locked SemPend refl
sem-pend-served (suc n) option locked = tt

pub semaphore-served : (s : Service) (n : ℕ) (r : Request) (seen : Around) → serves_object s ≡ true → kinds_wanted s ≡ Sem ∷ [] → IsServedDecision (semaphore.decision_for s n r seen) s
semaphore-served SemPost n r seen p e = sem-post-served n (argument r 1) seen.first
semaphore-served SemPend n r seen p e = sem-pend-served n (argument r 2) seen.locked
semaphore-served SemPendAbort n r seen p e = abort-served (argument r 1) seen.first SemPendAbort refl refl
semaphore-served SemDel n r seen p e = delete-served (argument r 1) seen.first SemDel refl
semaphore-served QDel n r seen p e = absurd cc
semaphore-served FlagDel n r seen p e = absurd cc
semaphore-served QPendAbort n r seen p e = absurd cc
semaphore-served FlagPendAbort n r seen p e = absurd cc
semaphore-served TaskSemPendAbort n r seen p e = absurd cc
semaphore-served TaskQPendAbort n r seen p e = absurd cc
semaphore-served QPost n r seen p e = absurd cc
semaphore-served QPend n r seen p e = absurd cc
semaphore-served FlagPost n r seen p e = absurd cc
semaphore-served FlagPend n r seen p e = absurd cc
semaphore-served TaskSemPost n r seen p e = absurd cc
semaphore-served TaskSemPend n r seen p e = absurd cc
semaphore-served TaskQPost n r seen p e = absurd cc
semaphore-served TaskQPend n r seen p e = absurd cc
semaphore-served _ n r seen p e = absurd (false≢true p)

store-served : (e : Option OsErr) (s : Service) → IsServedDecision (queue.store_decision e) s
store-served None s = tt
store-served (Some err) s = tt

q-post-served : (held limit free option : ℕ) (first : Option TaskId) → IsServedDecision (queue.post_decision held limit free option first) QPost
q-post-served held limit free option None = store-served (store_error held limit free) QPost
q-post-served held limit free option (Some x) = who-served _ QPost refl refl

q-pend-served : (ms : List (ℕ × ℕ)) (option : ℕ) (locked : Bool) (s : Service) → is_served_wait s ≡ true → IsServedDecision (queue.pend_decision ms option locked) s
q-pend-served [] option locked s h = wait-served _ locked s h
q-pend-served (m ∷ ms) option locked s h = tt

pub queue-served : (s : Service) (limit : ℕ) (ms : List (ℕ × ℕ)) (free : ℕ) (r : Request) (seen : Around) → serves_object s ≡ true → kinds_wanted s ≡ Queue ∷ [] → IsServedDecision (queue.decision_for s limit ms free r seen) s
queue-served QPost limit ms free r seen p e = q-post-served (length ms) limit free (argument r 3) seen.first
queue-served QPend limit ms free r seen p e = q-pend-served ms (argument r 2) seen.locked QPend refl
queue-served QPendAbort limit ms free r seen p e = abort-served (argument r 1) seen.first QPendAbort refl refl
queue-served QDel limit ms free r seen p e = delete-served (argument r 1) seen.first QDel refl
queue-served SemDel limit ms free r seen p e = absurd cc
queue-served FlagDel limit ms free r seen p e = absurd cc
queue-served SemPendAbort limit ms free r seen p e = absurd cc
queue-served FlagPendAbort limit ms free r seen p e = absurd cc
queue-served TaskSemPendAbort limit ms free r seen p e = absurd cc
queue-served TaskQPendAbort limit ms free r seen p e = absurd cc
queue-served SemPost limit ms free r seen p e = absurd cc
queue-served SemPend limit ms free r seen p e = absurd cc
queue-served FlagPost limit ms free r seen p e = absurd cc
queue-served FlagPend limit ms free r seen p e = absurd cc
queue-served TaskSemPost limit ms free r seen p e = absurd cc
queue-served TaskSemPend limit ms free r seen p e = absurd cc
queue-served TaskQPost limit ms free r seen p e = absurd cc
queue-served TaskQPend limit ms free r seen p e = absurd cc
queue-served _ limit ms free r seen p e = absurd (false≢true p)

flag-pend-served : (ready : Option ℕ) (option : ℕ) (locked : Bool) → IsServedDecision (flags.pend_decision ready option locked) FlagPend
flag-pend-served None option locked = wait-served _ locked FlagPend refl
flag-pend-served (Some ready) option locked = tt

pub flags-served : (s : Service) (bits : ℕ) (r : Request) (seen : Around) → serves_object s ≡ true → kinds_wanted s ≡ Flags ∷ [] → IsServedDecision (flags.decision_for s bits r seen) s
flags-served FlagPost bits r seen p e = refl
flags-served FlagPend bits r seen p e = flag-pend-served _ (argument r 3) seen.locked
flags-served FlagPendAbort bits r seen p e = abort-served (argument r 1) seen.first FlagPendAbort refl refl
flags-served FlagDel bits r seen p e = delete-served (argument r 1) seen.first FlagDel refl
flags-served SemDel bits r seen p e = absurd cc
flags-served QDel bits r seen p e = absurd cc
flags-served SemPendAbort bits r seen p e = absurd cc
flags-served QPendAbort bits r seen p e = absurd cc
flags-served TaskSemPendAbort bits r seen p e = absurd cc
flags-served TaskQPendAbort bits r seen p e = absurd cc
flags-served SemPost bits r seen p e = absurd cc
flags-served SemPend bits r seen p e = absurd cc
flags-served QPost bits r seen p e = absurd cc
flags-served QPend bits r seen p e = absurd cc
flags-served TaskSemPost bits r seen p e = absurd cc
flags-served TaskSemPend bits r seen p e = absurd cc
flags-served TaskQPost bits r seen p e = absurd cc
flags-served TaskQPend bits r seen p e = absurd cc
flags-served _ bits r seen p e = absurd (false≢true p)

task-sem-post-served : (n : ℕ) (first : Option TaskId) → IsServedDecision (own.sem_post_decision n first) TaskSemPost
task-sem-post-served n None = either-served _ TaskSemPost _ _
task-sem-post-served n (Some x) = refl

task-q-post-served : (held limit free : ℕ) (first : Option TaskId) → IsServedDecision (own.q_post_decision held limit free first) TaskQPost
task-q-post-served held limit free None = store-served (store_error held limit free) TaskQPost
task-q-post-served held limit free (Some x) = refl

task-sem-pend-served : (n option : ℕ) (locked : Bool) → IsServedDecision (own.sem_pend_decision n option locked) TaskSemPend
task-sem-pend-served zero option locked = wait-served _ locked TaskSemPend refl
task-sem-pend-served (suc n) option locked = tt

-- the decision of an object on a call on it
pub object-served : (c : Content) (r : Request) (seen : Around) (free : ℕ) → serves_object r.service ≡ true → IsCallOn c r → IsServedDecision (decision_by c free r seen) r.service
object-served (Count n) r seen free p h = semaphore-served r.service n r seen p h
object-served (Messages limit ms) r seen free p h = queue-served r.service limit ms free r seen p h
object-served (Bits bits) r seen free p h = flags-served r.service bits r seen p h
object-served (Held owner n) r seen free p h = absurd h
object-served (Timed t) r seen free p h = absurd h

pub task-served : (s : Service) (n limit : ℕ) (ms : List (ℕ × ℕ)) (free : ℕ) (r : Request) (seen : Around) → serves_object s ≡ true → is_task_call s ≡ true → IsServedDecision (own.decision_for s n limit ms free r seen) s
task-served TaskSemPost n limit ms free r seen p e = task-sem-post-served n seen.first
task-served TaskQPost n limit ms free r seen p e = task-q-post-served (length ms) limit free seen.first
task-served TaskSemPend n limit ms free r seen p e = task-sem-pend-served n (argument r 1) seen.locked
task-served TaskQPend n limit ms free r seen p e = q-pend-served ms (argument r 1) seen.locked TaskQPend refl
task-served TaskSemPendAbort n limit ms free r seen p e = task-abort-served _ seen.first TaskSemPendAbort refl
task-served TaskQPendAbort n limit ms free r seen p e = task-abort-served _ seen.first TaskQPendAbort refl
task-served SemDel n limit ms free r seen p e = absurd (false≢true e)
task-served QDel n limit ms free r seen p e = absurd (false≢true e)
task-served FlagDel n limit ms free r seen p e = absurd (false≢true e)
task-served SemPendAbort n limit ms free r seen p e = absurd (false≢true e)
task-served QPendAbort n limit ms free r seen p e = absurd (false≢true e)
task-served FlagPendAbort n limit ms free r seen p e = absurd (false≢true e)
task-served SemPost n limit ms free r seen p e = absurd (false≢true e)
task-served SemPend n limit ms free r seen p e = absurd (false≢true e)
task-served QPost n limit ms free r seen p e = absurd (false≢true e)
task-served QPend n limit ms free r seen p e = absurd (false≢true e)
task-served FlagPost n limit ms free r seen p e = absurd (false≢true e)
task-served FlagPend n limit ms free r seen p e = absurd (false≢true e)
task-served _ n limit ms free r seen p e = absurd (false≢true p)

-- nothing but its wait comes of a wait that blocks

blocked-bits : (s : Service) (r : Request) (bits : ℕ) → is_served_wait s ≡ true → flags.bits_after_call s Block r bits ≡ bits
blocked-bits SemPend r bits h = refl
blocked-bits QPend r bits h = refl
blocked-bits FlagPend r bits h = refl
blocked-bits TaskSemPend r bits h = refl
blocked-bits TaskQPend r bits h = refl
blocked-bits TimeDly r bits h = refl
blocked-bits _ r bits h = absurd (false≢true h)

count-blocked : (s : Service) (n : ℕ) → semaphore.count_after s Block n ≡ n
count-blocked SemPost n = refl
count-blocked SemPend n = refl
count-blocked _ n = refl

messages-blocked : (s : Service) (r : Request) (ms : List (ℕ × ℕ)) → queue.messages_after s Block r ms ≡ ms
messages-blocked QPost r ms = refl
messages-blocked QPend r ms = refl
messages-blocked QDel r ms = refl
messages-blocked _ r ms = refl

free-blocked : (s : Service) (held free : ℕ) → queue.free_after s Block held free ≡ free
free-blocked QPost held free = refl
free-blocked QPend held free = refl
free-blocked QDel held free = refl
free-blocked _ held free = refl

-- an object that keeps what it holds, and the pool with it
object-kept : (r : Request) (d : Decision) (k : Kernel) (c : Content) → content_for r k ≡ c → content_after r d c ≡ c → free_after r d c k.free ≡ k.free → object_change r d k ≡ k
object-kept r d k c e held free =
    ap (λ b. record (with_content k (argument r 0) (content_after r d b)) { free = free_after r d b k.free }) e
    ∙ ap (λ f. record (with_content k (argument r 0) (content_after r d c)) { free = f }) free
    ∙ same-content k (argument r 0) (content_after r d c) (held ∙ sym e)

blocked-object : (r : Request) (k : Kernel) (c : Content) → content_for r k ≡ c → is_served_wait r.service ≡ true → object_change r Block k ≡ k
blocked-object r k (Count n) e h = object-kept r Block k (Count n) e (ap Count (count-blocked r.service n)) refl
blocked-object r k (Messages limit ms) e h = object-kept r Block k (Messages limit ms) e (ap (Messages limit) (messages-blocked r.service r ms)) (free-blocked r.service (length ms) k.free)
blocked-object r k (Bits bits) e h = object-kept r Block k (Bits bits) e (ap Bits (blocked-bits r.service r bits h)) refl
blocked-object r k (Held owner n) e h = object-kept r Block k (Held owner n) e refl refl
blocked-object r k (Timed t) e h = object-kept r Block k (Timed t) e refl refl

own-count-waked : (s : Service) (who : Who) (n : ℕ) → own.count_after s (Wake who) n ≡ n
own-count-waked TaskSemPost who n = refl
own-count-waked TaskSemPend who n = refl
own-count-waked _ who n = refl

own-count-blocked : (s : Service) (n : ℕ) → own.count_after s Block n ≡ n
own-count-blocked TaskSemPost n = refl
own-count-blocked TaskSemPend n = refl
own-count-blocked _ n = refl

own-messages-waked : (s : Service) (who : Who) (r : Request) (ms : List (ℕ × ℕ)) → own.messages_after s (Wake who) r ms ≡ ms
own-messages-waked TaskQPost who r ms = refl
own-messages-waked TaskQPend who r ms = refl
own-messages-waked _ who r ms = refl

own-messages-blocked : (s : Service) (r : Request) (ms : List (ℕ × ℕ)) → own.messages_after s Block r ms ≡ ms
own-messages-blocked TaskQPost r ms = refl
own-messages-blocked TaskQPend r ms = refl
own-messages-blocked _ r ms = refl

own-free-waked : (s : Service) (who : Who) (free : ℕ) → own.free_after s (Wake who) free ≡ free
own-free-waked TaskQPost who free = refl
own-free-waked TaskQPend who free = refl
own-free-waked _ who free = refl

own-free-blocked : (s : Service) (free : ℕ) → own.free_after s Block free ≡ free
own-free-blocked TaskQPost free = refl
own-free-blocked TaskQPend free = refl
own-free-blocked _ free = refl

-- a wait is none on a timer, nor does such a call wake
pub wait-no-timer : (s : Service) → is_served_wait s ≡ true → is_timer_call s ≡ false
wait-no-timer SemPend h = refl
wait-no-timer QPend h = refl
wait-no-timer FlagPend h = refl
wait-no-timer TaskSemPend h = refl
wait-no-timer TaskQPend h = refl
wait-no-timer TimeDly h = refl
wait-no-timer _ h = absurd (false≢true h)

block-by : (b : Bool) (r : Request) (x : ℕ) (k : Kernel) → is_task_call r.service ≡ b → is_served_wait r.service ≡ true → changed_by r x Block k ≡ k
block-by true r x k t h =
    let y = target r.service r x in
    changed-task r x Block k (wait-no-timer r.service h) t ∙ task-kept Block r y k (own-count-blocked r.service (task_at k y).count) (own-messages-blocked r.service r (task_at k y).messages) (own-free-blocked r.service k.free)
block-by false r x k t h = changed-object r x Block k (wait-no-timer r.service h) t ∙ blocked-object r k (content_for r k) refl h

lock-blocked : (s : Service) (lock : ℕ) → lock_after s Block lock ≡ lock
lock-blocked SchedLock lock = refl
lock-blocked SchedUnlock lock = refl
lock-blocked _ lock = refl

block-if : (b : Bool) (r : Request) (x : ℕ) (k : Kernel) → is_scheduler_call r.service ≡ b → is_served_wait r.service ≡ true → own_change r x Block k ≡ k
block-if true r x k n h = own-scheduler r x Block k n ∙ same-lock r Block k (lock-blocked r.service k.lock)
block-if false r x k n h = own-acts r x Block k n refl ∙ block-by (is_task_call r.service) r x k refl h

pub own-block : (r : Request) (x : ℕ) (k : Kernel) → is_served_wait r.service ≡ true → own_change r x Block k ≡ k
own-block r x k h = block-if (is_scheduler_call r.service) r x k refl h

-- a kernel with other objects, and another number of free messages
abbrev pub beside : Kernel → List Object → ℕ → Kernel
beside k os free = record k { objects = os; free = free }

pub record IsBeside (k j : Kernel) : Type 0 where
  pub objects : List Object
  pub free : ℕ
  pub is : j ≡ beside k objects free

-- a call that wakes the first waiter or all changes nothing else beside that
pub wake-no-timer : (s : Service) → is_served_wake s ≡ true → is_timer_call s ≡ false
wake-no-timer SemPost h = refl
wake-no-timer QPost h = refl
wake-no-timer TaskSemPost h = refl
wake-no-timer TaskQPost h = refl
wake-no-timer TimeDlyResume h = refl
wake-no-timer SemPendAbort h = refl
wake-no-timer QPendAbort h = refl
wake-no-timer FlagPendAbort h = refl
wake-no-timer TaskSemPendAbort h = refl
wake-no-timer TaskQPendAbort h = refl
wake-no-timer SemDel h = refl
wake-no-timer QDel h = refl
wake-no-timer FlagDel h = refl
wake-no-timer _ h = absurd (false≢true h)

beside-by : (b : Bool) (who : Who) (r : Request) (x : ℕ) (k : Kernel) → is_timer_call r.service ≡ false → is_task_call r.service ≡ b → IsBeside k (changed_by r x (Wake who) k)
beside-by true who r x k m t =
    let y = target r.service r x in
    record {
      objects = k.objects;
      free = k.free;
      is = changed-task r x (Wake who) k m t ∙ task-kept (Wake who) r y k (own-count-waked r.service who (task_at k y).count) (own-messages-waked r.service who r (task_at k y).messages) (own-free-waked r.service who k.free);
    }
beside-by false who r x k m t =
    let j = object_change r (Wake who) k in
    record { objects = j.objects; free = j.free; is = changed-object r x (Wake who) k m t }

lock-waked : (s : Service) (who : Who) (lock : ℕ) → lock_after s (Wake who) lock ≡ lock
lock-waked SchedLock who lock = refl
lock-waked SchedUnlock who lock = refl
lock-waked _ who lock = refl

beside-if : (b : Bool) (who : Who) (r : Request) (x : ℕ) (k : Kernel) → is_timer_call r.service ≡ false → is_scheduler_call r.service ≡ b → IsBeside k (own_change r x (Wake who) k)
beside-if true who r x k m n =
    record { objects = k.objects; free = k.free; is = own-scheduler r x (Wake who) k n ∙ same-lock r (Wake who) k (lock-waked r.service who k.lock) }
beside-if false who r x k m n =
    let by = beside-by (is_task_call r.service) who r x k m refl in
    record { objects = by.objects; free = by.free; is = own-acts r x (Wake who) k n refl ∙ by.is }

pub own-beside : (who : Who) (r : Request) (x : ℕ) (k : Kernel) → is_timer_call r.service ≡ false → IsBeside k (own_change r x (Wake who) k)
own-beside who r x k m = beside-if (is_scheduler_call r.service) who r x k m refl
