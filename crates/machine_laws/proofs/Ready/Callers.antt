-- After a call its caller is ready still, unless the scheduler is not locked; and no call begins or ends the timer task's
-- processing. What units and results do to the lock.
use Rattle.machine_laws.proofs.Common.{◌≡◌, Bool, ℕ, refl, true, List, [], false, ◌∙◌, ◌∷◌, None, Some, sym, arith, Option, subst, inl, inr, ◌+◌, suc, zero, ◌⊎◌, ◌≢◌, ◌==◌, if◌then◌else◌, nat_lt, ◌^◌, nat_le, ◌%◌, true≢false, OsErr, CallUnknown, Finished, Outcome, Waiting, Request, Service, FlagPost, QPost, SemPost, TaskQPost, TaskSemPost, TimeTick, choice, choice_by, equal, unequal, call_error, Effect, fine, refused, result_of, wakes_all, after_checks, content_for, perform, Kernel, task_at, prio_of, Task, is_ready, list_at, Content, timer_task, Bits, Count, no_task, tick_task}
use Rattle.std.proofs.Common.{◌-◌, get_or, ◌&&◌, ◌||◌, not}
use Rattle.kern_base.specs.declared.services.Service.TheVariants.{SemPend, QPend, FlagPend, MutexPend, TaskSemPend, TaskQPend, PendMulti, MutexPost, SemPendAbort, QPendAbort, FlagPendAbort, MutexPendAbort, TaskSemPendAbort, TaskQPendAbort, SemDel, QDel, FlagDel, MutexDel, TimeDly, TimeDlyResume, TimeGet, TaskSuspend, TaskResume, TaskDel, RoundRobinYield, SchedLock, SchedUnlock, TmrStart, TmrStop, TmrRemainGet, TmrStateGet, TmrDel, TaskChangePrio, Unknown}
use Rattle.kern_base.specs.declared.errors.OsErr.TheVariants.{SchedLocked, Depth, TaskResumeSelf, PrioInvalid, LockOverflow, SchedNotLocked, PendAbortSelf, RoundRobinDisabled, RoundRobinAlone, MutexNotOwner, ObjectDeleted, PendAbort}
use Rattle.kern_base.specs.declared.outcomes.Outcome.TheVariants.{Gone, Quiet}
use Rattle.kern_base.specs.declared.outcomes.UnitEnd.TheVariants.{TmrEnd}
use Rattle.kern_base.specs.declared.outcomes.Waiting.TheVariants.{Obj, Delay}
use Rattle.kern_model.specs.State.{Messages, Held, Timed, Timer, TimerState, Running, Completed, object_at, update_task, with_task, with_content}
use Rattle.kern_model.specs.Micro.{at_head, at_tail}
use Rattle.kern_model.specs.Call.{Call}
use Rattle.kern_model.specs.Effect.{Wait, done, answer, answers, chosen, waits_unless, blocks_on, waits_for}
use Rattle.kern_model.specs.Checks.{argument, named_task}
use Rattle.kern_model.specs.FlagBits.{has_bit, ready_bits}
use Rattle.kern_model.specs.Semaphores.{sem_pend}
use Rattle.kern_model.specs.Queues.{q_pend}
use Rattle.kern_model.specs.Flags.{flag_pend, flag_pend_on}
use Rattle.kern_model.specs.Mutexes.{nests, mutex_pend, passes_to, released, mutex_post, mutex_aborts, mutex_deletes}
use Rattle.kern_model.specs.TaskObjects.{task_sem_pend_on, task_q_pend_on, task_abort, task_abort_of, waits_for_semaphore, waits_for_queue}
use Rattle.kern_model.specs.Several.{table_objects, taken_from, taken_all, taken_count, polls, multi_takes, multi_checked, multi_error}
use Rattle.kern_model.specs.Waiters.{aborts, deletes}
use Rattle.kern_model.specs.Tasks.{suspends, suspended_task, task_suspend, resumes, task_resume, task_ends, deleted_task, task_del, task_change_prio, sched_lock, sched_unlock, unlocks}
use Rattle.kern_model.specs.Time.{delays, delay_of, time_dly, resumes_delayed, ticked, tick_unit, waits_for_signal, due, timed_out}
use Rattle.kern_model.specs.Timers.{runs, rests, tmr_start, tmr_stop, tmr_stop_in, tmr_remain_get, tmr_state_get, tmr_del, due_timer, fired, timer_counts, timer_goes_on, timer_unit}
use Rattle.kern_model.specs.RoundRobin.{is_alone, rotates, round_robin_yield}
use Rattle.kern_model.specs.Inherit.{renewed, renewing}
use Rattle.kern_model.specs.Finish.{finished, finished_with}
use Rattle.kern_model.specs.Services.{effect}
use Rattle.kern_model.proofs.Lemmas.{not_less, task-other}
use Rattle.machine_laws.proofs.Ready.Changes.{LeavesReady, leaves_ready-refl, leaves_ready-trans, leaves_ready-same, leaves_ready-updated, leaves_ready-with_task, leaves_ready-wakes_all, leaves_ready-renewed, leaves_ready-sem_post, leaves_ready-q_post, leaves_ready-flag_post, leaves_ready-task_sem_post_to, leaves_ready-task_q_post_to, leaves_ready-time_tick, leaves_ready-rotates, LeavesReadyBy}

-- the caller x is ready still, or the scheduler is not locked; and the timer task's processing stays
pub record CallerStays (x : ℕ) (k j : Kernel) : Type 0 where
  pub processing : j.processing ≡ k.processing
  pub ready : (j.lock ≡ 0) ⊎ (is_ready (task_at k x) ≡ true → is_ready (task_at j x) ≡ true)

abbrev StaysBy : ℕ → Kernel → Effect → Type 0
StaysBy x k e = CallerStays x k e.kernel

caller_stays : (x : ℕ) (k j : Kernel) → LeavesReady k j → CallerStays x k j
caller_stays x k j h = record { processing = h.processing; ready = inr (h.ready x) }

same : (x : ℕ) (k j : Kernel) → j.processing ≡ k.processing → j.tasks ≡ k.tasks → CallerStays x k j
same x k j processing tasks = record { processing = processing; ready = inr (λ r. subst (λ ts. is_ready (get_or ts x no_task) ≡ true) (sym tasks) r) }

stays : (x : ℕ) (k : Kernel) → CallerStays x k k
stays x k = caller_stays x k k (leaves_ready-refl k)

-- and then a change that leaves them ready
then_leaves_ready : (x : ℕ) (k j i : Kernel) → CallerStays x k j → LeavesReady j i → CallerStays x k i
then_leaves_ready x k j i h c = record { processing = c.processing ∙ h.processing; ready = by h.ready }
  where
    by : (j.lock ≡ 0) ⊎ (is_ready (task_at k x) ≡ true → is_ready (task_at j x) ≡ true) → (i.lock ≡ 0) ⊎ (is_ready (task_at k x) ≡ true → is_ready (task_at i x) ≡ true)
    by (inl e) = inl (c.lock ∙ e)
    by (inr r) = inr (λ h. c.ready x (r h))

stays-renewing : (place : List ℕ → ℕ) (x : ℕ) (k : Kernel) (e : Effect) → StaysBy x k e → StaysBy x k (renewing place e)
stays-renewing place x k e h = then_leaves_ready x k e.kernel (renewed place e.kernel) h (leaves_ready-renewed place e.kernel)

-- a caller blocks only where the scheduler is not locked
blocked-stays : (k : Kernel) (x : ℕ) (w : Wait) → k.lock ≡ 0 → StaysBy x k (blocks_on k x w)
blocked-stays k x w e = record { processing = refl; ready = inl e }

stays-tail : (k : Kernel) (x : ℕ) (b : Bool) (e : Effect) → (k.lock ≡ 0 → StaysBy x k e) → StaysBy x k (waits_unless k b e)
stays-tail k x true e h = stays x k
stays-tail k x false e h = choice_by (StaysBy x k) (k.lock == 0) e (refused k SchedLocked) (λ t. h (equal k.lock 0 t)) (λ t. stays x k)

stays-blocks : (k : Kernel) (x : ℕ) (b : Bool) (w : Wait) → StaysBy x k (waits_unless k b (blocks_on k x w))
stays-blocks k x b w = stays-tail k x b (blocks_on k x w) (blocked-stays k x w)

stays-woken : (x : ℕ) (k : Kernel) (f : Task → Finished) (h : ℕ) (xs : List ℕ) → CallerStays x k (wakes_all f h xs k)
stays-woken x k f h xs = caller_stays x k (wakes_all f h xs k) (leaves_ready-wakes_all f h xs k)

-- waits

stays-sem_pend : (c : Content) (r : Request) (x : ℕ) (k : Kernel) → StaysBy x k (sem_pend c r x k)
stays-sem_pend (Count zero) r x k = stays-blocks k x (argument r 2 == 1) _
stays-sem_pend (Count (suc n)) r x k = same x k (with_content k (argument r 0) (Count n)) refl refl
stays-sem_pend (Messages limit ms) r x k = stays x k
stays-sem_pend (Bits bits) r x k = stays x k
stays-sem_pend (Held owner nesting) r x k = stays x k
stays-sem_pend (Timed t) r x k = stays x k

stays-q_pend : (c : Content) (r : Request) (x : ℕ) (k : Kernel) → StaysBy x k (q_pend c r x k)
stays-q_pend (Messages limit []) r x k = stays-blocks k x (argument r 2 == 1) _
stays-q_pend (Messages limit (m ∷ ms)) r x k = same x k (q_pend (Messages limit (m ∷ ms)) r x k).kernel refl refl
stays-q_pend (Count n) r x k = stays x k
stays-q_pend (Bits bits) r x k = stays x k
stays-q_pend (Held owner nesting) r x k = stays x k
stays-q_pend (Timed t) r x k = stays x k

stays-flag_pend_on : (o : Option ℕ) (bits : ℕ) (r : Request) (x : ℕ) (k : Kernel) → StaysBy x k (flag_pend_on o bits r x k)
stays-flag_pend_on None bits r x k = stays-blocks k x (has_bit (argument r 3) 8) _
stays-flag_pend_on (Some ready) bits r x k = same x k (flag_pend_on (Some ready) bits r x k).kernel refl refl

stays-flag_pend : (c : Content) (r : Request) (x : ℕ) (k : Kernel) → StaysBy x k (flag_pend c r x k)
stays-flag_pend (Bits bits) r x k = stays-flag_pend_on (ready_bits bits (argument r 1) (argument r 3)) bits r x k
stays-flag_pend _ r x k = stays x k

stays-nests : (o x nesting : ℕ) (k : Kernel) → StaysBy x k (nests o x nesting k)
stays-nests o x nesting k =
    choice (StaysBy x k) (nesting == 250) (refused k Depth) (done (with_content k o (Held (Some x) (nesting + 1))) _) (stays x k) (same x k (with_content k o (Held (Some x) (nesting + 1))) refl refl)

stays-mutex_pend : (c : Content) (r : Request) (x : ℕ) (k : Kernel) → StaysBy x k (mutex_pend c r x k)
stays-mutex_pend (Held None nesting) r x k = same x k (with_content k (argument r 0) (Held (Some x) 1)) refl refl
stays-mutex_pend (Held (Some v) nesting) r x k =
    let e = blocks_on k x (waits_for (Obj MutexPend) (argument r 0 ∷ []) (argument r 1)) in
    choice (StaysBy x k) (v == x) (nests (argument r 0) x nesting k) (waits_unless k (argument r 2 == 1) (renewing at_head e)) (stays-nests (argument r 0) x nesting k)
    (stays-tail k x (argument r 2 == 1) (renewing at_head e) (λ l. stays-renewing at_head x k e (blocked-stays k x _ l)))
stays-mutex_pend (Count n) r x k = stays x k
stays-mutex_pend (Messages limit ms) r x k = stays x k
stays-mutex_pend (Bits bits) r x k = stays x k
stays-mutex_pend (Timed t) r x k = stays x k

stays-task_sem_pend_on : (n : ℕ) (r : Request) (x : ℕ) (k : Kernel) → StaysBy x k (task_sem_pend_on n r x k)
stays-task_sem_pend_on zero r x k = stays-blocks k x (argument r 1 == 1) _
stays-task_sem_pend_on (suc n) r x k = let f : Task → Task = λ t. record t { count = n } in caller_stays x k (with_task k x f) (leaves_ready-with_task k x f (λ t h. h))

stays-task_q_pend_on : (ms : List (ℕ × ℕ)) (r : Request) (x : ℕ) (k : Kernel) → StaysBy x k (task_q_pend_on ms r x k)
stays-task_q_pend_on [] r x k = stays-blocks k x (argument r 1 == 1) _
stays-task_q_pend_on (m ∷ ms) r x k = caller_stays x k (task_q_pend_on (m ∷ ms) r x k).kernel (leaves_ready-updated k (task_q_pend_on (m ∷ ms) r x k).kernel x (λ t. record t { messages = ms }) (λ t h. h) refl refl refl)

leaves_ready-taken_from : (o : ℕ) (c : Content) (k : Kernel) → LeavesReady k (taken_from o c k)
leaves_ready-taken_from o (Count zero) k = leaves_ready-refl k
leaves_ready-taken_from o (Count (suc n)) k = leaves_ready-same k (taken_from o (Count (suc n)) k) refl refl refl
leaves_ready-taken_from o (Messages limit []) k = leaves_ready-refl k
leaves_ready-taken_from o (Messages limit (m ∷ ms)) k = leaves_ready-same k (taken_from o (Messages limit (m ∷ ms)) k) refl refl refl
leaves_ready-taken_from o (Bits bits) k = leaves_ready-refl k
leaves_ready-taken_from o (Held owner nesting) k = leaves_ready-refl k
leaves_ready-taken_from o (Timed t) k = leaves_ready-refl k

leaves_ready-taken_all : (os : List ℕ) (k : Kernel) → LeavesReady k (taken_all os k)
leaves_ready-taken_all [] k = leaves_ready-refl k
leaves_ready-taken_all (o ∷ os) k = let j = taken_from o (object_at k o).content k in leaves_ready-trans k j (taken_all os j) (leaves_ready-taken_from o (object_at k o).content k) (leaves_ready-taken_all os j)

stays-multi_takes : (n : ℕ) (ps : List (Option (ℕ × ℕ))) (r : Request) (x : ℕ) (k : Kernel) → StaysBy x k (multi_takes n ps r x k)
stays-multi_takes zero ps r x k = stays-blocks k x (argument r 3 == 1) _
stays-multi_takes (suc n) ps r x k = caller_stays x k (taken_all (table_objects r) k) (leaves_ready-taken_all (table_objects r) k)

stays-multi_checked : (o : Option OsErr) (r : Request) (x : ℕ) (k : Kernel) → StaysBy x k (multi_checked o r x k)
stays-multi_checked (Some err) r x k = stays x k
stays-multi_checked None r x k = let ps = polls (table_objects r) k in stays-multi_takes (taken_count ps) ps r x k

-- mutexes, aborts, deletions

leaves_ready-passes_to : (xs : List ℕ) (o h : ℕ) (k : Kernel) → LeavesReadyBy k (passes_to xs o h k)
leaves_ready-passes_to [] o h k = leaves_ready-same k (with_content k o (Held None 0)) refl refl refl
leaves_ready-passes_to (y ∷ ys) o h k =
    let j = with_content k o (Held (Some y) 1) in
    leaves_ready-trans k j (wakes_all (result_of (fine 1)) h (y ∷ []) j) (leaves_ready-same k j refl refl refl) (leaves_ready-wakes_all (result_of (fine 1)) h (y ∷ []) j)

stays-released : (nesting : ℕ) (r : Request) (x h : ℕ) (k : Kernel) → StaysBy x k (released nesting r x h k)
stays-released nesting r x h k =
    let o = argument r 0 in
    let e = passes_to (list_at k.pend o) o h k in
    choice (StaysBy x k) (nat_lt 1 nesting) (done (with_content k o (Held (Some x) (nesting - 1))) _) (renewing at_tail e) (same x k (with_content k o (Held (Some x) (nesting - 1))) refl refl)
    (stays-renewing at_tail x k e (caller_stays x k e.kernel (leaves_ready-passes_to (list_at k.pend o) o h k)))

stays-mutex_post : (c : Content) (r : Request) (x h : ℕ) (k : Kernel) → StaysBy x k (mutex_post c r x h k)
stays-mutex_post (Held None nesting) r x h k = stays x k
stays-mutex_post (Held (Some v) nesting) r x h k =
    choice (StaysBy x k) (v == x) (released nesting r x h k) (refused k MutexNotOwner) (stays-released nesting r x h k) (stays x k)
stays-mutex_post (Count n) r x h k = stays x k
stays-mutex_post (Messages limit ms) r x h k = stays x k
stays-mutex_post (Bits bits) r x h k = stays x k
stays-mutex_post (Timed t) r x h k = stays x k

stays-aborts : (x : ℕ) (xs : List ℕ) (h : ℕ) (k : Kernel) → StaysBy x k (aborts xs h k)
stays-aborts x [] h k = stays x k
stays-aborts x (y ∷ ys) h k = stays-woken x k (result_of (answer PendAbort 0)) h (y ∷ ys)

stays-mutex_aborts : (x : ℕ) (xs : List ℕ) (h : ℕ) (k : Kernel) → StaysBy x k (mutex_aborts xs h k)
stays-mutex_aborts x [] h k = stays x k
stays-mutex_aborts x (y ∷ ys) h k = stays-renewing at_tail x k (aborts (y ∷ ys) h k) (stays-aborts x (y ∷ ys) h k)

stays-deleted : (x : ℕ) (all : Bool) (xs : List ℕ) (o h : ℕ) (k j : Kernel) → j.tasks ≡ (wakes_all (result_of (answer ObjectDeleted 0)) h xs k).tasks → j.processing ≡ k.processing → CallerStays x k j
stays-deleted x all xs o h k j tasks processing =
    let w = stays-woken x k (result_of (answer ObjectDeleted 0)) h xs in
    record { processing = processing; ready = inr (λ r. subst (λ ts. is_ready (get_or ts x no_task) ≡ true) (sym tasks) ((leaves_ready-wakes_all (result_of (answer ObjectDeleted 0)) h xs k).ready x r)) }

stays-deletes : (x : ℕ) (all : Bool) (xs : List ℕ) (o h : ℕ) (k : Kernel) → StaysBy x k (deletes all xs o h k)
stays-deletes x false [] o h k = same x k (deletes false [] o h k).kernel refl refl
stays-deletes x false (y ∷ ys) o h k = stays x k
stays-deletes x true xs o h k =
    stays-deleted x true xs o h k (deletes true xs o h k).kernel refl (leaves_ready-wakes_all (result_of (answer ObjectDeleted 0)) h xs k).processing

stays-mutex_deletes : (x : ℕ) (all : Bool) (xs : List ℕ) (o h : ℕ) (k : Kernel) → StaysBy x k (mutex_deletes all xs o h k)
stays-mutex_deletes x false [] o h k = stays-renewing at_tail x k (deletes false [] o h k) (stays-deletes x false [] o h k)
stays-mutex_deletes x false (y ∷ ys) o h k = stays x k
stays-mutex_deletes x true xs o h k = stays-renewing at_tail x k (deletes true xs o h k) (stays-deletes x true xs o h k)

stays-task_abort : (waits : Waiting → Bool) (r : Request) (x h : ℕ) (k : Kernel) → StaysBy x k (task_abort waits r x h k)
stays-task_abort waits r x h k =
    let y = named_task r x in
    choice (StaysBy x k) (y == x) (refused k PendAbortSelf) (task_abort_of (waits (task_at k y).waiting) y h k) (stays x k) (by (waits (task_at k y).waiting) y)
  where
    by : (b : Bool) (y : ℕ) → StaysBy x k (task_abort_of b y h k)
    by true y = stays-woken x k (result_of (answer PendAbort 0)) h (y ∷ [])
    by false y = stays x k

-- other tasks

-- the caller's own record is as it was
stays-other : (x y : ℕ) (f : Task → Task) (k j : Kernel) → y ≢ x → j.processing ≡ k.processing → j.tasks ≡ update_task k.tasks y f → CallerStays x k j
stays-other x y f k j d processing tasks =
    record { processing = processing; ready = inr (λ r. subst (λ ts. is_ready (get_or ts x no_task) ≡ true) (sym tasks) (subst (λ t. is_ready t ≡ true) (sym (task-other k.tasks y f x d)) r)) }

-- a change that its caller may make of itself only where the scheduler is not locked
own-or-other : (x y : ℕ) (k : Kernel) (P : Type 0) → (k.lock ≡ 0 → P) → (y ≢ x → P) → (y == x) && nat_lt 0 k.lock ≡ false → P
own-or-other x y k P own other h = by (y == x) refl (nat_lt 0 k.lock) refl h
  where
    by : (b : Bool) → (y == x) ≡ b → (l : Bool) → nat_lt 0 k.lock ≡ l → b && l ≡ false → P
    by true e true f h = absurd (true≢false h)
    by true e false f h = let none = not_less 0 k.lock f in own (omega (arith, none))
    by false e l f h = other (unequal y x e)

stays-suspends : (own : Bool) (x y : ℕ) (k : Kernel) → (k.lock ≡ 0) ⊎ (y ≢ x) → StaysBy x k (suspends own y k)
stays-suspends own x y k (inl e) = record { processing = refl; ready = inl e }
stays-suspends own x y k (inr d) = stays-other x y (suspended_task own) k (suspends own y k).kernel d refl refl

stays-task_suspend : (r : Request) (x : ℕ) (k : Kernel) → StaysBy x k (task_suspend r x k)
stays-task_suspend r x k =
    let y = named_task r x in
    let rest : Effect = if (task_at k y).suspended == 250 then refused k Depth else suspends (y == x) y k in
    choice_by (StaysBy x k) ((y == x) && nat_lt 0 k.lock) (refused k SchedLocked) rest (λ t. stays x k)
    (λ t. choice (StaysBy x k) ((task_at k y).suspended == 250) (refused k Depth) (suspends (y == x) y k) (stays x k)
    (own-or-other x y k (StaysBy x k (suspends (y == x) y k)) (λ e. stays-suspends (y == x) x y k (inl e)) (λ d. stays-suspends (y == x) x y k (inr d)) t))

stays-resumes : (n x y h : ℕ) (k : Kernel) → y ≢ x → StaysBy x k (resumes n y h k)
stays-resumes zero x y h k d = stays x k
stays-resumes (suc n) x y h k d = stays-other x y (λ t. record t { suspended = n }) k (resumes (suc n) y h k).kernel d refl refl

stays-task_resume : (r : Request) (x h : ℕ) (k : Kernel) → StaysBy x k (task_resume r x h k)
stays-task_resume r x h k =
    let y = named_task r x in
    choice_by (StaysBy x k) (y == x) (refused k TaskResumeSelf) (resumes (task_at k y).suspended y h k) (λ t. stays x k) (λ t. stays-resumes (task_at k y).suspended x y h k (unequal y x t))

stays-task_ends : (o : Outcome) (x y : ℕ) (k : Kernel) → (k.lock ≡ 0) ⊎ (y ≢ x) → StaysBy x k (task_ends o y k)
stays-task_ends o x y k (inl e) = record { processing = refl; ready = inl e }
stays-task_ends o x y k (inr d) = stays-other x y deleted_task k (task_ends o y k).kernel d refl refl

stays-task_del : (r : Request) (x : ℕ) (k : Kernel) → StaysBy x k (task_del r x k)
stays-task_del r x k =
    let y = named_task r x in
    let o : Outcome = if y == x then Gone else answers (fine 0) in
    let e = task_ends o y k in
    choice_by (StaysBy x k) ((y == x) && nat_lt 0 k.lock) (refused k SchedLocked) (renewing at_tail e) (λ t. stays x k)
    (λ t. own-or-other x y k (StaysBy x k (renewing at_tail e)) (λ l. stays-renewing at_tail x k e (stays-task_ends o x y k (inl l))) (λ d. stays-renewing at_tail x k e (stays-task_ends o x y k (inr d))) t)

stays-task_change_prio : (r : Request) (x : ℕ) (k : Kernel) → StaysBy x k (task_change_prio r x k)
stays-task_change_prio r x k =
    let p = argument r 1 in
    let y = named_task r x in
    let f : Task → Task = λ t. record t { base = p } in
    let e = done (with_task k y f) (fine 0) in
    choice (StaysBy x k) (nat_le 1 p && nat_le p 62) (renewing at_tail e) (refused k PrioInvalid) (stays-renewing at_tail x k e (caller_stays x k (with_task k y f) (leaves_ready-with_task k y f (λ t h. h)))) (stays x k)

-- the lock, round robin, time

stays-sched_lock : (x : ℕ) (k : Kernel) → StaysBy x k (sched_lock k)
stays-sched_lock x k = choice (StaysBy x k) (k.lock == 250) (refused k LockOverflow) (done (record k { lock = k.lock + 1 }) _) (stays x k) (same x k (record k { lock = k.lock + 1 }) refl refl)

stays-unlocks : (x n : ℕ) (k : Kernel) → StaysBy x k (unlocks n k)
stays-unlocks x zero k = same x k (record k { lock = 0 }) refl refl
stays-unlocks x (suc n) k = same x k (record k { lock = suc n }) refl refl

stays-sched_unlock : (x : ℕ) (k : Kernel) → StaysBy x k (sched_unlock x k)
stays-sched_unlock x k = choice (StaysBy x k) ((k.lock == 0) || ((k.lock == 1) && (x == timer_task))) (refused k SchedNotLocked) (unlocks (k.lock - 1) k) (stays x k) (stays-unlocks x (k.lock - 1) k)

stays-round_robin_yield : (x : ℕ) (k : Kernel) → StaysBy x k (round_robin_yield x k)
stays-round_robin_yield x k =
    let alone = is_alone (list_at k.ready (prio_of k x)) in
    let turn = rotates x (prio_of k x) k in
    let last : Effect = if alone then refused k RoundRobinAlone else turn in
    let rest : Effect = if not k.settings.round_robin then refused k RoundRobinDisabled else last in
    choice (StaysBy x k) (not (k.lock == 0)) (refused k SchedLocked) rest (stays x k)
    (choice (StaysBy x k) (not k.settings.round_robin) (refused k RoundRobinDisabled) last (stays x k)
    (choice (StaysBy x k) alone (refused k RoundRobinAlone) turn (stays x k) (caller_stays x k turn.kernel (leaves_ready-rotates x (prio_of k x) k))))

stays-delays : (n x : ℕ) (k : Kernel) → k.lock ≡ 0 → StaysBy x k (delays n x k)
stays-delays zero x k e = stays x k
stays-delays (suc n) x k e = blocked-stays k x (waits_for Delay [] (suc n)) e

stays-time_dly : (r : Request) (x : ℕ) (k : Kernel) → StaysBy x k (time_dly r x k)
stays-time_dly r x k = choice_by (StaysBy x k) (k.lock == 0) (delays (delay_of r k.ticks) x k) (refused k SchedLocked) (λ t. stays-delays (delay_of r k.ticks) x k (equal k.lock 0 t)) (λ t. stays x k)

stays-resumes_delayed : (w : Waiting) (x y h : ℕ) (k : Kernel) → StaysBy x k (resumes_delayed w y h k)
stays-resumes_delayed Delay x y h k = stays-woken x k (result_of (fine 0)) h (y ∷ [])
stays-resumes_delayed _ x y h k = stays x k

-- timers

stays-tmr_start : (c : Content) (r : Request) (x : ℕ) (k : Kernel) → StaysBy x k (tmr_start c r k)
stays-tmr_start (Timed t) r x k = same x k (tmr_start (Timed t) r k).kernel refl refl
stays-tmr_start _ r x k = stays x k

stays-tmr_stop_in : (s : TimerState) (t : Timer) (o x : ℕ) (k : Kernel) → StaysBy x k (tmr_stop_in s t o k)
stays-tmr_stop_in Running t o x k = same x k (tmr_stop_in Running t o k).kernel refl refl
stays-tmr_stop_in _ t o x k = stays x k

stays-tmr_stop : (c : Content) (r : Request) (x : ℕ) (k : Kernel) → StaysBy x k (tmr_stop c r k)
stays-tmr_stop (Timed t) r x k = stays-tmr_stop_in t.state t (argument r 0) x k
stays-tmr_stop _ r x k = stays x k

stays-tmr_remain_get : (c : Content) (r : Request) (x : ℕ) (k : Kernel) → StaysBy x k (tmr_remain_get c r k)
stays-tmr_remain_get (Timed t) r x k = stays x k
stays-tmr_remain_get _ r x k = stays x k

stays-tmr_state_get : (c : Content) (x : ℕ) (k : Kernel) → StaysBy x k (tmr_state_get c k)
stays-tmr_state_get (Timed t) x k = stays x k
stays-tmr_state_get _ x k = stays x k

stays-tmr_del : (c : Content) (r : Request) (x : ℕ) (k : Kernel) → StaysBy x k (tmr_del c r k)
stays-tmr_del (Timed t) r x k = same x k (tmr_del (Timed t) r k).kernel refl refl
stays-tmr_del _ r x k = stays x k

-- every service

stays-perform : (s : Service) (call : Call) (k : Kernel) → StaysBy call.caller k (perform s call k)
stays-perform SemPost call k = caller_stays call.caller k _ (leaves_ready-sem_post (content_for call.request k) call.request call.compared k)
stays-perform QPost call k = caller_stays call.caller k _ (leaves_ready-q_post (content_for call.request k) call.request call.compared k)
stays-perform FlagPost call k = caller_stays call.caller k _ (leaves_ready-flag_post (content_for call.request k) call.request call.compared k)
stays-perform TaskSemPost call k = let y = named_task call.request call.caller in caller_stays call.caller k _ (leaves_ready-task_sem_post_to (task_at k y).waiting y call.compared k)
stays-perform TaskQPost call k = let y = named_task call.request call.caller in caller_stays call.caller k _ (leaves_ready-task_q_post_to (task_at k y).waiting call.request y call.compared k)
stays-perform TimeTick call k = caller_stays call.caller k _ (leaves_ready-time_tick call.interrupted call.compared k)
stays-perform SemPend call k = stays-sem_pend (content_for call.request k) call.request call.caller k
stays-perform QPend call k = stays-q_pend (content_for call.request k) call.request call.caller k
stays-perform FlagPend call k = stays-flag_pend (content_for call.request k) call.request call.caller k
stays-perform MutexPend call k = stays-mutex_pend (content_for call.request k) call.request call.caller k
stays-perform TaskSemPend call k = stays-task_sem_pend_on (task_at k call.caller).count call.request call.caller k
stays-perform TaskQPend call k = stays-task_q_pend_on (task_at k call.caller).messages call.request call.caller k
stays-perform PendMulti call k = stays-multi_checked (multi_error call.request k) call.request call.caller k
stays-perform MutexPost call k = stays-mutex_post (content_for call.request k) call.request call.caller call.compared k
stays-perform SemPendAbort call k = stays-aborts call.caller (chosen (argument call.request 1 == 1) (list_at k.pend (argument call.request 0))) call.compared k
stays-perform QPendAbort call k = stays-aborts call.caller (chosen (argument call.request 1 == 1) (list_at k.pend (argument call.request 0))) call.compared k
stays-perform FlagPendAbort call k = stays-aborts call.caller (chosen (argument call.request 1 == 1) (list_at k.pend (argument call.request 0))) call.compared k
stays-perform MutexPendAbort call k = stays-mutex_aborts call.caller (chosen (argument call.request 1 == 1) (list_at k.pend (argument call.request 0))) call.compared k
stays-perform TaskSemPendAbort call k = stays-task_abort waits_for_semaphore call.request call.caller call.compared k
stays-perform TaskQPendAbort call k = stays-task_abort waits_for_queue call.request call.caller call.compared k
stays-perform SemDel call k = stays-deletes call.caller (argument call.request 1 == 1) (list_at k.pend (argument call.request 0)) (argument call.request 0) call.compared k
stays-perform QDel call k = stays-deletes call.caller (argument call.request 1 == 1) (list_at k.pend (argument call.request 0)) (argument call.request 0) call.compared k
stays-perform FlagDel call k = stays-deletes call.caller (argument call.request 1 == 1) (list_at k.pend (argument call.request 0)) (argument call.request 0) call.compared k
stays-perform MutexDel call k = stays-mutex_deletes call.caller (argument call.request 1 == 1) (list_at k.pend (argument call.request 0)) (argument call.request 0) call.compared k
stays-perform TimeDly call k = stays-time_dly call.request call.caller k
stays-perform TimeDlyResume call k = let y = named_task call.request call.caller in stays-resumes_delayed (task_at k y).waiting call.caller y call.compared k
stays-perform TimeGet call k = stays call.caller k
stays-perform TaskSuspend call k = stays-task_suspend call.request call.caller k
stays-perform TaskResume call k = stays-task_resume call.request call.caller call.compared k
stays-perform TaskDel call k = stays-task_del call.request call.caller k
stays-perform RoundRobinYield call k = stays-round_robin_yield call.caller k
stays-perform SchedLock call k = stays-sched_lock call.caller k
stays-perform SchedUnlock call k = stays-sched_unlock call.caller k
stays-perform TmrStart call k = stays-tmr_start (content_for call.request k) call.request call.caller k
stays-perform TmrStop call k = stays-tmr_stop (content_for call.request k) call.request call.caller k
stays-perform TmrRemainGet call k = stays-tmr_remain_get (content_for call.request k) call.request call.caller k
stays-perform TmrStateGet call k = stays-tmr_state_get (content_for call.request k) call.caller k
stays-perform TmrDel call k = stays-tmr_del (content_for call.request k) call.request call.caller k
stays-perform TaskChangePrio call k = stays-task_change_prio call.request call.caller k
stays-perform (Unknown number) call k = stays call.caller k

stays-after_checks : (o : Option OsErr) (call : Call) (k : Kernel) → StaysBy call.caller k (after_checks o call k)
stays-after_checks (Some err) call k = stays call.caller k
stays-after_checks None call k = stays-perform call.request.service call k

pub caller-stays : (served : Service → Bool) (call : Call) (k : Kernel) → CallerStays call.caller k (effect served call k).kernel
caller-stays served call k =
    choice (StaysBy call.caller k) (served call.request.service) (after_checks (call_error call.request call.caller k) call k) (refused k CallUnknown) (stays-after_checks (call_error call.request call.caller k) call k) (stays call.caller k)

-- the units

lock-waits_for_signal : (x : ℕ) (e : Effect) → (waits_for_signal x e).kernel.lock ≡ e.kernel.lock
lock-waits_for_signal x e = refl

lock-ticked : (k : Kernel) → (ticked k).kernel.lock ≡ k.lock
lock-ticked k =
    let j : Kernel = record k { ticks = (k.ticks + 1) % 2 ^ 32; tick_signals = k.tick_signals - 1 } in
    let i = wakes_all (λ t. timed_out t.waiting t) (prio_of k tick_task) (due ((k.ticks + 1) % 2 ^ 32) k.matches) j in
    (leaves_ready-renewed at_tail i).lock ∙ (leaves_ready-wakes_all (λ t. timed_out t.waiting t) (prio_of k tick_task) (due ((k.ticks + 1) % 2 ^ 32) k.matches) j).lock

-- the tick task's unit leaves the lock as it was
pub lock-tick_unit : (k : Kernel) → (tick_unit k).kernel.lock ≡ k.lock
lock-tick_unit k = choice (λ (e : Effect). e.kernel.lock ≡ k.lock) (k.tick_signals == 1) (waits_for_signal tick_task (ticked k)) (ticked k) (lock-ticked k) (lock-ticked k)

processing-fired : (o : ℕ) (c : Content) (k : Kernel) → (fired o c k).processing ≡ k.processing
processing-fired o (Timed t) k = choice (λ (j : Kernel). j.processing ≡ k.processing) t.periodic (runs o t t.period k) (rests o t Completed k) refl refl
processing-fired o (Count n) k = refl
processing-fired o (Messages limit ms) k = refl
processing-fired o (Bits bits) k = refl
processing-fired o (Held owner nesting) k = refl

-- after the timer task's unit it is processing, or the scheduler is not locked
abbrev pub IsOpenOrProcessing : Kernel → Type 0
IsOpenOrProcessing k = (k.lock ≡ 0) ⊎ (k.processing ≡ true)

open-goes_on : (o : Option ℕ) (k : Kernel) → k.processing ≡ true → IsOpenOrProcessing (timer_goes_on o k).kernel
open-goes_on (Some o) k p = inr (processing-fired o (object_at k o).content k ∙ p)
open-goes_on None k p =
    let e : Effect = record { kernel = record k { lock = 0; processing = false }; outcome = Quiet TmrEnd; blocks = [] } in
    choice (λ (f : Effect). IsOpenOrProcessing f.kernel) (k.timer_signals == 0) (waits_for_signal timer_task e) e (inl refl) (inl refl)

pub open-timer_unit : (k : Kernel) → IsOpenOrProcessing (timer_unit k).kernel
open-timer_unit k =
    choice_by (λ (e : Effect). IsOpenOrProcessing e.kernel) k.processing (timer_goes_on (due_timer k.timer_count k.timer_matches) k) (timer_counts k) (open-goes_on (due_timer k.timer_count k.timer_matches) k) (λ _. inr refl)

-- a task that reads its result

leaves_ready-finished_with : (o : Option Finished) (x : ℕ) (k : Kernel) → LeavesReady k (finished_with o x k)
leaves_ready-finished_with None x k = leaves_ready-refl k
leaves_ready-finished_with (Some f) x k = leaves_ready-updated k (finished_with (Some f) x k) x (λ t. record t { answered = None }) (λ t r. r) refl refl refl

pub leaves_ready-finished : (x : ℕ) (k : Kernel) → LeavesReady k (finished x k)
leaves_ready-finished x k = leaves_ready-finished_with (task_at k x).answered x k

ready-finished_with : (o : Option Finished) (x : ℕ) (k : Kernel) → (finished_with o x k).ready ≡ k.ready
ready-finished_with None x k = refl
ready-finished_with (Some f) x k = refl

pub ready-finished : (x : ℕ) (k : Kernel) → (finished x k).ready ≡ k.ready
ready-finished x k = ready-finished_with (task_at k x).answered x k
