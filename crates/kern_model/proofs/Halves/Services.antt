-- After the last micro-step of a whole step both directions have the lists of its effect: of every service and unit, in every
-- kernel.
pub use Rattle.kern_model.proofs.Halves.Effects.{choice}
use Rattle.kern_model.proofs.Common.{Call, ◌≡◌, ℕ, zero, suc, ◌+◌, List, [], ◌∷◌, ◌++◌, length, refl, sym, ap, ◌∙◌, subst, Bool, true, false, not, ◌&&◌, ◌||◌, Option, Some, None, map, if◌then◌else◌, ◌==◌, ◌-◌, ◌^◌, ◌%◌, nat_lt, nat_le, Service, SemPost, QPost, FlagPost, TaskSemPost, TaskQPost, TimeTick, SemPend, QPend, FlagPend, MutexPend, TaskSemPend, TaskQPend, PendMulti, MutexPost, SemPendAbort, QPendAbort, FlagPendAbort, MutexPendAbort, TaskSemPendAbort, TaskQPendAbort, SemDel, QDel, FlagDel, MutexDel, TimeDly, TimeDlyResume, TimeGet, TaskSuspend, TaskResume, TaskDel, RoundRobinYield, SchedLock, SchedUnlock, TmrStart, TmrStop, TmrRemainGet, TmrStateGet, TmrDel, TaskChangePrio, Unknown, Request, OsErr, SemOverflow, SchedLocked, CallUnknown, Depth, MutexOwner, MutexNotOwner, MutexNesting, PendAbort, PendAbortSelf, ObjectDeleted, TaskSuspended, TaskResumeSelf, PrioInvalid, LockOverflow, SchedNotLocked, RoundRobinDisabled, RoundRobinAlone, Answer, Waiting, Delay, Obj, TaskSem, TaskQ, Multi, Signal, Outcome, Gone, Quiet, Tick, TmrEnd, Kernel, Timer, TimerState, Running, Completed, Content, Count, Messages, Bits, Held, Timed, list_at, update_list, without, task_at, prio_of, object_at, with_content, with_task, is_ready, waits_for_nothing, is_zero, tick_task, timer_task, idle_task, Block, Lists, changed_all, whole, in_order, lists_of, plain, unready, readied, readied_at, at_head, at_tail, join_place, Effect, Wait, refused, done, answer, answers, fine, message, woken, result_of, posted_result, chosen, waits_unless, blocks_on, waits_for, and_then, joined, left_all, leave_blocks, argument, named_task, call_error, renewing, waited_objects, effect, after_checks, perform, content_for, unit_effect, blocks, cost, half}
use Rattle.std.proofs.Math.Seq.{take-length}
use Rattle.kern_model.specs.FlagBits.{has_bit, ready_bits, bits_after}
use Rattle.kern_model.specs.Semaphores.{sem_post_to, sem_post, sem_pend}
use Rattle.kern_model.specs.Queues.{stored, store_error, store_in, q_post_to, q_post, q_pend}
use Rattle.kern_model.specs.Flags.{flag_wakes, flag_blocks, flag_wakes_all, flag_blocks_all, flags_become, flag_post, flag_pend_on, flag_pend}
use Rattle.kern_model.specs.Mutexes.{nests, mutex_pend, passes_to, released, mutex_post, mutex_aborts, mutex_deletes}
use Rattle.kern_model.specs.Waiters.{aborts, deletes, without_object}
use Rattle.kern_model.specs.TaskObjects.{task_counts_up, task_sem_post_to, task_store, task_q_post_to, task_sem_pend_on, task_q_pend_on, task_abort_of, task_abort, waits_for_semaphore, waits_for_queue}
use Rattle.kern_model.specs.Several.{multi_error, multi_checked, multi_takes, after_polls, table_objects, polls, taken_all, taken_from, taken_count}
use Rattle.kern_model.specs.Tasks.{left_ready, unready_blocks, suspends, task_suspend, resumed_ready, resumed_blocks, resumes, task_resume, task_ends, task_del, task_change_prio, sched_lock, unlocks, sched_unlock}
use Rattle.kern_model.specs.RoundRobin.{first_in, rotates, spends, round_robin, is_alone, round_robin_yield}
use Rattle.kern_model.specs.Time.{delays, delay_of, time_dly, resumes_delayed, signalled, signals_tick, signals_timer, time_tick, due, timed_out, waits_for_signal, ticked, tick_unit}
use Rattle.kern_model.specs.Timers.{tmr_start, tmr_stop_in, tmr_stop, tmr_remain_get, tmr_state_get, tmr_del, timer_counts, fired, timer_ends, timer_goes_on, timer_unit, due_timer, runs, rests, has_callback}
use Rattle.kern_model.proofs.Halves.Blocks.{Does, does_none, does_more, does_append, does_leaves, does_ready_blocks, does_unready, does_readied_at, does_wake, SameShape, same_shape-wakes, lists-wakes}
use Rattle.kern_model.proofs.Halves.Effects.{Leads, Takes_to, takes_to-append, leads-whole, leads-refused, leads-woken, leads-blocks_on, leads-waits_unless, leads-and_then, leads-same, leads-renewing}

-- a call without a block, whose kernel has the same lists
quiet : (k : Kernel) (j : Kernel) (a : Answer) → lists_of j ≡ lists_of k → Leads k (done j a)
quiet k j a same = record { lists = ap (λ l. whole l) (sym same) }

-- semaphores

leads-sem_post_to : (xs : List ℕ) (n o opt h : ℕ) (k : Kernel) → Leads k (sem_post_to xs n o opt h k)
leads-sem_post_to [] n o opt h k =
    choice (Leads k) (n == 2 ^ 32 - 1) (refused k SemOverflow) (done (with_content k o (Count (n + 1))) (fine (n + 1))) (leads-refused k SemOverflow) (quiet k (with_content k o (Count (n + 1))) (fine (n + 1)) refl)
leads-sem_post_to (x ∷ xs) n o opt h k = leads-woken (posted_result o (fine 0)) (fine 0) h (chosen (opt == 2) (x ∷ xs)) k

leads-sem_post : (c : Content) (r : Request) (h : ℕ) (k : Kernel) → Leads k (sem_post c r h k)
leads-sem_post (Count n) r h k = leads-sem_post_to (list_at k.pend (argument r 0)) n (argument r 0) (argument r 1) h k
leads-sem_post _ r h k = record { lists = refl }

leads-sem_pend : (c : Content) (r : Request) (x : ℕ) (k : Kernel) → Leads k (sem_pend c r x k)
leads-sem_pend (Count zero) r x k =
    let w = waits_for (Obj SemPend) (argument r 0 ∷ []) (argument r 1) in
    leads-waits_unless k (argument r 2 == 1) (blocks_on k x w) (leads-blocks_on k x w)
leads-sem_pend (Count (suc n)) r x k = record { lists = refl }
leads-sem_pend _ r x k = record { lists = refl }

-- queues

leads-store_in : (e : Option OsErr) (o limit : ℕ) (ms : List (ℕ × ℕ)) (k : Kernel) → Leads k (store_in e o limit ms k)
leads-store_in (Some err) o limit ms k = record { lists = refl }
leads-store_in None o limit ms k = record { lists = refl }

leads-q_post_to : (xs : List ℕ) (limit : ℕ) (ms : List (ℕ × ℕ)) (r : Request) (h : ℕ) (k : Kernel) → Leads k (q_post_to xs limit ms r h k)
leads-q_post_to [] limit ms r h k =
    leads-store_in (store_error (length ms) limit k.free) (argument r 0) limit (stored (has_bit (argument r 3) 1) (argument r 1, argument r 2) ms) k
leads-q_post_to (x ∷ xs) limit ms r h k =
    leads-woken (posted_result (argument r 0) (message (argument r 1) (argument r 2))) (fine 0) h (chosen (has_bit (argument r 3) 2) (x ∷ xs)) k

leads-q_post : (c : Content) (r : Request) (h : ℕ) (k : Kernel) → Leads k (q_post c r h k)
leads-q_post (Messages limit ms) r h k = leads-q_post_to (list_at k.pend (argument r 0)) limit ms r h k
leads-q_post _ r h k = record { lists = refl }

leads-q_pend : (c : Content) (r : Request) (x : ℕ) (k : Kernel) → Leads k (q_pend c r x k)
leads-q_pend (Messages limit []) r x k =
    let w = waits_for (Obj QPend) (argument r 0 ∷ []) (argument r 1) in
    leads-waits_unless k (argument r 2 == 1) (blocks_on k x w) (leads-blocks_on k x w)
leads-q_pend (Messages limit (m ∷ ms)) r x k = record { lists = refl }
leads-q_pend _ r x k = record { lists = refl }

-- flags: the blocks read each waiter as it stands in the kernel at the start

takes_to-flag : (o : Option ℕ) (h x : ℕ) (k j : Kernel) → SameShape k j → Takes_to (flag_blocks o h x k) (lists_of j) (lists_of (flag_wakes o h x j))
takes_to-flag None h x k j s = refl
takes_to-flag (Some ready) h x k j s =
    does_wake k h x (lists_of j) ∙ ap (λ l. whole l) (sym (lists-wakes (result_of (fine ready) (task_at j x)) h x k j s))

same_shape-flag : (o : Option ℕ) (h x : ℕ) (k j : Kernel) → SameShape k j → SameShape k (flag_wakes o h x j)
same_shape-flag None h x k j s = s
same_shape-flag (Some ready) h x k j s = same_shape-wakes (result_of (fine ready) (task_at j x)) h x k j s

takes_to-flags : (bits h : ℕ) (xs : List ℕ) (k j : Kernel) → SameShape k j → Takes_to (flag_blocks_all bits h xs k) (lists_of j) (lists_of (flag_wakes_all bits h xs j))
takes_to-flags bits h [] k j s = refl
takes_to-flags bits h (x ∷ xs) k j s =
    let o = ready_bits bits (task_at k x).mask (task_at k x).opt in
    let now = ready_bits bits (task_at j x).mask (task_at j x).opt in
    let same : now ≡ o = ap (λ m. ready_bits bits m (task_at j x).opt) (s.mask x) ∙ ap (λ n. ready_bits bits (task_at k x).mask n) (s.opt x) in
    let rest = flag_blocks_all bits h xs k in
    let next = flag_wakes o h x j in
    subst (λ a. Takes_to (flag_blocks o h x k ++ rest) (lists_of j) (lists_of (flag_wakes_all bits h xs (flag_wakes a h x j)))) (sym same)
    (takes_to-append (flag_blocks o h x k) rest (lists_of j) (lists_of next) (lists_of (flag_wakes_all bits h xs next)) (takes_to-flag o h x k j s) (takes_to-flags bits h xs k next (same_shape-flag o h x k j s)))

leads-flags_become : (bits o h : ℕ) (k : Kernel) → Leads k (flags_become bits o h k)
leads-flags_become bits o h k =
    record { lists = takes_to-flags bits h (list_at k.pend o) k (with_content k o (Bits bits)) (record { prio = λ y. refl; suspended = λ y. refl; objects = λ y. refl; mask = λ y. refl; opt = λ y. refl }) }

leads-flag_post : (c : Content) (r : Request) (h : ℕ) (k : Kernel) → Leads k (flag_post c r h k)
leads-flag_post (Bits bits) r h k = leads-flags_become (bits_after bits (argument r 1) (argument r 2)) (argument r 0) h k
leads-flag_post _ r h k = record { lists = refl }

leads-flag_pend_on : (o : Option ℕ) (bits : ℕ) (r : Request) (x : ℕ) (k : Kernel) → Leads k (flag_pend_on o bits r x k)
leads-flag_pend_on None bits r x k =
    let w : Wait = record { waiting = Obj FlagPend; objects = argument r 0 ∷ []; mask = argument r 1; opt = argument r 3; table = 0; timeout = argument r 2 } in
    leads-waits_unless k (has_bit (argument r 3) 8) (blocks_on k x w) (leads-blocks_on k x w)
leads-flag_pend_on (Some ready) bits r x k = record { lists = refl }

leads-flag_pend : (c : Content) (r : Request) (x : ℕ) (k : Kernel) → Leads k (flag_pend c r x k)
leads-flag_pend (Bits bits) r x k = leads-flag_pend_on (ready_bits bits (argument r 1) (argument r 3)) bits r x k
leads-flag_pend _ r x k = record { lists = refl }

-- mutexes

leads-nests : (o x nesting : ℕ) (k : Kernel) → Leads k (nests o x nesting k)
leads-nests o x nesting k =
    choice (Leads k) (nesting == 250) (refused k Depth) (done (with_content k o (Held (Some x) (nesting + 1))) (answer MutexOwner (nesting + 1))) (record { lists = refl }) (record { lists = refl })

leads-mutex_pend : (c : Content) (r : Request) (x : ℕ) (k : Kernel) → Leads k (mutex_pend c r x k)
leads-mutex_pend (Held None nesting) r x k = record { lists = refl }
leads-mutex_pend (Held (Some v) nesting) r x k =
    let w = waits_for (Obj MutexPend) (argument r 0 ∷ []) (argument r 1) in
    choice (Leads k) (v == x) (nests (argument r 0) x nesting k) (waits_unless k (argument r 2 == 1) (renewing at_head (blocks_on k x w))) (leads-nests (argument r 0) x nesting k)
    (leads-waits_unless k (argument r 2 == 1) (renewing at_head (blocks_on k x w)) (leads-renewing at_head k (blocks_on k x w) (leads-blocks_on k x w)))
leads-mutex_pend _ r x k = record { lists = refl }

pub leads-passes_to : (xs : List ℕ) (o h : ℕ) (k : Kernel) → Leads k (passes_to xs o h k)
leads-passes_to [] o h k = record { lists = refl }
leads-passes_to (x ∷ xs) o h k =
    record { lists = Leads.lists (leads-woken (result_of (fine 1)) (fine 0) h (x ∷ []) (with_content k o (Held (Some x) 1))) }

leads-released : (nesting : ℕ) (r : Request) (x h : ℕ) (k : Kernel) → Leads k (released nesting r x h k)
leads-released nesting r x h k =
    let o = argument r 0 in
    choice (Leads k) (nat_lt 1 nesting) (done (with_content k o (Held (Some x) (nesting - 1))) (answer MutexNesting (nesting - 1))) (renewing at_tail (passes_to (list_at k.pend o) o h k))
    (record { lists = refl }) (leads-renewing at_tail k (passes_to (list_at k.pend o) o h k) (leads-passes_to (list_at k.pend o) o h k))

leads-mutex_post : (c : Content) (r : Request) (x h : ℕ) (k : Kernel) → Leads k (mutex_post c r x h k)
leads-mutex_post (Held None nesting) r x h k = record { lists = refl }
leads-mutex_post (Held (Some v) nesting) r x h k =
    choice (Leads k) (v == x) (released nesting r x h k) (refused k MutexNotOwner) (leads-released nesting r x h k) (leads-refused k MutexNotOwner)
leads-mutex_post _ r x h k = record { lists = refl }

-- aborts and deletions

pub leads-aborts : (xs : List ℕ) (h : ℕ) (k : Kernel) → Leads k (aborts xs h k)
leads-aborts [] h k = record { lists = refl }
leads-aborts (x ∷ xs) h k = leads-woken (result_of (answer PendAbort 0)) (fine (length (x ∷ xs))) h (x ∷ xs) k

leads-mutex_aborts : (xs : List ℕ) (h : ℕ) (k : Kernel) → Leads k (mutex_aborts xs h k)
leads-mutex_aborts [] h k = record { lists = refl }
leads-mutex_aborts (x ∷ xs) h k = leads-renewing at_tail k (aborts (x ∷ xs) h k) (leads-aborts (x ∷ xs) h k)

leads-deleted : (xs : List ℕ) (o h : ℕ) (k : Kernel) → Leads k (deletes true xs o h k)
leads-deleted xs o h k =
    let e = woken (result_of (answer ObjectDeleted 0)) (fine (length xs)) h xs k in
    leads-same k (without_object o e.kernel) e e.outcome (leads-woken (result_of (answer ObjectDeleted 0)) (fine (length xs)) h xs k) refl

pub leads-deletes : (all : Bool) (xs : List ℕ) (o h : ℕ) (k : Kernel) → Leads k (deletes all xs o h k)
leads-deletes false (x ∷ xs) o h k = record { lists = refl }
leads-deletes false [] o h k = leads-deleted [] o h k
leads-deletes true xs o h k = leads-deleted xs o h k

leads-mutex_deletes : (all : Bool) (xs : List ℕ) (o h : ℕ) (k : Kernel) → Leads k (mutex_deletes all xs o h k)
leads-mutex_deletes false (x ∷ xs) o h k = record { lists = refl }
leads-mutex_deletes false [] o h k = leads-renewing at_tail k (deletes false [] o h k) (leads-deletes false [] o h k)
leads-mutex_deletes true xs o h k = leads-renewing at_tail k (deletes true xs o h k) (leads-deletes true xs o h k)

-- a task's own semaphore and queue

leads-task_counts_up : (n x : ℕ) (k : Kernel) → Leads k (task_counts_up n x k)
leads-task_counts_up n x k =
    choice (Leads k) (n == 2 ^ 32 - 1) (refused k SemOverflow) (done (with_task k x (λ t. record t { count = n + 1 })) (fine (n + 1))) (leads-refused k SemOverflow) (record { lists = refl })

leads-task_sem_post_to : (w : Waiting) (x h : ℕ) (k : Kernel) → Leads k (task_sem_post_to w x h k)
leads-task_sem_post_to TaskSem x h k = leads-woken (result_of (fine 0)) (fine 0) h (x ∷ []) k
leads-task_sem_post_to _ x h k = leads-task_counts_up (task_at k x).count x k

leads-task_store : (e : Option OsErr) (x : ℕ) (ms : List (ℕ × ℕ)) (k : Kernel) → Leads k (task_store e x ms k)
leads-task_store (Some err) x ms k = record { lists = refl }
leads-task_store None x ms k = record { lists = refl }

leads-task_q_post_to : (w : Waiting) (r : Request) (x h : ℕ) (k : Kernel) → Leads k (task_q_post_to w r x h k)
leads-task_q_post_to TaskQ r x h k = leads-woken (result_of (message (argument r 1) (argument r 2))) (fine 0) h (x ∷ []) k
leads-task_q_post_to _ r x h k =
    let t = task_at k x in
    leads-task_store (store_error (length t.messages) t.limit k.free) x (stored (has_bit (argument r 3) 1) (argument r 1, argument r 2) t.messages) k

leads-task_sem_pend_on : (n : ℕ) (r : Request) (x : ℕ) (k : Kernel) → Leads k (task_sem_pend_on n r x k)
leads-task_sem_pend_on zero r x k =
    let w = waits_for TaskSem [] (argument r 0) in
    leads-waits_unless k (argument r 1 == 1) (blocks_on k x w) (leads-blocks_on k x w)
leads-task_sem_pend_on (suc n) r x k = record { lists = refl }

leads-task_q_pend_on : (ms : List (ℕ × ℕ)) (r : Request) (x : ℕ) (k : Kernel) → Leads k (task_q_pend_on ms r x k)
leads-task_q_pend_on [] r x k =
    let w = waits_for TaskQ [] (argument r 0) in
    leads-waits_unless k (argument r 1 == 1) (blocks_on k x w) (leads-blocks_on k x w)
leads-task_q_pend_on (m ∷ ms) r x k = record { lists = refl }

leads-task_abort_of : (b : Bool) (x h : ℕ) (k : Kernel) → Leads k (task_abort_of b x h k)
leads-task_abort_of false x h k = record { lists = refl }
leads-task_abort_of true x h k = leads-woken (result_of (answer PendAbort 0)) (fine 1) h (x ∷ []) k

leads-task_abort : (waits : Waiting → Bool) (r : Request) (x h : ℕ) (k : Kernel) → Leads k (task_abort waits r x h k)
leads-task_abort waits r x h k =
    let y = named_task r x in
    choice (Leads k) (y == x) (refused k PendAbortSelf) (task_abort_of (waits (task_at k y).waiting) y h k) (leads-refused k PendAbortSelf) (leads-task_abort_of (waits (task_at k y).waiting) y h k)

-- several objects

polls-same : (os : List ℕ) (bs : List Block) (l : Lists) → changed_all (in_order (map (λ o. plain) os ++ bs) l) (whole l) ≡ changed_all (in_order bs l) (whole l)
polls-same [] bs l = refl
polls-same (o ∷ os) bs l = polls-same os bs l

leads-after_polls : (os : List ℕ) (k : Kernel) (e : Effect) → Leads k e → Leads k (after_polls os e)
leads-after_polls os k e h = record { lists = polls-same os e.blocks (lists_of k) ∙ h.lists }

lists-taken_from : (o : ℕ) (c : Content) (k : Kernel) → lists_of (taken_from o c k) ≡ lists_of k
lists-taken_from o (Count zero) k = refl
lists-taken_from o (Count (suc n)) k = refl
lists-taken_from o (Messages limit []) k = refl
lists-taken_from o (Messages limit (m ∷ ms)) k = refl
lists-taken_from o _ k = refl

lists-taken_all : (os : List ℕ) (k : Kernel) → lists_of (taken_all os k) ≡ lists_of k
lists-taken_all [] k = refl
lists-taken_all (o ∷ os) k = lists-taken_all os (taken_from o (object_at k o).content k) ∙ lists-taken_from o (object_at k o).content k

leads-multi_takes : (n : ℕ) (ps : List (Option (ℕ × ℕ))) (r : Request) (x : ℕ) (k : Kernel) → Leads k (multi_takes n ps r x k)
leads-multi_takes zero ps r x k =
    let w : Wait = record { waiting = Multi; objects = table_objects r; mask = 0; opt = 0; table = argument r 0; timeout = argument r 2 } in
    leads-waits_unless k (argument r 3 == 1) (blocks_on k x w) (leads-blocks_on k x w)
leads-multi_takes (suc n) ps r x k = record { lists = ap (λ l. whole l) (sym (lists-taken_all (table_objects r) k)) }

leads-multi_checked : (e : Option OsErr) (r : Request) (x : ℕ) (k : Kernel) → Leads k (multi_checked e r x k)
leads-multi_checked (Some err) r x k = record { lists = refl }
leads-multi_checked None r x k =
    let ps = polls (table_objects r) k in
    leads-after_polls (table_objects r) k (multi_takes (taken_count ps) ps r x k) (leads-multi_takes (taken_count ps) ps r x k)

-- tasks

does_left_ready : (b : Bool) (x p : ℕ) → Does (in_order (unready_blocks b x p)) (λ l. record { ready = left_ready b x p l.ready; pend = l.pend })
does_left_ready false x p = does_none
does_left_ready true x p = does_more (unready x p) [] _ (λ l. l) (does_unready x p) does_none

leads-suspends : (own : Bool) (x : ℕ) (k : Kernel) → Leads k (suspends own x k)
leads-suspends own x k = record { lists = does_left_ready (is_ready (task_at k x)) x (task_at k x).prio (lists_of k) }

leads-task_suspend : (r : Request) (x : ℕ) (k : Kernel) → Leads k (task_suspend r x k)
leads-task_suspend r x k =
    let y = named_task r x in
    choice (Leads k) ((y == x) && nat_lt 0 k.lock) (refused k SchedLocked) (if (task_at k y).suspended == 250 then refused k Depth else suspends (y == x) y k) (leads-refused k SchedLocked)
    (choice (Leads k) ((task_at k y).suspended == 250) (refused k Depth) (suspends (y == x) y k) (leads-refused k Depth) (leads-suspends (y == x) y k))

does_resumed : (b : Bool) (n x p h : ℕ) → Does (in_order (resumed_blocks b n x p h)) (λ l. record { ready = resumed_ready b n p h x l.ready; pend = l.pend })
does_resumed false n x p h = does_none
does_resumed true n x p h = does_ready_blocks n x p h

leads-resumes : (n x h : ℕ) (k : Kernel) → Leads k (resumes n x h k)
leads-resumes zero x h k = record { lists = refl }
leads-resumes (suc n) x h k = record { lists = does_resumed (waits_for_nothing (task_at k x).waiting) n x (task_at k x).prio h (lists_of k) }

leads-task_resume : (r : Request) (x h : ℕ) (k : Kernel) → Leads k (task_resume r x h k)
leads-task_resume r x h k =
    let y = named_task r x in
    choice (Leads k) (y == x) (refused k TaskResumeSelf) (resumes (task_at k y).suspended y h k) (leads-refused k TaskResumeSelf) (leads-resumes (task_at k y).suspended y h k)

pub leads-task_ends : (o : Outcome) (x : ℕ) (k : Kernel) → Leads k (task_ends o x k)
leads-task_ends o x k =
    let t = task_at k x in
    record { lists = does_append (unready_blocks (is_ready t) x t.prio) (leave_blocks x (waited_objects t)) _ (λ l. record { ready = l.ready; pend = left_all x (waited_objects t) l.pend }) (does_left_ready (is_ready t) x t.prio) (does_leaves x (waited_objects t)) (lists_of k) }

leads-task_del : (r : Request) (x : ℕ) (k : Kernel) → Leads k (task_del r x k)
leads-task_del r x k =
    let y = named_task r x in
    let o : Outcome = if y == x then Gone else answers (fine 0) in
    choice (Leads k) ((y == x) && nat_lt 0 k.lock) (refused k SchedLocked) (renewing at_tail (task_ends o y k)) (leads-refused k SchedLocked) (leads-renewing at_tail k (task_ends o y k) (leads-task_ends o y k))

leads-task_change_prio : (r : Request) (x : ℕ) (k : Kernel) → Leads k (task_change_prio r x k)
leads-task_change_prio r x k =
    let p = argument r 1 in
    let e = done (with_task k (named_task r x) (λ t. record t { base = p })) (fine 0) in
    choice (Leads k) (nat_le 1 p && nat_le p 62) (renewing at_tail e) (refused k PrioInvalid) (leads-renewing at_tail k e (record { lists = refl })) (leads-refused k PrioInvalid)

leads-sched_lock : (k : Kernel) → Leads k (sched_lock k)
leads-sched_lock k =
    choice (Leads k) (k.lock == 250) (refused k LockOverflow) (done (record k { lock = k.lock + 1 }) (fine (k.lock + 1))) (leads-refused k LockOverflow) (record { lists = refl })

leads-unlocks : (n : ℕ) (k : Kernel) → Leads k (unlocks n k)
leads-unlocks zero k = record { lists = refl }
leads-unlocks (suc n) k = record { lists = refl }

leads-sched_unlock : (x : ℕ) (k : Kernel) → Leads k (sched_unlock x k)
leads-sched_unlock x k =
    choice (Leads k) ((k.lock == 0) || ((k.lock == 1) && (x == timer_task))) (refused k SchedNotLocked) (unlocks (k.lock - 1) k) (leads-refused k SchedNotLocked) (leads-unlocks (k.lock - 1) k)

-- round robin

leads-rotates : (x p : ℕ) (k : Kernel) → Leads k (rotates x p k)
leads-rotates x p k =
    record {
      lists = does_more (unready x p) (readied_at at_tail x p ∷ []) _ (λ l. record { ready = joined at_tail x p l.ready; pend = l.pend }) (does_unready x p)
          (does_more (readied_at at_tail x p) [] _ (λ l. l) (does_readied_at at_tail x p) does_none) (lists_of k);
    }

leads-spends : (xs : List ℕ) (p : ℕ) (k : Kernel) → Leads k (spends xs p k)
leads-spends [] p k = record { lists = refl }
leads-spends (y ∷ []) p k = record { lists = refl }
leads-spends (y ∷ z ∷ zs) p k =
    let j = with_task k y (λ t. record t { quantum = t.quantum - 1 }) in
    choice (Leads k) ((task_at j y).quantum == 0) (rotates y p j) (done j (fine 0)) (record { lists = Leads.lists (leads-rotates y p j) }) (record { lists = refl })

pub leads-round_robin : (c : ℕ) (k : Kernel) → Leads k (round_robin c k)
leads-round_robin c k =
    choice (Leads k) (k.settings.round_robin && ((k.lock == 0) && not (first_in (list_at k.ready c) == idle_task))) (spends (list_at k.ready c) c k) (done k (fine 0))
    (leads-spends (list_at k.ready c) c k) (record { lists = refl })

leads-round_robin_yield : (x : ℕ) (k : Kernel) → Leads k (round_robin_yield x k)
leads-round_robin_yield x k =
    let alone = is_alone (list_at k.ready (prio_of k x)) in
    let last : Effect = if alone then refused k RoundRobinAlone else rotates x (prio_of k x) k in
    let rest : Effect = if not k.settings.round_robin then refused k RoundRobinDisabled else last in
    choice (Leads k) (not (k.lock == 0)) (refused k SchedLocked) rest (leads-refused k SchedLocked)
    (choice (Leads k) (not k.settings.round_robin) (refused k RoundRobinDisabled) last (leads-refused k RoundRobinDisabled)
    (choice (Leads k) alone (refused k RoundRobinAlone) (rotates x (prio_of k x) k) (leads-refused k RoundRobinAlone) (leads-rotates x (prio_of k x) k)))

-- time

leads-delays : (n x : ℕ) (k : Kernel) → Leads k (delays n x k)
leads-delays zero x k = record { lists = refl }
leads-delays (suc n) x k = leads-blocks_on k x (waits_for Delay [] (suc n))

leads-time_dly : (r : Request) (x : ℕ) (k : Kernel) → Leads k (time_dly r x k)
leads-time_dly r x k = choice (Leads k) (k.lock == 0) (delays (delay_of r k.ticks) x k) (refused k SchedLocked) (leads-delays (delay_of r k.ticks) x k) (leads-refused k SchedLocked)

leads-resumes_delayed : (w : Waiting) (x h : ℕ) (k : Kernel) → Leads k (resumes_delayed w x h k)
leads-resumes_delayed Delay x h k =
    leads-woken (result_of (fine 0)) (if is_zero (task_at k x).suspended then fine 0 else answer TaskSuspended 0) h (x ∷ []) k
leads-resumes_delayed _ x h k = record { lists = refl }

leads-signalled : (w : Waiting) (x h : ℕ) (k : Kernel) → Leads k (signalled w x h k)
leads-signalled Signal x h k =
    record { lists = does_more (readied x (prio_of k x) h) [] _ (λ l. l) (does_readied_at (join_place (prio_of k x) h) x (prio_of k x)) does_none (lists_of k) }
leads-signalled _ x h k = record { lists = refl }

pub leads-signals_tick : (h : ℕ) (k : Kernel) → Leads k (signals_tick h k)
leads-signals_tick h k =
    let j : Kernel = record k { tick_signals = k.tick_signals + 1 } in
    record { lists = Leads.lists (leads-signalled (task_at k tick_task).waiting tick_task h j) }

pub leads-signals_timer : (h : ℕ) (k : Kernel) → Leads k (signals_timer h k)
leads-signals_timer h k =
    let j : Kernel = record k { tick_calls = 0; timer_signals = k.timer_signals + 1 } in
    choice (Leads k) (nat_lt (k.tick_calls + 1) k.settings.tmr_div) (done (record k { tick_calls = k.tick_calls + 1 }) (fine 0)) (signalled (task_at k timer_task).waiting timer_task h j)
    (record { lists = refl }) (record { lists = Leads.lists (leads-signalled (task_at k timer_task).waiting timer_task h j) })

leads-time_tick : (c h : ℕ) (k : Kernel) → Leads k (time_tick c h k)
leads-time_tick c h k =
    let e = signals_tick h k in
    let f = and_then e (round_robin c) in
    leads-and_then k f (signals_timer h) (leads-and_then k e (round_robin c) (leads-signals_tick h k) (leads-round_robin c e.kernel)) (leads-signals_timer h f.kernel)

leads-waits_for_signal : (x : ℕ) (k : Kernel) (e : Effect) → Leads k e → Leads k (waits_for_signal x e)
leads-waits_for_signal x k e h =
    let j = e.kernel in
    let p = prio_of j x in
    record {
      lists = takes_to-append e.blocks (unready x p ∷ []) (lists_of k) (lists_of j) (record { ready = update_list j.ready p (without x); pend = j.pend }) h.lists
          (does_more (unready x p) [] _ (λ l. l) (does_unready x p) does_none (lists_of j));
    }

pub leads-ticked : (k : Kernel) → Leads k (ticked k)
leads-ticked k =
    let tick = (k.ticks + 1) % 2 ^ 32 in
    let j : Kernel = record k { ticks = tick; tick_signals = k.tick_signals - 1 } in
    let e = woken (λ t. timed_out t.waiting t) (fine 0) (prio_of k tick_task) (due tick k.matches) j in
    leads-renewing at_tail k (record { kernel = e.kernel; outcome = Quiet (Tick tick); blocks = e.blocks })
    (record { lists = Leads.lists (leads-woken (λ t. timed_out t.waiting t) (fine 0) (prio_of k tick_task) (due tick k.matches) j) })

pub leads-tick_unit : (k : Kernel) → Leads k (tick_unit k)
leads-tick_unit k =
    choice (Leads k) (k.tick_signals == 1) (waits_for_signal tick_task (ticked k)) (ticked k) (leads-waits_for_signal tick_task k (ticked k) (leads-ticked k)) (leads-ticked k)

-- timers

leads-tmr_stop_in : (s : TimerState) (t : Timer) (o : ℕ) (k : Kernel) → Leads k (tmr_stop_in s t o k)
leads-tmr_stop_in Running t o k = record { lists = refl }
leads-tmr_stop_in _ t o k = record { lists = refl }

leads-tmr_start : (c : Content) (r : Request) (k : Kernel) → Leads k (tmr_start c r k)
leads-tmr_start (Timed t) r k = record { lists = refl }
leads-tmr_start _ r k = record { lists = refl }

leads-tmr_stop : (c : Content) (r : Request) (k : Kernel) → Leads k (tmr_stop c r k)
leads-tmr_stop (Timed t) r k = leads-tmr_stop_in t.state t (argument r 0) k
leads-tmr_stop _ r k = record { lists = refl }

leads-tmr_remain_get : (c : Content) (r : Request) (k : Kernel) → Leads k (tmr_remain_get c r k)
leads-tmr_remain_get (Timed t) r k = record { lists = refl }
leads-tmr_remain_get _ r k = record { lists = refl }

leads-tmr_state_get : (c : Content) (k : Kernel) → Leads k (tmr_state_get c k)
leads-tmr_state_get (Timed t) k = record { lists = refl }
leads-tmr_state_get _ k = record { lists = refl }

leads-tmr_del : (c : Content) (r : Request) (k : Kernel) → Leads k (tmr_del c r k)
leads-tmr_del (Timed t) r k = record { lists = refl }
leads-tmr_del _ r k = record { lists = refl }

lists-fired : (o : ℕ) (c : Content) (k : Kernel) → lists_of (fired o c k) ≡ lists_of k
lists-fired o (Timed t) k = by_kind t.periodic
  where
    by_kind : (b : Bool) → lists_of (record (if b then runs o t t.period k else rests o t Completed k) { in_callback = has_callback t.callback }) ≡ lists_of k
    by_kind true = refl
    by_kind false = refl
lists-fired o _ k = refl

leads-timer_ends : (k : Kernel) → Leads k (timer_ends k)
leads-timer_ends k =
    let e : Effect = record { kernel = record k { lock = 0; processing = false }; outcome = Quiet TmrEnd; blocks = [] } in
    let h : Leads k e = record { lists = refl } in
    choice (Leads k) (k.timer_signals == 0) (waits_for_signal timer_task e) e (leads-waits_for_signal timer_task k e h) h

leads-timer_goes_on : (o : Option ℕ) (k : Kernel) → Leads k (timer_goes_on o k)
leads-timer_goes_on (Some o) k = record { lists = ap (λ l. whole l) (sym (lists-fired o (object_at k o).content k)) }
leads-timer_goes_on None k = leads-timer_ends k

pub leads-timer_unit : (k : Kernel) → Leads k (timer_unit k)
leads-timer_unit k =
    choice (Leads k) k.processing (timer_goes_on (due_timer k.timer_count k.timer_matches) k) (timer_counts k) (leads-timer_goes_on (due_timer k.timer_count k.timer_matches) k) (record { lists = refl })

-- all services and units

leads-perform : (s : Service) (call : Call) (k : Kernel) → Leads k (perform s call k)
leads-perform SemPost call k = leads-sem_post (content_for call.request k) call.request call.compared k
leads-perform QPost call k = leads-q_post (content_for call.request k) call.request call.compared k
leads-perform FlagPost call k = leads-flag_post (content_for call.request k) call.request call.compared k
leads-perform TaskSemPost call k = let y = named_task call.request call.caller in leads-task_sem_post_to (task_at k y).waiting y call.compared k
leads-perform TaskQPost call k = let y = named_task call.request call.caller in leads-task_q_post_to (task_at k y).waiting call.request y call.compared k
leads-perform TimeTick call k = leads-time_tick call.interrupted call.compared k
leads-perform SemPend call k = leads-sem_pend (content_for call.request k) call.request call.caller k
leads-perform QPend call k = leads-q_pend (content_for call.request k) call.request call.caller k
leads-perform FlagPend call k = leads-flag_pend (content_for call.request k) call.request call.caller k
leads-perform MutexPend call k = leads-mutex_pend (content_for call.request k) call.request call.caller k
leads-perform TaskSemPend call k = leads-task_sem_pend_on (task_at k call.caller).count call.request call.caller k
leads-perform TaskQPend call k = leads-task_q_pend_on (task_at k call.caller).messages call.request call.caller k
leads-perform PendMulti call k = leads-multi_checked (multi_error call.request k) call.request call.caller k
leads-perform MutexPost call k = leads-mutex_post (content_for call.request k) call.request call.caller call.compared k
leads-perform SemPendAbort call k = leads-aborts (chosen (argument call.request 1 == 1) (list_at k.pend (argument call.request 0))) call.compared k
leads-perform QPendAbort call k = leads-aborts (chosen (argument call.request 1 == 1) (list_at k.pend (argument call.request 0))) call.compared k
leads-perform FlagPendAbort call k = leads-aborts (chosen (argument call.request 1 == 1) (list_at k.pend (argument call.request 0))) call.compared k
leads-perform MutexPendAbort call k = leads-mutex_aborts (chosen (argument call.request 1 == 1) (list_at k.pend (argument call.request 0))) call.compared k
leads-perform TaskSemPendAbort call k = leads-task_abort waits_for_semaphore call.request call.caller call.compared k
leads-perform TaskQPendAbort call k = leads-task_abort waits_for_queue call.request call.caller call.compared k
leads-perform SemDel call k = leads-deletes (argument call.request 1 == 1) (list_at k.pend (argument call.request 0)) (argument call.request 0) call.compared k
leads-perform QDel call k = leads-deletes (argument call.request 1 == 1) (list_at k.pend (argument call.request 0)) (argument call.request 0) call.compared k
leads-perform FlagDel call k = leads-deletes (argument call.request 1 == 1) (list_at k.pend (argument call.request 0)) (argument call.request 0) call.compared k
leads-perform MutexDel call k = leads-mutex_deletes (argument call.request 1 == 1) (list_at k.pend (argument call.request 0)) (argument call.request 0) call.compared k
leads-perform TimeDly call k = leads-time_dly call.request call.caller k
leads-perform TimeDlyResume call k = let y = named_task call.request call.caller in leads-resumes_delayed (task_at k y).waiting y call.compared k
leads-perform TimeGet call k = record { lists = refl }
leads-perform TaskSuspend call k = leads-task_suspend call.request call.caller k
leads-perform TaskResume call k = leads-task_resume call.request call.caller call.compared k
leads-perform TaskDel call k = leads-task_del call.request call.caller k
leads-perform RoundRobinYield call k = leads-round_robin_yield call.caller k
leads-perform SchedLock call k = leads-sched_lock k
leads-perform SchedUnlock call k = leads-sched_unlock call.caller k
leads-perform TmrStart call k = leads-tmr_start (content_for call.request k) call.request k
leads-perform TmrStop call k = leads-tmr_stop (content_for call.request k) call.request k
leads-perform TmrRemainGet call k = leads-tmr_remain_get (content_for call.request k) call.request k
leads-perform TmrStateGet call k = leads-tmr_state_get (content_for call.request k) k
leads-perform TmrDel call k = leads-tmr_del (content_for call.request k) call.request k
leads-perform TaskChangePrio call k = leads-task_change_prio call.request call.caller k
leads-perform (Unknown number) call k = record { lists = refl }

leads-after_checks : (e : Option OsErr) (call : Call) (k : Kernel) → Leads k (after_checks e call k)
leads-after_checks (Some err) call k = record { lists = refl }
leads-after_checks None call k = leads-perform call.request.service call k

pub leads-effect : (served : Service → Bool) (call : Call) (k : Kernel) → Leads k (effect served call k)
leads-effect served call k =
    choice (Leads k) (served call.request.service) (after_checks (call_error call.request call.caller k) call k) (refused k CallUnknown) (leads-after_checks (call_error call.request call.caller k) call k) (leads-refused k CallUnknown)

pub leads-unit : (x : ℕ) (k : Kernel) → Leads k (unit_effect x k)
leads-unit x k = choice (Leads k) (x == tick_task) (tick_unit k) (timer_unit k) (leads-tick_unit k) (leads-timer_unit k)

-- at the last micro-step of a whole step the half-made lists are those of its effect
pub half-leads : (k : Kernel) (e : Effect) → Leads k e → half e k (cost e k) ≡ whole (lists_of e.kernel)
unfolding cost
half-leads k e h = ap (λ ms. changed_all ms (whole (lists_of k))) (take-length (blocks e k)) ∙ leads-whole k e h

pub half-effect : (served : Service → Bool) (call : Call) (k : Kernel) → half (effect served call k) k (cost (effect served call k) k) ≡ whole (lists_of (effect served call k).kernel)
half-effect served call k = half-leads k (effect served call k) (leads-effect served call k)

pub half-unit : (x : ℕ) (k : Kernel) → half (unit_effect x k) k (cost (unit_effect x k) k) ≡ whole (lists_of (unit_effect x k).kernel)
half-unit x k = half-leads k (unit_effect x k) (leads-unit x k)
