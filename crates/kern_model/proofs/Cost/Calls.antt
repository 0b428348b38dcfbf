-- Every service and unit takes at most 32,000 micro-steps, and without a renewal of priorities, but for a post of event flags, at
-- most 1,200.
use Rattle.kern_model.proofs.Common.{Call, ◌≡◌, ◌++◌, ℕ, suc, ◌<◌, ◌≤◌, ◌+◌, List, [], ◌∷◌, length, refl, sym, ap, subst, ◌∙◌, Bool, true, false, ◌&&◌, arith, inr, Option, Some, None, map, ◌==◌, ◌-◌, ◌^◌, ◌%◌, nat_lt, nat_le, if◌then◌else◌, cond, filter, Service, SemPost, QPost, FlagPost, TaskSemPost, TaskQPost, TimeTick, SemPend, QPend, FlagPend, MutexPend, TaskSemPend, TaskQPend, PendMulti, MutexPost, SemPendAbort, QPendAbort, FlagPendAbort, MutexPendAbort, TaskSemPendAbort, TaskQPendAbort, SemDel, QDel, FlagDel, MutexDel, TimeDly, TimeDlyResume, TimeGet, TaskSuspend, TaskResume, TaskDel, RoundRobinYield, SchedLock, SchedUnlock, TmrStart, TmrStop, TmrRemainGet, TmrStateGet, TmrDel, TaskChangePrio, Unknown, Request, OsErr, SchedLocked, CallUnknown, Depth, MutexOwner, MutexNotOwner, MutexNesting, PrioInvalid, Obj, Finished, Outcome, Gone, Quiet, Tick, TmrEnd, Kernel, Task, Timer, TimerState, Running, Content, Held, Timed, list_at, task_at, prio_of, with_content, with_task, is_ready, waits_for_nothing, tick_task, timer_task, Lists, after, in_order, lists_of, at_head, at_tail, Effect, refused, done, answer, answers, fine, woken, leave_blocks, result_of, chosen, waits_unless, blocks_on, waits_for, argument, named_task, call_error, renewing, waited_objects, effect, after_checks, perform, content_for, unit_effect, cost, renews, IsLinked, MayCall, Mutex, is_post, kinds_wanted, names_task, AllWait, unready, renew_blocks, wake_blocks, wakes_blocks, Block}
use Rattle.kern_model.specs.Semaphores.{sem_post, sem_pend}
use Rattle.kern_model.specs.Queues.{q_post, q_pend}
use Rattle.kern_model.specs.Flags.{flag_post, flag_pend}
use Rattle.kern_model.specs.Mutexes.{nests, mutex_pend, passes_to, released, mutex_post, mutex_aborts, mutex_deletes}
use Rattle.kern_model.specs.Waiters.{aborts, deletes}
use Rattle.kern_model.specs.TaskObjects.{task_sem_post_to, task_q_post_to, task_sem_pend_on, task_q_pend_on, task_abort, waits_for_semaphore, waits_for_queue}
use Rattle.kern_model.specs.Several.{multi_error, multi_checked}
use Rattle.kern_model.specs.Tasks.{unready_blocks, task_suspend, task_resume, task_ends, task_del, task_change_prio, sched_lock, sched_unlock}
use Rattle.kern_model.specs.RoundRobin.{round_robin_yield}
use Rattle.kern_model.specs.Time.{time_dly, resumes_delayed, time_tick, due, timed_out, waits_for_signal, ticked, tick_unit}
use Rattle.kern_model.specs.Timers.{tmr_start, tmr_stop_in, tmr_stop, tmr_remain_get, tmr_state_get, tmr_del, timer_counts, timer_ends, timer_goes_on, timer_unit, due_timer}
use Rattle.kern_model.proofs.Halves.Effects.{choice, Leads, leads-blocks_on, leads-woken}
use Rattle.kern_model.proofs.Basics.Choices.{choice_by, equal, at_most, and_first, and_second}
use Rattle.kern_model.proofs.Halves.Services.{leads-passes_to, leads-aborts, leads-deletes, leads-task_ends}
use Rattle.std.proofs.lemmas.Bool.{false≢true, true≢false}
use Rattle.kern_model.proofs.Linked.Counters.{linked-plain}
use Rattle.kern_model.proofs.Linked.Suspensions.{linked-task_ends}
use Rattle.kern_model.proofs.Linked.ObjectServices.{AllWait-chosen, linked-one_object, linked-passes_to, linked-aborts, linked-deletes}
use Rattle.kern_model.proofs.Linked.TaskServices.{tick_wakes, linked-tick_wakes}
use Rattle.kern_model.proofs.Linked.Calls.{checked_object, checked_task}
use Rattle.kern_model.proofs.Linked.Contents.{length-pend, length-matches, AllWait-pend}
use Rattle.kern_model.proofs.Cost.Blocks.{takes_leaves, length-in_order-append}
use Rattle.kern_model.proofs.Linked.Ticks.{signals, wakes_all-signals, wakes_blocks-signals, renew_blocks-signals}
use Rattle.kern_model.proofs.Linked.Renewals.{renew-le}
use Rattle.kern_model.proofs.Cost.Services.{Within, within-renewing_by, cost-within, within-more, within-woken, within-blocks_on, within-renewing, within-sem_post, within-sem_pend, within-q_post, within-q_pend, within-flag_post, within-flag_pend, within-aborts, within-deletes, within-task_sem_post_to, within-task_q_post_to, within-task_sem_pend_on, within-task_q_pend_on, within-task_abort, within-multi_checked, within-task_suspend, within-task_resume, within-sched_lock, within-sched_unlock, within-round_robin_yield, within-time_dly, within-resumes_delayed, within-time_tick, chosen-le}

-- rows that renew priorities

within-mutex_pend : (c : Content) (r : Request) (x : ℕ) (k : Kernel) → IsLinked k → MayCall x k → argument r 0 < length k.objects → Within 31942 k (mutex_pend c r x k)
within-mutex_pend (Held None nesting) r x k v m i = record { most = omega arith }
within-mutex_pend (Held (Some y) nesting) r x k v m i =
    let o = argument r 0 in
    let w = waits_for (Obj MutexPend) (o ∷ []) (argument r 1) in
    let e = blocks_on k x w in
    choice (Within 31942 k) (y == x) (nests o x nesting k) (waits_unless k (argument r 2 == 1) (renewing at_head e))
    (choice (Within 31942 k) (nesting == 250) (refused k Depth) (done (with_content k o (Held (Some x) (nesting + 1))) (answer MutexOwner (nesting + 1))) (record { most = omega arith }) (record { most = omega arith }))
    (by_lock (argument r 2 == 1) (λ l. within-more (562 + 30744) 31942 k (renewing at_head e) (omega arith) (within-renewing 562 at_head k e (leads-blocks_on k x w) (linked-one_object k v x m l MutexPend o (argument r 1) i) (within-blocks_on k v x w (omega arith)))))
  where
    by_lock : (b : Bool) → (k.lock ≡ 0 → Within 31942 k (renewing at_head (blocks_on k x (waits_for (Obj MutexPend) (argument r 0 ∷ []) (argument r 1))))) → Within 31942 k (waits_unless k b (renewing at_head (blocks_on k x (waits_for (Obj MutexPend) (argument r 0 ∷ []) (argument r 1)))))
    by_lock true h = record { most = omega arith }
    by_lock false h =
        choice_by (Within 31942 k) (k.lock == 0) (renewing at_head (blocks_on k x (waits_for (Obj MutexPend) (argument r 0 ∷ []) (argument r 1)))) (refused k SchedLocked) (λ s. h (equal k.lock 0 s)) (λ s. record { most = omega arith })
within-mutex_pend _ r x k v m i = record { most = omega arith }

within-passes_to : (xs : List ℕ) (o h : ℕ) (k : Kernel) → IsLinked k → Within 1140 k (passes_to xs o h k)
within-passes_to [] o h k v = record { most = omega arith }
within-passes_to (x ∷ xs) o h k v = record { most = Within.most (within-woken (result_of (fine 1)) (fine 0) h (x ∷ []) k v (omega arith)) }

within-released : (nesting : ℕ) (r : Request) (x h : ℕ) (k : Kernel) → IsLinked k → Within 31942 k (released nesting r x h k)
within-released nesting r x h k v =
    let o = argument r 0 in
    let xs = list_at k.pend o in
    let e = passes_to xs o h k in
    choice (Within 31942 k) (nat_lt 1 nesting) (done (with_content k o (Held (Some x) (nesting - 1))) (answer MutexNesting (nesting - 1))) (renewing at_tail e) (record { most = omega arith })
    (within-more (1140 + 30744) 31942 k (renewing at_tail e) (omega arith) (within-renewing 1140 at_tail k e (leads-passes_to xs o h k) (linked-passes_to xs o h k v (AllWait-pend k v o)) (within-passes_to xs o h k v)))

within-mutex_post : (c : Content) (r : Request) (x h : ℕ) (k : Kernel) → IsLinked k → Within 31942 k (mutex_post c r x h k)
within-mutex_post (Held None nesting) r x h k v = record { most = omega arith }
within-mutex_post (Held (Some y) nesting) r x h k v =
    choice (Within 31942 k) (y == x) (released nesting r x h k) (refused k MutexNotOwner) (within-released nesting r x h k v) (record { most = omega arith })
within-mutex_post _ r x h k v = record { most = omega arith }

within-mutex_aborts : (xs : List ℕ) (h : ℕ) (k : Kernel) → IsLinked k → AllWait k xs → length xs ≤ 60 → Within 31942 k (mutex_aborts xs h k)
within-mutex_aborts [] h k v w l = record { most = omega arith }
within-mutex_aborts (x ∷ xs) h k v w l =
    let e = aborts (x ∷ xs) h k in
    within-more (1140 + 30744) 31942 k (renewing at_tail e) (omega arith) (within-renewing 1140 at_tail k e (leads-aborts (x ∷ xs) h k) (linked-aborts (x ∷ xs) h k v w) (within-aborts (x ∷ xs) h k v l))

within-mutex_deletes : (all : Bool) (xs : List ℕ) (o h : ℕ) (k : Kernel) → IsLinked k → AllWait k xs → length xs ≤ 60 → Within 31942 k (mutex_deletes all xs o h k)
within-mutex_deletes false (x ∷ xs) o h k v w l = record { most = omega arith }
within-mutex_deletes false [] o h k v w l =
    let e = deletes false [] o h k in
    within-more (1140 + 30744) 31942 k (renewing at_tail e) (omega arith) (within-renewing 1140 at_tail k e (leads-deletes false [] o h k) (linked-deletes false [] o h k v w) (within-deletes false [] o h k v l))
within-mutex_deletes true xs o h k v w l =
    let e = deletes true xs o h k in
    within-more (1140 + 30744) 31942 k (renewing at_tail e) (omega arith) (within-renewing 1140 at_tail k e (leads-deletes true xs o h k) (linked-deletes true xs o h k v w) (within-deletes true xs o h k v l))

unready-le : (b : Bool) (x p : ℕ) (l : Lists) → length (in_order (unready_blocks b x p) l) ≤ 2
unready-le false x p l = omega arith
unready-le true x p l = omega arith

within-task_ends : (o : Outcome) (x : ℕ) (k : Kernel) → IsLinked k → Within 18 k (task_ends o x k)
within-task_ends o x k v =
    let t = task_at k x in
    let bs = unready_blocks (is_ready t) x t.prio in
    record { most = omega (arith, length-in_order-append bs (leave_blocks x (waited_objects t)) (lists_of k), unready-le (is_ready t) x t.prio (lists_of k), takes_leaves x (waited_objects t) (after (in_order bs (lists_of k)) (lists_of k)), few (waits_for_nothing t.waiting)) }
  where
    few : (b : Bool) → length (if b then [] else (task_at k x).objects) ≤ 8
    few true = omega arith
    few false = (v.tasks.each_task x).few

within-task_del : (r : Request) (x : ℕ) (k : Kernel) → IsLinked k → named_task r x < 60 → Within 31942 k (task_del r x k)
within-task_del r x k v l =
    let y = named_task r x in
    let o : Outcome = if y == x then Gone else answers (fine 0) in
    let e = task_ends o y k in
    choice (Within 31942 k) ((y == x) && nat_lt 0 k.lock) (refused k SchedLocked) (renewing at_tail e) (record { most = omega arith })
    (within-more (18 + 30744) 31942 k (renewing at_tail e) (omega arith) (within-renewing 18 at_tail k e (leads-task_ends o y k) (linked-task_ends k v y l o) (within-task_ends o y k v)))

within-task_change_prio : (r : Request) (x : ℕ) (k : Kernel) → IsLinked k → named_task r x < 60 → Within 31942 k (task_change_prio r x k)
within-task_change_prio r x k v l =
    let p = argument r 1 in
    let y = named_task r x in
    let e = done (with_task k y (λ t. record t { base = p })) (fine 0) in
    choice_by (Within 31942 k) (nat_le 1 p && nat_le p 62) (renewing at_tail e) (refused k PrioInvalid)
    (λ s. within-more (0 + 30744) 31942 k (renewing at_tail e) (omega arith) (within-renewing 0 at_tail k e (record { lists = refl })
    (linked-plain k y (λ t. record t { base = p }) (λ t. refl) (at_most 1 p (and_first (nat_le 1 p) (nat_le p 62) s)) (v.tasks.each_task y).count (inr (l, at_most p 62 (and_second (nat_le 1 p) (nat_le p 62) s))) v) (record { most = omega arith })))
    (λ s. record { most = omega arith })

-- the units

length-due : (tick : ℕ) (ms : List (ℕ × ℕ)) → length (due tick ms) ≤ length ms
length-due tick [] = omega arith
length-due tick (m ∷ ms) = by_case (m.1 == tick) (length-due tick ms)
  where
    by_case : (b : Bool) → length (due tick ms) ≤ length ms → length (map (λ m. m.0) (cond b (m ∷ filter (λ m. m.1 == tick) ms) (filter (λ m. m.1 == tick) ms))) ≤ suc (length ms)
    by_case true h = omega (arith, h)
    by_case false h = omega (arith, h)

within-ticked : (k : Kernel) → IsLinked k → Within 31884 k (ticked k)
within-ticked k v =
    let tick = (k.ticks + 1) % 2 ^ 32 in
    let i : Kernel = record k { ticks = tick } in
    let j = signals i (k.tick_signals - 1) in
    let xs = due tick k.matches in
    let h = prio_of k tick_task in
    let f : Task → Finished = λ t. timed_out t.waiting t in
    let e = woken f (fine 0) h xs j in
    let g : Effect = record { kernel = e.kernel; outcome = Quiet (Tick tick); blocks = e.blocks } in
    let few : length xs ≤ 60 = omega (arith, length-due tick k.matches, length-matches k v) in
    let renews : length (in_order (renew_blocks at_tail e.kernel) (lists_of e.kernel)) ≤ 30744 =
    subst (λ (t : Kernel). length (in_order (renew_blocks at_tail t) (lists_of t)) ≤ 30744) (sym (wakes_all-signals f h xs i (k.tick_signals - 1)))
    (subst (λ bs. length (in_order bs (lists_of (tick_wakes k))) ≤ 30744) (sym (renew_blocks-signals at_tail (tick_wakes k) (k.tick_signals - 1))) (renew-le at_tail (tick_wakes k) (linked-tick_wakes k v))) in
    let wakes : length (in_order (wakes_blocks j h xs) (lists_of k)) ≤ 1140 =
    subst (λ bs. length (in_order bs (lists_of k)) ≤ 1140) (sym (wakes_blocks-signals h xs i (k.tick_signals - 1) ∙ same_blocks h xs)) (Within.most (within-woken f (fine 0) h xs k v few)) in
    within-renewing_by 1140 at_tail k g (record { lists = Leads.lists (leads-woken f (fine 0) h xs j) }) renews (record { most = wakes })
  where
    same_blocks : (h : ℕ) (xs : List ℕ) → wakes_blocks (record k { ticks = (k.ticks + 1) % 2 ^ 32 }) h xs ≡ wakes_blocks k h xs
    same_blocks h [] = refl
    same_blocks h (x ∷ xs) = ap (λ (bs : List Block). wake_blocks k h x ++ bs) (same_blocks h xs)

within-waits_for_signal : (n x : ℕ) (k : Kernel) (e : Effect) → Within n k e → Within (n + 2) k (waits_for_signal x e)
within-waits_for_signal n x k e w =
    let p = prio_of e.kernel x in
    record { most = omega (arith, length-in_order-append e.blocks (unready x p ∷ []) (lists_of k), w.most) }

within-tick_unit : (k : Kernel) → IsLinked k → Within 31998 k (tick_unit k)
within-tick_unit k v =
    let t = within-ticked k v in
    choice (Within 31998 k) (k.tick_signals == 1) (waits_for_signal tick_task (ticked k)) (ticked k)
    (within-more (31884 + 2) 31998 k (waits_for_signal tick_task (ticked k)) (omega arith) (within-waits_for_signal 31884 tick_task k (ticked k) t))
    (within-more 31884 31998 k (ticked k) (omega arith) t)

within-timer_ends : (k : Kernel) → Within 31998 k (timer_ends k)
within-timer_ends k =
    let e : Effect = record { kernel = record k { lock = 0; processing = false }; outcome = Quiet TmrEnd; blocks = [] } in
    choice (Within 31998 k) (k.timer_signals == 0) (waits_for_signal timer_task e) e (record { most = omega arith }) (record { most = omega arith })

within-timer_goes_on : (o : Option ℕ) (k : Kernel) → Within 31998 k (timer_goes_on o k)
within-timer_goes_on (Some o) k = record { most = omega arith }
within-timer_goes_on None k = within-timer_ends k

within-timer_unit : (k : Kernel) → Within 31998 k (timer_unit k)
within-timer_unit k =
    choice (Within 31998 k) k.processing (timer_goes_on (due_timer k.timer_count k.timer_matches) k) (timer_counts k) (within-timer_goes_on (due_timer k.timer_count k.timer_matches) k) (record { most = omega arith })

within-tmr_stop_in : (s : TimerState) (t : Timer) (o : ℕ) (k : Kernel) → Within 1198 k (tmr_stop_in s t o k)
within-tmr_stop_in Running t o k = record { most = omega arith }
within-tmr_stop_in _ t o k = record { most = omega arith }

within-timer_row : (s : Service) (c : Content) (r : Request) (k : Kernel) → Within 1198 k (tmr_start c r k) × Within 1198 k (tmr_stop c r k) × Within 1198 k (tmr_remain_get c r k) × Within 1198 k (tmr_state_get c k) × Within 1198 k (tmr_del c r k)
within-timer_row s (Timed t) r k =
    (record { most = omega arith }, within-tmr_stop_in t.state t (argument r 0) k, record { most = omega arith }, record { most = omega arith }, record { most = omega arith })
within-timer_row s _ r k = (record { most = omega arith }, record { most = omega arith }, record { most = omega arith }, record { most = omega arith }, record { most = omega arith })

few-chosen : (k : Kernel) → IsLinked k → (r : Request) → length (chosen (argument r 1 == 1) (list_at k.pend (argument r 0))) ≤ 60
few-chosen k v r = omega (arith, chosen-le (argument r 1 == 1) (list_at k.pend (argument r 0)), length-pend k v (argument r 0))

-- A service that renews no priorities takes no more than so much, where a post of event flags does not.
pub quick-perform : (n : ℕ) (s : Service) (call : Call) (k : Kernel) → 1198 ≤ n → IsLinked k → Within n k (flag_post (content_for call.request k) call.request call.compared k) → renews s ≡ false → Within n k (perform s call k)
quick-perform n s call k least v flags q = by_service s q
  where
    up : (e : Effect) → Within 1198 k e → Within n k e
    up e w = within-more 1198 n k e least w

    up_woken : (e : Effect) → Within 1140 k e → Within n k e
    up_woken e w = within-more 1140 n k e (omega (arith, least)) w

    by_service : (s : Service) → renews s ≡ false → Within n k (perform s call k)
    by_service SemPost q = up (sem_post (content_for call.request k) call.request call.compared k) (within-sem_post (content_for call.request k) call.request call.compared k v)
    by_service QPost q = up (q_post (content_for call.request k) call.request call.compared k) (within-q_post (content_for call.request k) call.request call.compared k v)
    by_service FlagPost q = flags
    by_service TaskSemPost q = let y = named_task call.request call.caller in up (task_sem_post_to (task_at k y).waiting y call.compared k) (within-task_sem_post_to (task_at k y).waiting y call.compared k v)
    by_service TaskQPost q = let y = named_task call.request call.caller in up (task_q_post_to (task_at k y).waiting call.request y call.compared k) (within-task_q_post_to (task_at k y).waiting call.request y call.compared k v)
    by_service TimeTick q = up (time_tick call.interrupted call.compared k) (within-time_tick call.interrupted call.compared k)
    by_service SemPend q = up (sem_pend (content_for call.request k) call.request call.caller k) (within-sem_pend (content_for call.request k) call.request call.caller k v)
    by_service QPend q = up (q_pend (content_for call.request k) call.request call.caller k) (within-q_pend (content_for call.request k) call.request call.caller k v)
    by_service FlagPend q = up (flag_pend (content_for call.request k) call.request call.caller k) (within-flag_pend (content_for call.request k) call.request call.caller k v)
    by_service TaskSemPend q = up (task_sem_pend_on (task_at k call.caller).count call.request call.caller k) (within-task_sem_pend_on (task_at k call.caller).count call.request call.caller k v)
    by_service TaskQPend q = up (task_q_pend_on (task_at k call.caller).messages call.request call.caller k) (within-task_q_pend_on (task_at k call.caller).messages call.request call.caller k v)
    by_service PendMulti q = up (multi_checked (multi_error call.request k) call.request call.caller k) (within-multi_checked (multi_error call.request k) call.request call.caller k refl v)
    by_service SemPendAbort q = let xs = chosen (argument call.request 1 == 1) (list_at k.pend (argument call.request 0)) in up_woken (aborts xs call.compared k) (within-aborts xs call.compared k v (few-chosen k v call.request))
    by_service QPendAbort q = let xs = chosen (argument call.request 1 == 1) (list_at k.pend (argument call.request 0)) in up_woken (aborts xs call.compared k) (within-aborts xs call.compared k v (few-chosen k v call.request))
    by_service FlagPendAbort q = let xs = chosen (argument call.request 1 == 1) (list_at k.pend (argument call.request 0)) in up_woken (aborts xs call.compared k) (within-aborts xs call.compared k v (few-chosen k v call.request))
    by_service TaskSemPendAbort q = up (task_abort waits_for_semaphore call.request call.caller call.compared k) (within-task_abort waits_for_semaphore call.request call.caller call.compared k v)
    by_service TaskQPendAbort q = up (task_abort waits_for_queue call.request call.caller call.compared k) (within-task_abort waits_for_queue call.request call.caller call.compared k v)
    by_service SemDel q = let xs = list_at k.pend (argument call.request 0) in up_woken (deletes (argument call.request 1 == 1) xs (argument call.request 0) call.compared k) (within-deletes (argument call.request 1 == 1) xs (argument call.request 0) call.compared k v (length-pend k v (argument call.request 0)))
    by_service QDel q = let xs = list_at k.pend (argument call.request 0) in up_woken (deletes (argument call.request 1 == 1) xs (argument call.request 0) call.compared k) (within-deletes (argument call.request 1 == 1) xs (argument call.request 0) call.compared k v (length-pend k v (argument call.request 0)))
    by_service FlagDel q = let xs = list_at k.pend (argument call.request 0) in up_woken (deletes (argument call.request 1 == 1) xs (argument call.request 0) call.compared k) (within-deletes (argument call.request 1 == 1) xs (argument call.request 0) call.compared k v (length-pend k v (argument call.request 0)))
    by_service TimeDly q = up (time_dly call.request call.caller k) (within-time_dly call.request call.caller k v)
    by_service TimeDlyResume q = let y = named_task call.request call.caller in up (resumes_delayed (task_at k y).waiting y call.compared k) (within-resumes_delayed (task_at k y).waiting y call.compared k v)
    by_service TimeGet q = record { most = omega (arith, least) }
    by_service TaskSuspend q = up (task_suspend call.request call.caller k) (within-task_suspend call.request call.caller k)
    by_service TaskResume q = up (task_resume call.request call.caller call.compared k) (within-task_resume call.request call.caller call.compared k)
    by_service RoundRobinYield q = up (round_robin_yield call.caller k) (within-round_robin_yield call.caller k)
    by_service SchedLock q = up (sched_lock k) (within-sched_lock k)
    by_service SchedUnlock q = up (sched_unlock call.caller k) (within-sched_unlock call.caller k)
    by_service TmrStart q = up (tmr_start (content_for call.request k) call.request k) (within-timer_row TmrStart (content_for call.request k) call.request k).0
    by_service TmrStop q = up (tmr_stop (content_for call.request k) call.request k) (within-timer_row TmrStop (content_for call.request k) call.request k).1
    by_service TmrRemainGet q = up (tmr_remain_get (content_for call.request k) call.request k) (within-timer_row TmrRemainGet (content_for call.request k) call.request k).2
    by_service TmrStateGet q = up (tmr_state_get (content_for call.request k) k) (within-timer_row TmrStateGet (content_for call.request k) call.request k).3
    by_service TmrDel q = up (tmr_del (content_for call.request k) call.request k) (within-timer_row TmrDel (content_for call.request k) call.request k).4
    by_service (Unknown number) q = record { most = omega (arith, least) }
    by_service _ q = absurd (true≢false q)

slow-perform : (s : Service) (call : Call) (k : Kernel) → s ≡ call.request.service → call_error call.request call.caller k ≡ None → IsLinked k → (is_post s ≡ false → MayCall call.caller k) → renews s ≡ true → Within 31942 k (perform s call k)
slow-perform MutexPend call k e checked v m q = within-mutex_pend (content_for call.request k) call.request call.caller k v (m refl) (checked_object call.request call.caller k Mutex [] (ap kinds_wanted (sym e)) checked)
slow-perform MutexPost call k e checked v m q = within-mutex_post (content_for call.request k) call.request call.caller call.compared k v
slow-perform MutexPendAbort call k e checked v m q =
    let all = argument call.request 1 == 1 in
    let xs = list_at k.pend (argument call.request 0) in
    within-mutex_aborts (chosen all xs) call.compared k v (AllWait-chosen k all xs (AllWait-pend k v (argument call.request 0))) (few-chosen k v call.request)
slow-perform MutexDel call k e checked v m q =
    within-mutex_deletes (argument call.request 1 == 1) (list_at k.pend (argument call.request 0)) (argument call.request 0) call.compared k v (AllWait-pend k v (argument call.request 0)) (length-pend k v (argument call.request 0))
slow-perform TaskDel call k e checked v m q = within-task_del call.request call.caller k v (checked_task call.request call.caller k v.sizes.application (ap kinds_wanted (sym e)) (ap names_task (sym e)) checked).inside
slow-perform TaskChangePrio call k e checked v m q = within-task_change_prio call.request call.caller k v (checked_task call.request call.caller k v.sizes.application (ap kinds_wanted (sym e)) (ap names_task (sym e)) checked).inside
slow-perform _ call k e checked v m q = absurd (false≢true q)

within-perform : (b : Bool) (call : Call) (k : Kernel) → renews call.request.service ≡ b → call_error call.request call.caller k ≡ None → IsLinked k → (is_post call.request.service ≡ false → MayCall call.caller k) → Within 31998 k (perform call.request.service call k)
within-perform false call k q checked v m =
    within-more 1200 31998 k (perform call.request.service call k) (omega arith) (quick-perform 1200 call.request.service call k (omega arith) v (within-flag_post (content_for call.request k) call.request call.compared k v) q)
within-perform true call k q checked v m =
    within-more 31942 31998 k (perform call.request.service call k) (omega arith) (slow-perform call.request.service call k refl checked v m q)

within-after_checks : (a : Option OsErr) (call : Call) (k : Kernel) → call_error call.request call.caller k ≡ a → IsLinked k → (is_post call.request.service ≡ false → MayCall call.caller k) → Within 31998 k (after_checks a call k)
within-after_checks (Some err) call k e v m = record { most = omega arith }
within-after_checks None call k e v m = within-perform (renews call.request.service) call k refl e v m

-- A whole step of a call takes at most 32,000 micro-steps.
pub cost-effect-le : (served : Service → Bool) (call : Call) (k : Kernel) → IsLinked k → (is_post call.request.service ≡ false → MayCall call.caller k) → cost (effect served call k) k ≤ 32000
cost-effect-le served call k v m =
    omega (
      arith,
      cost-within 31998 k (effect served call k)
          (choice (Within 31998 k) (served call.request.service) (after_checks (call_error call.request call.caller k) call k) (refused k CallUnknown) (within-after_checks (call_error call.request call.caller k) call k refl v m) (record { most = omega arith })),
    )

-- A unit of an internal task takes at most 32,000.
pub cost-unit-le : (x : ℕ) (k : Kernel) → IsLinked k → cost (unit_effect x k) k ≤ 32000
cost-unit-le x k v =
    omega (arith, cost-within 31998 k (unit_effect x k) (choice (Within 31998 k) (x == tick_task) (tick_unit k) (timer_unit k) (within-tick_unit k v) (within-timer_unit k)))
