-- No service or unit loses or makes a message.
use Rattle.kern_model.proofs.Common.{Call, ◌≡◌, ℕ, zero, suc, ◌<◌, ◌+◌, List, [], ◌∷◌, length, get_or, refl, sym, ap, ◌∙◌, Bool, true, false, ◌&&◌, ◌||◌, not, arith, Option, Some, None, inl, inr, subst, ◌==◌, ◌-◌, ◌^◌, ◌%◌, nat_lt, nat_le, if◌then◌else◌, All, Request, OsErr, NoError, SchedLocked, Depth, TaskResumeSelf, PrioInvalid, LockOverflow, SchedNotLocked, RoundRobinDisabled, RoundRobinAlone, Waiting, No, Delay, Multi, Signal, Finished, Outcome, Gone, Quiet, Tick, TmrEnd, Kernel, Task, Object, Timer, TimerState, Stopped, Running, Completed, Content, Count, Messages, Bits, Timed, no_object, list_at, task_at, prio_of, object_at, with_task, tick_task, timer_task, idle_task, at_tail, Effect, Wait, refused, done, answers, fine, woken, result_of, chosen, blocks_on, waits_for, and_then, argument, named_task, renewing, Service, SemPost, QPost, FlagPost, TaskSemPost, TaskQPost, TimeTick, SemPend, QPend, FlagPend, MutexPend, TaskSemPend, TaskQPend, PendMulti, MutexPost, SemPendAbort, QPendAbort, FlagPendAbort, MutexPendAbort, TaskSemPendAbort, TaskQPendAbort, SemDel, QDel, FlagDel, MutexDel, TimeDly, TimeDlyResume, TimeGet, TaskSuspend, TaskResume, TaskDel, RoundRobinYield, SchedLock, SchedUnlock, TmrStart, TmrStop, TmrRemainGet, TmrStateGet, TmrDel, TaskChangePrio, Unknown, Sem, Queue, Flags, Mutex, CallUnknown, is_post, kinds_wanted, names_task, call_error, effect, after_checks, perform, content_for, unit_effect, IsLinked, MayCall}
use Rattle.std.proofs.lemmas.List.Elements.{All-head, All-tail}
use Rattle.std.proofs.lemmas.List.{length-set}
use Rattle.kern_model.specs.Waiters.{messages_in}
use Rattle.kern_model.specs.Pool.{object_messages, task_messages, pool_of}
use Rattle.kern_model.proofs.Halves.Effects.{choice}
use Rattle.kern_model.specs.TaskObjects.{waits_for_semaphore, waits_for_queue}
use Rattle.kern_model.specs.Several.{multi_error, multi_checked, multi_takes, table_objects, polls, taken_from, taken_all, taken_count}
use Rattle.kern_model.specs.Tasks.{suspended_task, suspends, task_suspend, resumes, task_resume, deleted_task, task_ends, task_del, task_change_prio, sched_lock, unlocks, sched_unlock}
use Rattle.kern_model.specs.RoundRobin.{first_in, full_quantum, rotates, spends, round_robin, is_alone, round_robin_yield}
use Rattle.kern_model.specs.Time.{delays, delay_of, time_dly, resumes_delayed, signalled, signals_tick, signals_timer, time_tick, due, timed_out, waits_for_signal, ticked, tick_unit}
use Rattle.kern_model.specs.Timers.{runs, rests, tmr_start, tmr_stop_in, tmr_stop, tmr_remain_get, tmr_state_get, tmr_del, timer_counts, fired, timer_ends, timer_goes_on, timer_unit, due_timer, has_callback, start_delay}
use Rattle.kern_model.specs.Finish.{finished, finished_with, flags_consumed, consumed_in, consumed_object, consumed_content}
use Rattle.kern_model.specs.Stop.{stopped}
use Rattle.kern_model.proofs.Linked.TaskServices.{TableHolds, table_holds}
use Rattle.kern_model.proofs.Linked.Calls.{checked_object, checked_task}
use Rattle.kern_model.proofs.Messages.Services.{objects-same, objects-set, tasks-same, tasks-set, PoolStays, pool-content, pool-task, pool-wakes_all, pool-blocked, pool-waits_unless, pool-renewing, pool-sem_post, pool-sem_pend, pool-q_post, pool-q_pend, pool-flag_post, pool-flag_pend, pool-mutex_pend, pool-mutex_post, pool-aborts, pool-mutex_aborts, pool-deletes, pool-mutex_deletes, pool-task_sem_post_to, pool-task_q_post_to, pool-task_sem_pend_on, pool-task_q_pend_on, pool-task_abort}

-- several objects

pool-taken_from : (o : ℕ) (c : Content) (k : Kernel) → (object_at k o).content ≡ c → o < length k.objects → pool_of (taken_from o c k) ≡ pool_of k
pool-taken_from o (Count zero) k e i = refl
pool-taken_from o (Count (suc n)) k e i = pool-content k o (Count n) (sym (ap messages_in e))
pool-taken_from o (Messages limit []) k e i = refl
pool-taken_from o (Messages limit (m ∷ ms)) k e i =
    omega (arith, objects-set (λ b. record b { content = Messages limit ms }) k.objects o i, ap messages_in e)
pool-taken_from o _ k e i = refl

length-taken_from : (o : ℕ) (c : Content) (k : Kernel) → length (taken_from o c k).objects ≡ length k.objects
length-taken_from o (Count zero) k = refl
length-taken_from o (Count (suc n)) k = length-set k.objects o _
length-taken_from o (Messages limit []) k = refl
length-taken_from o (Messages limit (m ∷ ms)) k = length-set k.objects o _
length-taken_from o _ k = refl

pool-taken_all : (os : List ℕ) (k : Kernel) → All (λ o. o < length k.objects) os → pool_of (taken_all os k) ≡ pool_of k
pool-taken_all [] k h = refl
pool-taken_all (o ∷ os) k h =
    let c = (object_at k o).content in
    pool-taken_all os (taken_from o c k) (subst (λ n. All (λ i. i < n) os) (sym (length-taken_from o c k)) (All-tail (λ i. i < length k.objects) o os h))
    ∙ pool-taken_from o c k refl (All-head (λ i. i < length k.objects) o os h)

pool-multi_takes : (n : ℕ) (ps : List (Option (ℕ × ℕ))) (r : Request) (x : ℕ) (k : Kernel) → TableHolds r k → PoolStays k (multi_takes n ps r x k)
pool-multi_takes zero ps r x k t =
    let w : Wait = record { waiting = Multi; objects = table_objects r; mask = 0; opt = 0; table = argument r 0; timeout = argument r 2 } in
    pool-waits_unless k (argument r 3 == 1) (blocks_on k x w) (pool-blocked k x w)
pool-multi_takes (suc n) ps r x k t = pool-taken_all (table_objects r) k t.inside

pool-multi_checked : (e : Option OsErr) (r : Request) (x : ℕ) (k : Kernel) → multi_error r k ≡ e → PoolStays k (multi_checked e r x k)
pool-multi_checked (Some err) r x k e = refl
pool-multi_checked None r x k e =
    let ps = polls (table_objects r) k in
    pool-multi_takes (taken_count ps) ps r x k (table_holds r k e)

-- tasks

pool-task_suspend : (r : Request) (x : ℕ) (k : Kernel) → PoolStays k (task_suspend r x k)
pool-task_suspend r x k =
    let y = named_task r x in
    choice (PoolStays k) ((y == x) && nat_lt 0 k.lock) (refused k SchedLocked) (if (task_at k y).suspended == 250 then refused k Depth else suspends (y == x) y k) refl
    (choice (PoolStays k) ((task_at k y).suspended == 250) (refused k Depth) (suspends (y == x) y k) refl (pool-task k y (suspended_task (y == x)) (λ t. refl)))

pool-resumes : (n x h : ℕ) (k : Kernel) → PoolStays k (resumes n x h k)
pool-resumes zero x h k = refl
pool-resumes (suc n) x h k = pool-task k x (λ t. record t { suspended = n }) (λ t. refl)

pool-task_resume : (r : Request) (x h : ℕ) (k : Kernel) → PoolStays k (task_resume r x h k)
pool-task_resume r x h k =
    let y = named_task r x in
    choice (PoolStays k) (y == x) (refused k TaskResumeSelf) (resumes (task_at k y).suspended y h k) refl (pool-resumes (task_at k y).suspended y h k)

pool-task_ends : (o : Outcome) (x : ℕ) (k : Kernel) → x < length k.tasks → PoolStays k (task_ends o x k)
pool-task_ends o x k i = omega (arith, tasks-set deleted_task k.tasks x i)

pool-task_del : (r : Request) (x : ℕ) (k : Kernel) → named_task r x < length k.tasks → PoolStays k (task_del r x k)
pool-task_del r x k i =
    let y = named_task r x in
    let o : Outcome = if y == x then Gone else answers (fine 0) in
    choice (PoolStays k) ((y == x) && nat_lt 0 k.lock) (refused k SchedLocked) (renewing at_tail (task_ends o y k)) refl (pool-renewing at_tail k (task_ends o y k) (pool-task_ends o y k i))

pool-task_change_prio : (r : Request) (x : ℕ) (k : Kernel) → PoolStays k (task_change_prio r x k)
pool-task_change_prio r x k =
    let p = argument r 1 in
    let e = done (with_task k (named_task r x) (λ t. record t { base = p })) (fine 0) in
    choice (PoolStays k) (nat_le 1 p && nat_le p 62) (renewing at_tail e) (refused k PrioInvalid) (pool-renewing at_tail k e (pool-task k (named_task r x) (λ t. record t { base = p }) (λ t. refl))) refl

pool-sched_lock : (k : Kernel) → PoolStays k (sched_lock k)
pool-sched_lock k = choice (PoolStays k) (k.lock == 250) (refused k LockOverflow) (done (record k { lock = k.lock + 1 }) (fine (k.lock + 1))) refl refl

pool-unlocks : (n : ℕ) (k : Kernel) → PoolStays k (unlocks n k)
pool-unlocks zero k = refl
pool-unlocks (suc n) k = refl

pool-sched_unlock : (x : ℕ) (k : Kernel) → PoolStays k (sched_unlock x k)
pool-sched_unlock x k =
    choice (PoolStays k) ((k.lock == 0) || ((k.lock == 1) && (x == timer_task))) (refused k SchedNotLocked) (unlocks (k.lock - 1) k) refl (pool-unlocks (k.lock - 1) k)

-- round robin

pool-rotates : (x p : ℕ) (k : Kernel) → PoolStays k (rotates x p k)
pool-rotates x p k = pool-task k (first_in (list_at (rotates x p k).kernel.ready p)) full_quantum (λ t. refl)

pool-spends : (xs : List ℕ) (p : ℕ) (k : Kernel) → PoolStays k (spends xs p k)
pool-spends [] p k = refl
pool-spends (y ∷ []) p k = pool-task k y (λ t. record t { quantum = t.quantum - 1 }) (λ t. refl)
pool-spends (y ∷ z ∷ zs) p k =
    let j = with_task k y (λ t. record t { quantum = t.quantum - 1 }) in
    let first : pool_of j ≡ pool_of k = pool-task k y (λ t. record t { quantum = t.quantum - 1 }) (λ t. refl) in
    choice (PoolStays k) ((task_at j y).quantum == 0) (rotates y p j) (done j (fine 0)) (pool-rotates y p j ∙ first) first

pool-round_robin : (c : ℕ) (k : Kernel) → PoolStays k (round_robin c k)
pool-round_robin c k =
    choice (PoolStays k) (k.settings.round_robin && ((k.lock == 0) && not (first_in (list_at k.ready c) == idle_task))) (spends (list_at k.ready c) c k) (done k (fine 0)) (pool-spends (list_at k.ready c) c k) refl

pool-round_robin_yield : (x : ℕ) (k : Kernel) → PoolStays k (round_robin_yield x k)
pool-round_robin_yield x k =
    let alone = is_alone (list_at k.ready (prio_of k x)) in
    let last : Effect = if alone then refused k RoundRobinAlone else rotates x (prio_of k x) k in
    let rest : Effect = if not k.settings.round_robin then refused k RoundRobinDisabled else last in
    choice (PoolStays k) (not (k.lock == 0)) (refused k SchedLocked) rest refl
    (choice (PoolStays k) (not k.settings.round_robin) (refused k RoundRobinDisabled) last refl
    (choice (PoolStays k) alone (refused k RoundRobinAlone) (rotates x (prio_of k x) k) refl (pool-rotates x (prio_of k x) k)))

-- time

pool-delays : (n x : ℕ) (k : Kernel) → PoolStays k (delays n x k)
pool-delays zero x k = refl
pool-delays (suc n) x k = pool-blocked k x (waits_for Delay [] (suc n))

pool-time_dly : (r : Request) (x : ℕ) (k : Kernel) → PoolStays k (time_dly r x k)
pool-time_dly r x k = choice (PoolStays k) (k.lock == 0) (delays (delay_of r k.ticks) x k) (refused k SchedLocked) (pool-delays (delay_of r k.ticks) x k) refl

pool-resumes_delayed : (w : Waiting) (x h : ℕ) (k : Kernel) → PoolStays k (resumes_delayed w x h k)
pool-resumes_delayed Delay x h k = pool-wakes_all (result_of (fine 0)) h (x ∷ []) k
pool-resumes_delayed _ x h k = refl

pool-signalled : (w : Waiting) (x h : ℕ) (k : Kernel) → PoolStays k (signalled w x h k)
pool-signalled Signal x h k = pool-task k x (λ t. record t { waiting = No }) (λ t. refl)
pool-signalled _ x h k = refl

pool-signals_tick : (h : ℕ) (k : Kernel) → PoolStays k (signals_tick h k)
pool-signals_tick h k = pool-signalled (task_at k tick_task).waiting tick_task h (record k { tick_signals = k.tick_signals + 1 })

pool-signals_timer : (h : ℕ) (k : Kernel) → PoolStays k (signals_timer h k)
pool-signals_timer h k =
    let j : Kernel = record k { tick_calls = 0; timer_signals = k.timer_signals + 1 } in
    choice (PoolStays k) (nat_lt (k.tick_calls + 1) k.settings.tmr_div) (done (record k { tick_calls = k.tick_calls + 1 }) (fine 0)) (signalled (task_at k timer_task).waiting timer_task h j) refl
    (pool-signalled (task_at k timer_task).waiting timer_task h j)

pool-time_tick : (c h : ℕ) (k : Kernel) → PoolStays k (time_tick c h k)
pool-time_tick c h k =
    let e = signals_tick h k in
    let f = and_then e (round_robin c) in
    pool-signals_timer h f.kernel ∙ pool-round_robin c e.kernel ∙ pool-signals_tick h k

pool-waits_for_signal : (x : ℕ) (k : Kernel) (e : Effect) → PoolStays k e → PoolStays k (waits_for_signal x e)
pool-waits_for_signal x k e h = pool-task e.kernel x (λ t. record t { waiting = Signal }) (λ t. refl) ∙ h

pool-ticked : (k : Kernel) → PoolStays k (ticked k)
pool-ticked k =
    let tick = (k.ticks + 1) % 2 ^ 32 in
    let j : Kernel = record k { ticks = tick; tick_signals = k.tick_signals - 1 } in
    let xs = due tick k.matches in
    let e = woken (λ t. timed_out t.waiting t) (fine 0) (prio_of k tick_task) xs j in
    pool-renewing at_tail k (record { kernel = e.kernel; outcome = Quiet (Tick tick); blocks = e.blocks }) (pool-wakes_all (λ t. timed_out t.waiting t) (prio_of k tick_task) xs j)

pool-tick_unit : (k : Kernel) → PoolStays k (tick_unit k)
pool-tick_unit k = choice (PoolStays k) (k.tick_signals == 1) (waits_for_signal tick_task (ticked k)) (ticked k) (pool-waits_for_signal tick_task k (ticked k) (pool-ticked k)) (pool-ticked k)

-- timers

pool-runs : (o : ℕ) (t : Timer) (n : ℕ) (k : Kernel) → (object_at k o).content ≡ Timed t → pool_of (runs o t n k) ≡ pool_of k
pool-runs o t n k e = pool-content k o (Timed (record t { state = Running })) (sym (ap messages_in e))

pool-rests : (o : ℕ) (t : Timer) (s : TimerState) (k : Kernel) → (object_at k o).content ≡ Timed t → pool_of (rests o t s k) ≡ pool_of k
pool-rests o t s k e = pool-content k o (Timed (record t { state = s })) (sym (ap messages_in e))

pool-tmr_start : (c : Content) (r : Request) (k : Kernel) → (object_at k (argument r 0)).content ≡ c → PoolStays k (tmr_start c r k)
pool-tmr_start (Timed t) r k e = pool-runs (argument r 0) t (start_delay t) k e
pool-tmr_start _ r k e = refl

pool-tmr_stop_in : (s : TimerState) (t : Timer) (o : ℕ) (k : Kernel) → (object_at k o).content ≡ Timed t → PoolStays k (tmr_stop_in s t o k)
pool-tmr_stop_in Running t o k e = pool-rests o t Stopped k e
pool-tmr_stop_in _ t o k e = refl

pool-tmr_stop : (c : Content) (r : Request) (k : Kernel) → (object_at k (argument r 0)).content ≡ c → PoolStays k (tmr_stop c r k)
pool-tmr_stop (Timed t) r k e = pool-tmr_stop_in t.state t (argument r 0) k e
pool-tmr_stop _ r k e = refl

pool-tmr_remain_get : (c : Content) (r : Request) (k : Kernel) → PoolStays k (tmr_remain_get c r k)
pool-tmr_remain_get (Timed t) r k = refl
pool-tmr_remain_get _ r k = refl

pool-tmr_state_get : (c : Content) (k : Kernel) → PoolStays k (tmr_state_get c k)
pool-tmr_state_get (Timed t) k = refl
pool-tmr_state_get _ k = refl

pool-tmr_del : (c : Content) (r : Request) (k : Kernel) → (object_at k (argument r 0)).content ≡ c → PoolStays k (tmr_del c r k)
pool-tmr_del (Timed t) r k e =
    let o = argument r 0 in
    let j = rests o t Stopped k in
    ap (λ n. n + task_messages k.tasks + k.free) (objects-same (λ b. record b { deleted = true }) j.objects o refl) ∙ pool-rests o t Stopped k e
pool-tmr_del _ r k e = refl

pool-fired : (o : ℕ) (c : Content) (k : Kernel) → (object_at k o).content ≡ c → pool_of (fired o c k) ≡ pool_of k
pool-fired o (Timed t) k e = by_kind t.periodic
  where
    by_kind : (b : Bool) → pool_of (record (if b then runs o t t.period k else rests o t Completed k) { in_callback = has_callback t.callback }) ≡ pool_of k
    by_kind true = pool-runs o t t.period k e
    by_kind false = pool-rests o t Completed k e
pool-fired o _ k e = refl

pool-timer_ends : (k : Kernel) → PoolStays k (timer_ends k)
pool-timer_ends k =
    let e : Effect = record { kernel = record k { lock = 0; processing = false }; outcome = Quiet TmrEnd; blocks = [] } in
    choice (PoolStays k) (k.timer_signals == 0) (waits_for_signal timer_task e) e (pool-waits_for_signal timer_task k e refl) refl

pool-timer_goes_on : (o : Option ℕ) (k : Kernel) → PoolStays k (timer_goes_on o k)
pool-timer_goes_on (Some o) k = pool-fired o (object_at k o).content k refl
pool-timer_goes_on None k = pool-timer_ends k

pool-timer_unit : (k : Kernel) → PoolStays k (timer_unit k)
pool-timer_unit k =
    choice (PoolStays k) k.processing (timer_goes_on (due_timer k.timer_count k.timer_matches) k) (timer_counts k) (pool-timer_goes_on (due_timer k.timer_count k.timer_matches) k) refl

-- all services and units

in_tasks : (k : Kernel) → IsLinked k → (x : ℕ) → x < 60 → x < length k.tasks
in_tasks k v x l = omega (arith, v.sizes.tasks)

caller_in : (k : Kernel) → IsLinked k → (x : ℕ) → MayCall x k → x < length k.tasks
caller_in k v x (inl m) = in_tasks k v x m.0
caller_in k v x (inr m) = omega (arith, v.sizes.tasks, m.0)

pool-perform : (s : Service) (call : Call) (k : Kernel) → s ≡ call.request.service → call_error call.request call.caller k ≡ None → IsLinked k → (is_post s ≡ false → MayCall call.caller k) → PoolStays k (perform s call k)
pool-perform SemPost call k e checked v m = pool-sem_post (content_for call.request k) call.request call.compared k refl
pool-perform QPost call k e checked v m = pool-q_post (content_for call.request k) call.request call.compared k refl (checked_object call.request call.caller k Queue [] (ap kinds_wanted (sym e)) checked)
pool-perform FlagPost call k e checked v m = pool-flag_post (content_for call.request k) call.request call.compared k refl
pool-perform TaskSemPost call k e checked v m = let y = named_task call.request call.caller in pool-task_sem_post_to (task_at k y).waiting y call.compared k
pool-perform TaskQPost call k e checked v m =
    let y = named_task call.request call.caller in
    pool-task_q_post_to (task_at k y).waiting call.request y call.compared k (in_tasks k v y (checked_task call.request call.caller k v.sizes.application (ap kinds_wanted (sym e)) (ap names_task (sym e)) checked).inside)
pool-perform TimeTick call k e checked v m = pool-time_tick call.interrupted call.compared k
pool-perform SemPend call k e checked v m = pool-sem_pend (content_for call.request k) call.request call.caller k refl
pool-perform QPend call k e checked v m = pool-q_pend (content_for call.request k) call.request call.caller k refl (checked_object call.request call.caller k Queue [] (ap kinds_wanted (sym e)) checked)
pool-perform FlagPend call k e checked v m = pool-flag_pend (content_for call.request k) call.request call.caller k refl
pool-perform MutexPend call k e checked v m = pool-mutex_pend (content_for call.request k) call.request call.caller k refl
pool-perform TaskSemPend call k e checked v m = pool-task_sem_pend_on (task_at k call.caller).count call.request call.caller k
pool-perform TaskQPend call k e checked v m = pool-task_q_pend_on (task_at k call.caller).messages call.request call.caller k refl (caller_in k v call.caller (m refl))
pool-perform PendMulti call k e checked v m = pool-multi_checked (multi_error call.request k) call.request call.caller k refl
pool-perform MutexPost call k e checked v m = pool-mutex_post (content_for call.request k) call.request call.caller call.compared k refl
pool-perform SemPendAbort call k e checked v m = pool-aborts (chosen (argument call.request 1 == 1) (list_at k.pend (argument call.request 0))) call.compared k
pool-perform QPendAbort call k e checked v m = pool-aborts (chosen (argument call.request 1 == 1) (list_at k.pend (argument call.request 0))) call.compared k
pool-perform FlagPendAbort call k e checked v m = pool-aborts (chosen (argument call.request 1 == 1) (list_at k.pend (argument call.request 0))) call.compared k
pool-perform MutexPendAbort call k e checked v m = pool-mutex_aborts (chosen (argument call.request 1 == 1) (list_at k.pend (argument call.request 0))) call.compared k
pool-perform TaskSemPendAbort call k e checked v m = pool-task_abort waits_for_semaphore call.request call.caller call.compared k
pool-perform TaskQPendAbort call k e checked v m = pool-task_abort waits_for_queue call.request call.caller call.compared k
pool-perform SemDel call k e checked v m = pool-deletes (argument call.request 1 == 1) (list_at k.pend (argument call.request 0)) (argument call.request 0) call.compared k (checked_object call.request call.caller k Sem [] (ap kinds_wanted (sym e)) checked)
pool-perform QDel call k e checked v m = pool-deletes (argument call.request 1 == 1) (list_at k.pend (argument call.request 0)) (argument call.request 0) call.compared k (checked_object call.request call.caller k Queue [] (ap kinds_wanted (sym e)) checked)
pool-perform FlagDel call k e checked v m = pool-deletes (argument call.request 1 == 1) (list_at k.pend (argument call.request 0)) (argument call.request 0) call.compared k (checked_object call.request call.caller k Flags [] (ap kinds_wanted (sym e)) checked)
pool-perform MutexDel call k e checked v m = pool-mutex_deletes (argument call.request 1 == 1) (list_at k.pend (argument call.request 0)) (argument call.request 0) call.compared k (checked_object call.request call.caller k Mutex [] (ap kinds_wanted (sym e)) checked)
pool-perform TimeDly call k e checked v m = pool-time_dly call.request call.caller k
pool-perform TimeDlyResume call k e checked v m = let y = named_task call.request call.caller in pool-resumes_delayed (task_at k y).waiting y call.compared k
pool-perform TimeGet call k e checked v m = refl
pool-perform TaskSuspend call k e checked v m = pool-task_suspend call.request call.caller k
pool-perform TaskResume call k e checked v m = pool-task_resume call.request call.caller call.compared k
pool-perform TaskDel call k e checked v m = pool-task_del call.request call.caller k (in_tasks k v (named_task call.request call.caller) (checked_task call.request call.caller k v.sizes.application (ap kinds_wanted (sym e)) (ap names_task (sym e)) checked).inside)
pool-perform RoundRobinYield call k e checked v m = pool-round_robin_yield call.caller k
pool-perform SchedLock call k e checked v m = pool-sched_lock k
pool-perform SchedUnlock call k e checked v m = pool-sched_unlock call.caller k
pool-perform TmrStart call k e checked v m = pool-tmr_start (content_for call.request k) call.request k refl
pool-perform TmrStop call k e checked v m = pool-tmr_stop (content_for call.request k) call.request k refl
pool-perform TmrRemainGet call k e checked v m = pool-tmr_remain_get (content_for call.request k) call.request k
pool-perform TmrStateGet call k e checked v m = pool-tmr_state_get (content_for call.request k) k
pool-perform TmrDel call k e checked v m = pool-tmr_del (content_for call.request k) call.request k refl
pool-perform TaskChangePrio call k e checked v m = pool-task_change_prio call.request call.caller k
pool-perform (Unknown number) call k e checked v m = refl

pool-after_checks : (a : Option OsErr) (call : Call) (k : Kernel) → call_error call.request call.caller k ≡ a → IsLinked k → (is_post call.request.service ≡ false → MayCall call.caller k) → PoolStays k (after_checks a call k)
pool-after_checks (Some err) call k e v m = refl
pool-after_checks None call k e v m = pool-perform call.request.service call k refl e v m

-- Every call leaves the number of all messages as it was.
pub pool-effect : (served : Service → Bool) (call : Call) (k : Kernel) → IsLinked k → (is_post call.request.service ≡ false → MayCall call.caller k) → pool_of (effect served call k).kernel ≡ pool_of k
pool-effect served call k v m =
    choice (PoolStays k) (served call.request.service) (after_checks (call_error call.request call.caller k) call k) (refused k CallUnknown) (pool-after_checks (call_error call.request call.caller k) call k refl v m) refl

-- So does every unit, the end of a wait, and a trap.
pub pool-unit : (x : ℕ) (k : Kernel) → pool_of (unit_effect x k).kernel ≡ pool_of k
pool-unit x k = choice (PoolStays k) (x == tick_task) (tick_unit k) (timer_unit k) (pool-tick_unit k) (pool-timer_unit k)

messages-consumed : (ready opt : ℕ) (c : Content) → messages_in (consumed_content ready opt c) ≡ messages_in c
messages-consumed ready opt (Bits bits) = refl
messages-consumed ready opt _ = refl

objects-consumed : (t : Task) (ready : ℕ) (bs : List Object) (s : Service) (err : OsErr) → object_messages (flags_consumed s err t ready bs) ≡ object_messages bs
objects-consumed t ready bs FlagPend NoError = by_objects t.objects
  where
    one : (b : Object) (d : Bool) → messages_in (Object.content (if d then b else record b { content = consumed_content ready t.opt b.content })) ≡ messages_in b.content
    one b true = refl
    one b false = messages-consumed ready t.opt b.content

    by_objects : (os : List ℕ) → object_messages (consumed_in os ready t.opt bs) ≡ object_messages bs
    by_objects [] = refl
    by_objects (o ∷ os) = objects-same (consumed_object ready t.opt) bs o (one (get_or bs o no_object) (get_or bs o no_object).deleted)
objects-consumed t ready bs s err = refl

pool-finished_with : (a : Option Finished) (x : ℕ) (k : Kernel) → pool_of (finished_with a x k) ≡ pool_of k
pool-finished_with None x k = refl
pool-finished_with (Some f) x k =
    omega (arith, tasks-same (λ u. record u { answered = None }) (λ t. refl) k.tasks x, objects-consumed (task_at k x) f.answer.value k.objects f.service f.answer.err)

pub pool-finished : (x : ℕ) (k : Kernel) → pool_of (finished x k) ≡ pool_of k
pool-finished x k = pool-finished_with (task_at k x).answered x k

pub pool-stopped : (x : ℕ) (k : Kernel) → pool_of (stopped x k) ≡ pool_of k
pool-stopped x k = pool-task k x (λ t. record t { alive = false }) (λ t. refl)
