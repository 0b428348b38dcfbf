-- The services of tasks, of the lock, of time and of timers, and the units of the internal tasks keep the kinds of objects.
use Rattle.kern_model.proofs.Common.{◌≡◌, ℕ, zero, suc, ◌+◌, ◌^◌, ◌%◌, List, [], ◌∷◌, length, refl, ◌∙◌, Bool, true, false, ◌&&◌, ◌||◌, not, Option, Some, None, ◌==◌, ◌-◌, nat_lt, nat_le, if◌then◌else◌, Request, OsErr, SemOverflow, SchedLocked, Depth, TaskResumeSelf, PrioInvalid, LockOverflow, SchedNotLocked, RoundRobinDisabled, RoundRobinAlone, PendAbort, PendAbortSelf, Waiting, Delay, TaskSem, TaskQ, Signal, Outcome, Gone, Quiet, Tick, TmrEnd, Kernel, Timer, TimerState, Stopped, Running, Completed, Content, Timed, list_at, task_at, prio_of, object_at, with_task, kinds_of, tick_task, timer_task, idle_task, at_tail, Effect, refused, done, answer, answers, fine, message, woken, result_of, waits_for, and_then, argument, named_task, renewing}
use Rattle.kern_model.specs.Options.{stores_first, does_not_wait}
use Rattle.kern_model.specs.Queues.{stored, store_error}
use Rattle.kern_model.specs.TaskObjects.{task_counts_up, task_sem_post_to, task_store, task_q_post_to, task_sem_pend_on, task_q_pend_on, task_abort_of, task_abort}
use Rattle.kern_model.specs.Tasks.{suspends, task_suspend, resumes, task_resume, task_ends, task_del, task_change_prio, sched_lock, unlocks, sched_unlock}
use Rattle.kern_model.specs.RoundRobin.{first_in, rotates, spends, round_robin, is_alone, round_robin_yield}
use Rattle.kern_model.specs.Time.{delays, delay_of, time_dly, resumes_delayed, signalled, signals_tick, signals_timer, time_tick, due, timed_out, waits_for_signal, ticked, tick_unit}
use Rattle.kern_model.specs.Timers.{runs, rests, tmr_start, tmr_stop_in, tmr_stop, tmr_remain_get, tmr_state_get, tmr_del, timer_counts, fired, timer_ends, timer_goes_on, timer_unit, due_timer, has_callback}
use Rattle.kern_model.proofs.Halves.Effects.{choice}
use Rattle.kern_laws.proofs.ObjectKinds.Changes.{KindsStay, kinds-object, kinds-content, kinds-wakes_all, kinds-waits, kinds-renewing}

-- a task's own semaphore and queue

kinds-task_counts_up : (n x : ℕ) (k : Kernel) → KindsStay k (task_counts_up n x k)
kinds-task_counts_up n x k =
    choice (KindsStay k) (n == 2 ^ 32 - 1) (refused k SemOverflow) (done (with_task k x (λ t. record t { count = n + 1 })) (fine (n + 1))) refl refl

pub kinds-task_sem_post_to : (w : Waiting) (x h : ℕ) (k : Kernel) → KindsStay k (task_sem_post_to w x h k)
kinds-task_sem_post_to TaskSem x h k = kinds-wakes_all (result_of (fine 0)) h (x ∷ []) k
kinds-task_sem_post_to _ x h k = kinds-task_counts_up (task_at k x).count x k

kinds-task_store : (a : Option OsErr) (x : ℕ) (ms : List (ℕ × ℕ)) (k : Kernel) → KindsStay k (task_store a x ms k)
kinds-task_store (Some err) x ms k = refl
kinds-task_store None x ms k = refl

pub kinds-task_q_post_to : (w : Waiting) (r : Request) (x h : ℕ) (k : Kernel) → KindsStay k (task_q_post_to w r x h k)
kinds-task_q_post_to TaskQ r x h k = kinds-wakes_all (result_of (message (argument r 1) (argument r 2))) h (x ∷ []) k
kinds-task_q_post_to _ r x h k =
    let t = task_at k x in
    kinds-task_store (store_error (length t.messages) t.limit k.free) x (stored (stores_first (argument r 3)) (argument r 1, argument r 2) t.messages) k

pub kinds-task_sem_pend_on : (n : ℕ) (r : Request) (x : ℕ) (k : Kernel) → KindsStay k (task_sem_pend_on n r x k)
kinds-task_sem_pend_on zero r x k = kinds-waits k (does_not_wait (argument r 1)) x (waits_for TaskSem [] (argument r 0))
kinds-task_sem_pend_on (suc n) r x k = refl

pub kinds-task_q_pend_on : (ms : List (ℕ × ℕ)) (r : Request) (x : ℕ) (k : Kernel) → KindsStay k (task_q_pend_on ms r x k)
kinds-task_q_pend_on [] r x k = kinds-waits k (does_not_wait (argument r 1)) x (waits_for TaskQ [] (argument r 0))
kinds-task_q_pend_on (m ∷ ms) r x k = refl

kinds-task_abort_of : (b : Bool) (x h : ℕ) (k : Kernel) → KindsStay k (task_abort_of b x h k)
kinds-task_abort_of false x h k = refl
kinds-task_abort_of true x h k = kinds-wakes_all (result_of (answer PendAbort 0)) h (x ∷ []) k

pub kinds-task_abort : (waits : Waiting → Bool) (r : Request) (x h : ℕ) (k : Kernel) → KindsStay k (task_abort waits r x h k)
kinds-task_abort waits r x h k =
    let y = named_task r x in
    let found = waits (task_at k y).waiting in
    choice (KindsStay k) (y == x) (refused k PendAbortSelf) (task_abort_of found y h k) refl (kinds-task_abort_of found y h k)

-- tasks

pub kinds-task_suspend : (r : Request) (x : ℕ) (k : Kernel) → KindsStay k (task_suspend r x k)
kinds-task_suspend r x k =
    let y = named_task r x in
    choice (KindsStay k) ((y == x) && nat_lt 0 k.lock) (refused k SchedLocked) (if (task_at k y).suspended == 250 then refused k Depth else suspends (y == x) y k) refl
    (choice (KindsStay k) ((task_at k y).suspended == 250) (refused k Depth) (suspends (y == x) y k) refl refl)

kinds-resumes : (n x h : ℕ) (k : Kernel) → KindsStay k (resumes n x h k)
kinds-resumes zero x h k = refl
kinds-resumes (suc n) x h k = refl

pub kinds-task_resume : (r : Request) (x h : ℕ) (k : Kernel) → KindsStay k (task_resume r x h k)
kinds-task_resume r x h k =
    let y = named_task r x in
    choice (KindsStay k) (y == x) (refused k TaskResumeSelf) (resumes (task_at k y).suspended y h k) refl (kinds-resumes (task_at k y).suspended y h k)

pub kinds-task_del : (r : Request) (x : ℕ) (k : Kernel) → KindsStay k (task_del r x k)
kinds-task_del r x k =
    let y = named_task r x in
    let o : Outcome = if y == x then Gone else answers (fine 0) in
    choice (KindsStay k) ((y == x) && nat_lt 0 k.lock) (refused k SchedLocked) (renewing at_tail (task_ends o y k)) refl (kinds-renewing at_tail k (task_ends o y k) refl)

pub kinds-task_change_prio : (r : Request) (x : ℕ) (k : Kernel) → KindsStay k (task_change_prio r x k)
kinds-task_change_prio r x k =
    let p = argument r 1 in
    let e = done (with_task k (named_task r x) (λ t. record t { base = p })) (fine 0) in
    choice (KindsStay k) (nat_le 1 p && nat_le p 62) (renewing at_tail e) (refused k PrioInvalid) (kinds-renewing at_tail k e refl) refl

-- the lock

pub kinds-sched_lock : (k : Kernel) → KindsStay k (sched_lock k)
kinds-sched_lock k = choice (KindsStay k) (k.lock == 250) (refused k LockOverflow) (done (record k { lock = k.lock + 1 }) (fine (k.lock + 1))) refl refl

kinds-unlocks : (n : ℕ) (k : Kernel) → KindsStay k (unlocks n k)
kinds-unlocks zero k = refl
kinds-unlocks (suc n) k = refl

pub kinds-sched_unlock : (x : ℕ) (k : Kernel) → KindsStay k (sched_unlock x k)
kinds-sched_unlock x k =
    choice (KindsStay k) ((k.lock == 0) || ((k.lock == 1) && (x == timer_task))) (refused k SchedNotLocked) (unlocks (k.lock - 1) k) refl (kinds-unlocks (k.lock - 1) k)

-- round robin

kinds-spends : (xs : List ℕ) (p : ℕ) (k : Kernel) → KindsStay k (spends xs p k)
kinds-spends [] p k = refl
kinds-spends (y ∷ []) p k = refl
kinds-spends (y ∷ z ∷ zs) p k =
    let j = with_task k y (λ t. record t { quantum = t.quantum - 1 }) in
    choice (KindsStay k) ((task_at j y).quantum == 0) (rotates y p j) (done j (fine 0)) refl refl

kinds-round_robin : (c : ℕ) (k : Kernel) → KindsStay k (round_robin c k)
kinds-round_robin c k =
    let xs = list_at k.ready c in
    choice (KindsStay k) (k.settings.round_robin && ((k.lock == 0) && not (first_in xs == idle_task))) (spends xs c k) (done k (fine 0)) (kinds-spends xs c k) refl

pub kinds-round_robin_yield : (x : ℕ) (k : Kernel) → KindsStay k (round_robin_yield x k)
kinds-round_robin_yield x k =
    let p = prio_of k x in
    let alone = is_alone (list_at k.ready p) in
    let last : Effect = if alone then refused k RoundRobinAlone else rotates x p k in
    let rest : Effect = if not k.settings.round_robin then refused k RoundRobinDisabled else last in
    choice (KindsStay k) (not (k.lock == 0)) (refused k SchedLocked) rest refl
    (choice (KindsStay k) (not k.settings.round_robin) (refused k RoundRobinDisabled) last refl (choice (KindsStay k) alone (refused k RoundRobinAlone) (rotates x p k) refl refl))

-- time

kinds-delays : (n x : ℕ) (k : Kernel) → KindsStay k (delays n x k)
kinds-delays zero x k = refl
kinds-delays (suc n) x k = refl

pub kinds-time_dly : (r : Request) (x : ℕ) (k : Kernel) → KindsStay k (time_dly r x k)
kinds-time_dly r x k = choice (KindsStay k) (k.lock == 0) (delays (delay_of r k.ticks) x k) (refused k SchedLocked) (kinds-delays (delay_of r k.ticks) x k) refl

pub kinds-resumes_delayed : (w : Waiting) (x h : ℕ) (k : Kernel) → KindsStay k (resumes_delayed w x h k)
kinds-resumes_delayed Delay x h k = kinds-wakes_all (result_of (fine 0)) h (x ∷ []) k
kinds-resumes_delayed _ x h k = refl

kinds-signalled : (w : Waiting) (x h : ℕ) (k : Kernel) → KindsStay k (signalled w x h k)
kinds-signalled Signal x h k = refl
kinds-signalled _ x h k = refl

kinds-signals_tick : (h : ℕ) (k : Kernel) → KindsStay k (signals_tick h k)
kinds-signals_tick h k = kinds-signalled (task_at k tick_task).waiting tick_task h (record k { tick_signals = k.tick_signals + 1 })

kinds-signals_timer : (h : ℕ) (k : Kernel) → KindsStay k (signals_timer h k)
kinds-signals_timer h k =
    let i : Kernel = record k { tick_calls = k.tick_calls + 1 } in
    let j : Kernel = record k { tick_calls = 0; timer_signals = k.timer_signals + 1 } in
    let w = (task_at k timer_task).waiting in
    choice (KindsStay k) (nat_lt (k.tick_calls + 1) k.settings.tmr_div) (done i (fine 0)) (signalled w timer_task h j) refl (kinds-signalled w timer_task h j)

pub kinds-time_tick : (c h : ℕ) (k : Kernel) → KindsStay k (time_tick c h k)
kinds-time_tick c h k =
    let first = signals_tick h k in
    let second = and_then first (round_robin c) in
    kinds-signals_timer h second.kernel ∙ kinds-round_robin c first.kernel ∙ kinds-signals_tick h k

kinds-ticked : (k : Kernel) → KindsStay k (ticked k)
kinds-ticked k =
    let tick = (k.ticks + 1) % 2 ^ 32 in
    let j : Kernel = record k { ticks = tick; tick_signals = k.tick_signals - 1 } in
    let xs = due tick k.matches in
    let e = woken (λ t. timed_out t.waiting t) (fine 0) (prio_of k tick_task) xs j in
    kinds-renewing at_tail k (record { kernel = e.kernel; outcome = Quiet (Tick tick); blocks = e.blocks }) (kinds-wakes_all (λ t. timed_out t.waiting t) (prio_of k tick_task) xs j)

pub kinds-tick_unit : (k : Kernel) → KindsStay k (tick_unit k)
kinds-tick_unit k = choice (KindsStay k) (k.tick_signals == 1) (waits_for_signal tick_task (ticked k)) (ticked k) (kinds-ticked k) (kinds-ticked k)

-- timers

-- a timer in another state is one-shot or periodic as before
kinds-timed : (o : ℕ) (t : Timer) (state : TimerState) (k : Kernel) → (object_at k o).content ≡ Timed t → kinds_of (rests o t state k) ≡ kinds_of k
kinds-timed o t state k e = kinds-content k o (Timed t) (Timed (record t { state = state })) e refl

pub kinds-tmr_start : (c : Content) (r : Request) (k : Kernel) → (object_at k (argument r 0)).content ≡ c → KindsStay k (tmr_start c r k)
kinds-tmr_start (Timed t) r k e = kinds-timed (argument r 0) t Running k e
kinds-tmr_start _ r k e = refl

kinds-tmr_stop_in : (state : TimerState) (t : Timer) (o : ℕ) (k : Kernel) → (object_at k o).content ≡ Timed t → KindsStay k (tmr_stop_in state t o k)
kinds-tmr_stop_in Running t o k e = kinds-timed o t Stopped k e
kinds-tmr_stop_in _ t o k e = refl

pub kinds-tmr_stop : (c : Content) (r : Request) (k : Kernel) → (object_at k (argument r 0)).content ≡ c → KindsStay k (tmr_stop c r k)
kinds-tmr_stop (Timed t) r k e = kinds-tmr_stop_in t.state t (argument r 0) k e
kinds-tmr_stop _ r k e = refl

pub kinds-tmr_remain_get : (c : Content) (r : Request) (k : Kernel) → KindsStay k (tmr_remain_get c r k)
kinds-tmr_remain_get (Timed t) r k = refl
kinds-tmr_remain_get _ r k = refl

pub kinds-tmr_state_get : (c : Content) (k : Kernel) → KindsStay k (tmr_state_get c k)
kinds-tmr_state_get (Timed t) k = refl
kinds-tmr_state_get _ k = refl

pub kinds-tmr_del : (c : Content) (r : Request) (k : Kernel) → (object_at k (argument r 0)).content ≡ c → KindsStay k (tmr_del c r k)
kinds-tmr_del (Timed t) r k e =
    let o = argument r 0 in
    let j = rests o t Stopped k in
    kinds-object j o (record (object_at j o) { deleted = true }) refl ∙ kinds-timed o t Stopped k e
kinds-tmr_del _ r k e = refl

kinds-fired : (o : ℕ) (c : Content) (k : Kernel) → (object_at k o).content ≡ c → kinds_of (fired o c k) ≡ kinds_of k
kinds-fired o (Timed t) k e = by_kind t.periodic
  where
    by_kind : (b : Bool) → kinds_of (record (if b then runs o t t.period k else rests o t Completed k) { in_callback = has_callback t.callback }) ≡ kinds_of k
    by_kind true = kinds-timed o t Running k e
    by_kind false = kinds-timed o t Completed k e
kinds-fired o _ k e = refl

kinds-timer_ends : (k : Kernel) → KindsStay k (timer_ends k)
kinds-timer_ends k =
    let e : Effect = record { kernel = record k { lock = 0; processing = false }; outcome = Quiet TmrEnd; blocks = [] } in
    choice (KindsStay k) (k.timer_signals == 0) (waits_for_signal timer_task e) e refl refl

kinds-timer_goes_on : (a : Option ℕ) (k : Kernel) → KindsStay k (timer_goes_on a k)
kinds-timer_goes_on (Some o) k = kinds-fired o (object_at k o).content k refl
kinds-timer_goes_on None k = kinds-timer_ends k

pub kinds-timer_unit : (k : Kernel) → KindsStay k (timer_unit k)
kinds-timer_unit k =
    let a = due_timer k.timer_count k.timer_matches in
    choice (KindsStay k) k.processing (timer_goes_on a k) (timer_counts k) (kinds-timer_goes_on a k) refl
