-- How far a service and a unit change the signals of the internal tasks: OSTimeTick adds one, a unit takes one, and no other
-- service changes them.
use Rattle.std.proofs.Common.{◌≡◌, ◌≤◌, arith, ℕ, zero, suc, List, [], ◌∷◌, refl, Bool, true, false, Option, Some, None, ap, sym, length}
use Rattle.std.proofs.lemmas.Bool.{false≢true}
use Rattle.std.specs.Prelude.{not, ◌%◌, if◌then◌else◌, ◌==◌, ◌&&◌, ◌||◌, ◌-◌, ◌+◌, ◌^◌, nat_lt}
use Rattle.kern_base.specs.declared.services.Service.{Service}
use Rattle.kern_base.specs.declared.services.Service.TheVariants.{SemPost, QPost, FlagPost, TaskSemPost, TaskQPost, SemPend, QPend, FlagPend, TaskSemPend, TaskQPend, SchedLock, SchedUnlock, TimeGet, TimeDly, TimeDlyResume, SemPendAbort, QPendAbort, FlagPendAbort, TaskSemPendAbort, TaskQPendAbort, SemDel, QDel, FlagDel, TaskSuspend, TaskResume, TimeTick, RoundRobinYield, TmrStart, TmrStop, TmrRemainGet, TmrStateGet, TmrDel}
use Rattle.kern_base.specs.declared.requests.Request.{Request}
use Rattle.kern_base.specs.declared.errors.OsErr.{OsErr}
use Rattle.kern_base.specs.declared.errors.OsErr.TheVariants.{SemOverflow, SchedLocked, SchedNotLocked, LockOverflow, ObjectDeleted, PendAbort, PendAbortSelf, CallUnknown, Depth, TaskResumeSelf, RoundRobinDisabled, RoundRobinAlone}
use Rattle.kern_base.specs.declared.outcomes.Waiting.{Waiting}
use Rattle.kern_base.specs.declared.outcomes.Waiting.TheVariants.{No, Delay, Obj, TaskSem, TaskQ, Multi, Signal}
use Rattle.kern_base.specs.declared.outcomes.Finished.{Finished}
use Rattle.kern_base.specs.declared.outcomes.Outcome.TheVariants.{Quiet}
use Rattle.kern_base.specs.declared.outcomes.UnitEnd.TheVariants.{TmrEnd}
use Rattle.kern_model.specs.Call.{Call}
use Rattle.kern_model.specs.State.{Kernel, Task, Content, Count, Messages, Bits, Held, Timed, Timer, TimerState, Stopped, Running, Completed, list_at, task_at, object_at, prio_of, with_content, with_task, nesting_limit, tick_task, timer_task, idle_task}
use Rattle.kern_model.specs.Micro.{at_tail}
use Rattle.kern_model.specs.Inherit.{moved, moved_all, moves_of, renewed_tasks}
use Rattle.kern_model.specs.RoundRobin.{first_in, is_alone, rotates, round_robin, round_robin_yield, spends}
use Rattle.kern_model.specs.Timers.{due_timer, fired, has_callback, rests, runs, timer_counts, timer_ends, timer_goes_on, timer_unit, tmr_del, tmr_remain_get, tmr_start, tmr_state_get, tmr_stop, tmr_stop_in}
use Rattle.kern_model.specs.Effect.{Effect, Wait, answer, refused, done, fine, message, wakes, wakes_all, posted_result, result_of, chosen, waits_unless, blocks_on, waits_for}
use Rattle.kern_model.specs.Checks.{argument, call_error, named_task}
use Rattle.kern_model.specs.FlagBits.{bits_after, ready_bits}
use Rattle.kern_model.specs.Flags.{flag_pend, flag_pend_on, flag_post, flag_wakes, flag_wakes_all}
use Rattle.kern_model.specs.Options.{aborts_all, deletes_always, does_not_wait, flags_do_not_wait, hands_to_all, stores_first}
use Rattle.kern_model.specs.Queues.{q_pend, q_post, q_post_to, store_error, store_in, stored}
use Rattle.kern_model.specs.TaskObjects.{task_abort, task_abort_of, waits_for_queue, waits_for_semaphore, task_q_pend_on, task_q_post_to, task_sem_pend_on, task_sem_post_to, task_store}
use Rattle.kern_model.specs.Semaphores.{sem_post_to, sem_post, sem_pend}
use Rattle.kern_model.specs.Tasks.{resumes, sched_lock, sched_unlock, suspends, task_resume, task_suspend, unlocks}
use Rattle.kern_model.specs.Time.{delay_of, delays, due, resumes_delayed, signalled, signals_tick, signals_timer, tick_unit, ticked, time_dly, time_tick, timed_out, waits_for_signal}
use Rattle.kern_model.specs.Waiters.{aborts, delete, deletes, pend_abort, without_object}
use Rattle.served.specs.Served.{program_serves}
use Rattle.kern_model.specs.Services.{effect, after_checks, perform, unit_effect}
use Rattle.kern_model.specs.Finish.{finished, finished_with}
use Rattle.kern_model.specs.Stop.{callback_ended, stopped}
use Rattle.kern_model.proofs.Lemmas.{choice}

-- the signals of the tick task and of the timer task are the same
record SameBehind (k j : Kernel) : Type 0 where
  tick_signals : j.tick_signals ≡ k.tick_signals
  timer_signals : j.timer_signals ≡ k.timer_signals

abbrev Keeps : Kernel → Effect → Type 0
Keeps k e = SameBehind k e.kernel

same : (k : Kernel) → SameBehind k k
same k = record { tick_signals = refl; timer_signals = refl }

-- a change of the tasks, objects, lists, matches, free messages, the lock and the work of the timer task
keeps-fields : (k j : Kernel) → record k { tasks = j.tasks; objects = j.objects; ready = j.ready; pend = j.pend; matches = j.matches; free = j.free; lock = j.lock; timer_matches = j.timer_matches; in_callback = j.in_callback; processing = j.processing } ≡ j → SameBehind k j
keeps-fields k j e =
    record {
      tick_signals = ap (λ (i : Kernel). i.tick_signals) (sym e);
      timer_signals = ap (λ (i : Kernel). i.timer_signals) (sym e);
    }

keeps-wakes_all : (f : Task → Finished) (h : ℕ) (xs : List ℕ) (k j : Kernel) → SameBehind k j → SameBehind k (wakes_all f h xs j)
keeps-wakes_all f h [] k j s = s
keeps-wakes_all f h (x ∷ xs) k j s =
    keeps-wakes_all f h xs k (wakes (f (task_at j x)) h x j)
    (record { tick_signals = s.tick_signals; timer_signals = s.timer_signals })

keeps-tail : (k : Kernel) (b : Bool) (e : Effect) → Keeps k e → Keeps k (waits_unless k b e)
keeps-tail k true e s = same k
keeps-tail k false e s = choice (Keeps k) (k.lock == 0) e (refused k SchedLocked) s (same k)

-- a semaphore

keeps-sem_post_to : (xs : List ℕ) (n o opt h : ℕ) (k : Kernel) → Keeps k (sem_post_to xs n o opt h k)
keeps-sem_post_to [] n o opt h k =
    choice (Keeps k) (n == 2 ^ 32 - 1) (refused k SemOverflow) (done (with_content k o (Count (n + 1))) (fine (n + 1))) (same k) (keeps-fields k (with_content k o (Count (n + 1))) refl)
keeps-sem_post_to (x ∷ xs) n o opt h k = keeps-wakes_all (posted_result o (fine 0)) h (chosen (opt == 2) (x ∷ xs)) k k (same k)

keeps-sem_post : (c : Content) (r : Request) (h : ℕ) (k : Kernel) → Keeps k (sem_post c r h k)
keeps-sem_post (Count n) r h k = keeps-sem_post_to (list_at k.pend (argument r 0)) n (argument r 0) (argument r 1) h k
keeps-sem_post (Messages limit ms) r h k = same k
keeps-sem_post (Bits bits) r h k = same k
keeps-sem_post (Held owner nesting) r h k = same k
keeps-sem_post (Timed t) r h k = same k

keeps-sem_pend : (c : Content) (r : Request) (x : ℕ) (k : Kernel) → Keeps k (sem_pend c r x k)
keeps-sem_pend (Count zero) r x k =
    let e = blocks_on k x (waits_for (Obj SemPend) (argument r 0 ∷ []) (argument r 1)) in
    keeps-tail k (argument r 2 == 1) e (keeps-fields k e.kernel refl)
keeps-sem_pend (Count (suc n)) r x k = keeps-fields k (with_content k (argument r 0) (Count n)) refl
keeps-sem_pend (Messages limit ms) r x k = same k
keeps-sem_pend (Bits bits) r x k = same k
keeps-sem_pend (Held owner nesting) r x k = same k
keeps-sem_pend (Timed t) r x k = same k

-- a queue

keeps-store_in : (e : Option OsErr) (o limit : ℕ) (ms : List (ℕ × ℕ)) (k : Kernel) → Keeps k (store_in e o limit ms k)
keeps-store_in (Some err) o limit ms k = same k
keeps-store_in None o limit ms k = keeps-fields k (store_in None o limit ms k).kernel refl

keeps-q_post_to : (xs : List ℕ) (limit : ℕ) (ms : List (ℕ × ℕ)) (r : Request) (h : ℕ) (k : Kernel) → Keeps k (q_post_to xs limit ms r h k)
keeps-q_post_to [] limit ms r h k =
    keeps-store_in (store_error (length ms) limit k.free) (argument r 0) limit (stored (stores_first (argument r 3)) (argument r 1, argument r 2) ms) k
keeps-q_post_to (x ∷ xs) limit ms r h k =
    keeps-wakes_all (posted_result (argument r 0) (message (argument r 1) (argument r 2))) h (chosen (hands_to_all (argument r 3)) (x ∷ xs)) k k (same k)

keeps-q_post : (c : Content) (r : Request) (h : ℕ) (k : Kernel) → Keeps k (q_post c r h k)
keeps-q_post (Messages limit ms) r h k = keeps-q_post_to (list_at k.pend (argument r 0)) limit ms r h k
keeps-q_post (Count n) r h k = same k
keeps-q_post (Bits bits) r h k = same k
keeps-q_post (Held owner nesting) r h k = same k
keeps-q_post (Timed t) r h k = same k

keeps-q_pend : (c : Content) (r : Request) (x : ℕ) (k : Kernel) → Keeps k (q_pend c r x k)
keeps-q_pend (Messages limit []) r x k =
    let e = blocks_on k x (waits_for (Obj QPend) (argument r 0 ∷ []) (argument r 1)) in
    keeps-tail k (does_not_wait (argument r 2)) e (keeps-fields k e.kernel refl)
keeps-q_pend (Messages limit (m ∷ ms)) r x k = keeps-fields k (q_pend (Messages limit (m ∷ ms)) r x k).kernel refl
keeps-q_pend (Count n) r x k = same k
keeps-q_pend (Bits bits) r x k = same k
keeps-q_pend (Held owner nesting) r x k = same k
keeps-q_pend (Timed t) r x k = same k

-- event flags

keeps-look : (ready : Option ℕ) (h x : ℕ) (k j : Kernel) → SameBehind k j → SameBehind k (flag_wakes ready h x j)
keeps-look None h x k j s = s
keeps-look (Some ready) h x k j s = record { tick_signals = s.tick_signals; timer_signals = s.timer_signals }

keeps-looks : (bits h : ℕ) (xs : List ℕ) (k j : Kernel) → SameBehind k j → SameBehind k (flag_wakes_all bits h xs j)
keeps-looks bits h [] k j s = s
keeps-looks bits h (x ∷ xs) k j s =
    let ready = ready_bits bits (task_at j x).mask (task_at j x).opt in
    keeps-looks bits h xs k (flag_wakes ready h x j) (keeps-look ready h x k j s)

keeps-flag_post : (c : Content) (r : Request) (h : ℕ) (k : Kernel) → Keeps k (flag_post c r h k)
keeps-flag_post (Bits bits) r h k =
    let new = bits_after bits (argument r 1) (argument r 2) in
    let j = with_content k (argument r 0) (Bits new) in
    keeps-looks new h (list_at k.pend (argument r 0)) k j (keeps-fields k j refl)
keeps-flag_post (Count n) r h k = same k
keeps-flag_post (Messages limit ms) r h k = same k
keeps-flag_post (Held owner nesting) r h k = same k
keeps-flag_post (Timed t) r h k = same k

keeps-flag_pend_on : (ready : Option ℕ) (bits : ℕ) (r : Request) (x : ℕ) (k : Kernel) → Keeps k (flag_pend_on ready bits r x k)
keeps-flag_pend_on None bits r x k =
    let w : Wait = record { waiting = Obj FlagPend; objects = argument r 0 ∷ []; mask = argument r 1; opt = argument r 3; table = 0; timeout = argument r 2 } in
    keeps-tail k (flags_do_not_wait (argument r 3)) (blocks_on k x w) (keeps-fields k (blocks_on k x w).kernel refl)
keeps-flag_pend_on (Some ready) bits r x k = keeps-fields k (flag_pend_on (Some ready) bits r x k).kernel refl

keeps-flag_pend : (c : Content) (r : Request) (x : ℕ) (k : Kernel) → Keeps k (flag_pend c r x k)
keeps-flag_pend (Bits bits) r x k = keeps-flag_pend_on (ready_bits bits (argument r 1) (argument r 3)) bits r x k
keeps-flag_pend (Count n) r x k = same k
keeps-flag_pend (Messages limit ms) r x k = same k
keeps-flag_pend (Held owner nesting) r x k = same k
keeps-flag_pend (Timed t) r x k = same k

-- a task's own semaphore and queue

keeps-task_sem_post_to : (w : Waiting) (y h : ℕ) (k : Kernel) → Keeps k (task_sem_post_to w y h k)
keeps-task_sem_post_to TaskSem y h k = keeps-wakes_all (result_of (fine 0)) h (y ∷ []) k k (same k)
keeps-task_sem_post_to _ y h k =
    let e = done (with_task k y (λ t. record t { count = (task_at k y).count + 1 })) (fine ((task_at k y).count + 1)) in
    choice (Keeps k) ((task_at k y).count == 2 ^ 32 - 1) (refused k SemOverflow) e (same k) (keeps-fields k e.kernel refl)

keeps-task_store : (e : Option OsErr) (y : ℕ) (ms : List (ℕ × ℕ)) (k : Kernel) → Keeps k (task_store e y ms k)
keeps-task_store (Some err) y ms k = same k
keeps-task_store None y ms k = keeps-fields k (task_store None y ms k).kernel refl

keeps-task_q_post_to : (w : Waiting) (r : Request) (y h : ℕ) (k : Kernel) → Keeps k (task_q_post_to w r y h k)
keeps-task_q_post_to TaskQ r y h k = keeps-wakes_all (result_of (message (argument r 1) (argument r 2))) h (y ∷ []) k k (same k)
keeps-task_q_post_to _ r y h k =
    let t = task_at k y in
    keeps-task_store (store_error (length t.messages) t.limit k.free) y (stored (stores_first (argument r 3)) (argument r 1, argument r 2) t.messages) k

keeps-task_sem_pend_on : (n : ℕ) (r : Request) (x : ℕ) (k : Kernel) → Keeps k (task_sem_pend_on n r x k)
keeps-task_sem_pend_on zero r x k =
    let e = blocks_on k x (waits_for TaskSem [] (argument r 0)) in
    keeps-tail k (does_not_wait (argument r 1)) e (keeps-fields k e.kernel refl)
keeps-task_sem_pend_on (suc n) r x k = keeps-fields k (task_sem_pend_on (suc n) r x k).kernel refl

keeps-task_q_pend_on : (ms : List (ℕ × ℕ)) (r : Request) (x : ℕ) (k : Kernel) → Keeps k (task_q_pend_on ms r x k)
keeps-task_q_pend_on [] r x k =
    let e = blocks_on k x (waits_for TaskQ [] (argument r 0)) in
    keeps-tail k (does_not_wait (argument r 1)) e (keeps-fields k e.kernel refl)
keeps-task_q_pend_on (m ∷ ms) r x k = keeps-fields k (task_q_pend_on (m ∷ ms) r x k).kernel refl

-- the scheduler

keeps-lock : (k : Kernel) → Keeps k (sched_lock k)
keeps-lock k =
    let e = done (record k { lock = k.lock + 1 }) (fine (k.lock + 1)) in
    choice (Keeps k) (k.lock == nesting_limit) (refused k LockOverflow) e (same k) (keeps-fields k e.kernel refl)

keeps-unlocks : (n : ℕ) (k : Kernel) → Keeps k (unlocks n k)
keeps-unlocks zero k = keeps-fields k (unlocks zero k).kernel refl
keeps-unlocks (suc n) k = keeps-fields k (unlocks (suc n) k).kernel refl

keeps-unlock : (x : ℕ) (k : Kernel) → Keeps k (sched_unlock x k)
keeps-unlock x k =
    choice (Keeps k) ((k.lock == 0) || ((k.lock == 1) && (x == timer_task))) (refused k SchedNotLocked) (unlocks (k.lock - 1) k) (same k) (keeps-unlocks (k.lock - 1) k)

keeps-delays : (n x : ℕ) (k : Kernel) → Keeps k (delays n x k)
keeps-delays zero x k = same k
keeps-delays (suc n) x k = keeps-fields k (delays (suc n) x k).kernel refl

keeps-delay : (r : Request) (x : ℕ) (k : Kernel) → Keeps k (time_dly r x k)
keeps-delay r x k = choice (Keeps k) (k.lock == 0) (delays (delay_of r k.ticks) x k) (refused k SchedLocked) (keeps-delays (delay_of r k.ticks) x k) (same k)

keeps-resume : (w : Waiting) (y h : ℕ) (k : Kernel) → Keeps k (resumes_delayed w y h k)
keeps-resume Delay y h k = keeps-wakes_all (result_of (fine 0)) h (y ∷ []) k k (same k)
keeps-resume _ y h k = same k

-- aborts

keeps-aborts : (xs : List ℕ) (h : ℕ) (k : Kernel) → Keeps k (aborts xs h k)
keeps-aborts [] h k = same k
keeps-aborts (x ∷ xs) h k = keeps-wakes_all (result_of (answer PendAbort 0)) h (x ∷ xs) k k (same k)

keeps-abort : (r : Request) (h : ℕ) (k : Kernel) → Keeps k (pend_abort r h k)
keeps-abort r h k = keeps-aborts (chosen (aborts_all (argument r 1)) (list_at k.pend (argument r 0))) h k

keeps-task_abort_of : (b : Bool) (y h : ℕ) (k : Kernel) → Keeps k (task_abort_of b y h k)
keeps-task_abort_of true y h k = keeps-wakes_all (result_of (answer PendAbort 0)) h (y ∷ []) k k (same k)
keeps-task_abort_of false y h k = same k

keeps-task_abort : (waits : Waiting → Bool) (r : Request) (x h : ℕ) (k : Kernel) → Keeps k (task_abort waits r x h k)
keeps-task_abort waits r x h k =
    let y = named_task r x in
    let e = task_abort_of (waits (task_at k y).waiting) y h k in
    choice (Keeps k) (y == x) (refused k PendAbortSelf) e (same k) (keeps-task_abort_of (waits (task_at k y).waiting) y h k)

-- deletions

keeps-gone : (o : ℕ) (k j : Kernel) → SameBehind k j → SameBehind k (without_object o j)
keeps-gone o k j s = record { tick_signals = s.tick_signals; timer_signals = s.timer_signals }

keeps-deletes : (all : Bool) (xs : List ℕ) (o h : ℕ) (k : Kernel) → Keeps k (deletes all xs o h k)
keeps-deletes false (x ∷ xs) o h k = same k
keeps-deletes false [] o h k = keeps-gone o k k (same k)
keeps-deletes true xs o h k =
    let f = result_of (answer ObjectDeleted 0) in keeps-gone o k (wakes_all f h xs k) (keeps-wakes_all f h xs k k (same k))

keeps-delete : (r : Request) (h : ℕ) (k : Kernel) → Keeps k (delete r h k)
keeps-delete r h k = keeps-deletes (deletes_always (argument r 1)) (list_at k.pend (argument r 0)) (argument r 0) h k

-- suspension

keeps-task_suspend : (r : Request) (x : ℕ) (k : Kernel) → Keeps k (task_suspend r x k)
keeps-task_suspend r x k =
    let y = named_task r x in
    let most = (task_at k y).suspended == nesting_limit in
    let e = suspends (y == x) y k in
    choice (Keeps k) ((y == x) && nat_lt 0 k.lock) (refused k SchedLocked) (if most then refused k Depth else e) (same k)
    (choice (Keeps k) most (refused k Depth) e (same k) (keeps-fields k e.kernel refl))

keeps-resumes : (n y h : ℕ) (k : Kernel) → Keeps k (resumes n y h k)
keeps-resumes zero y h k = same k
keeps-resumes (suc n) y h k = keeps-fields k (resumes (suc n) y h k).kernel refl

keeps-task_resume : (r : Request) (x h : ℕ) (k : Kernel) → Keeps k (task_resume r x h k)
keeps-task_resume r x h k =
    let y = named_task r x in
    let n = (task_at k y).suspended in
    choice (Keeps k) (y == x) (refused k TaskResumeSelf) (resumes n y h k) (same k) (keeps-resumes n y h k)

-- each of them

-- round robin

keeps-rotates : (x p : ℕ) (k : Kernel) → Keeps k (rotates x p k)
keeps-rotates x p k = keeps-fields k (rotates x p k).kernel refl

keeps-yield : (x : ℕ) (k : Kernel) → Keeps k (round_robin_yield x k)
keeps-yield x k =
    let p = prio_of k x in
    let alone = if is_alone (list_at k.ready p) then refused k RoundRobinAlone else rotates x p k in
    choice (Keeps k) (not (k.lock == 0)) (refused k SchedLocked) (if not k.settings.round_robin then refused k RoundRobinDisabled else alone) (same k)
    (choice (Keeps k) (not k.settings.round_robin) (refused k RoundRobinDisabled) alone (same k) (choice (Keeps k) (is_alone (list_at k.ready p)) (refused k RoundRobinAlone) (rotates x p k) (same k) (keeps-rotates x p k)))

keeps-spends : (xs : List ℕ) (p : ℕ) (k : Kernel) → Keeps k (spends xs p k)
keeps-spends [] p k = same k
keeps-spends (y ∷ []) p k = keeps-fields k (spends (y ∷ []) p k).kernel refl
keeps-spends (y ∷ z ∷ zs) p k =
    let j = with_task k y (λ t. record t { quantum = t.quantum - 1 }) in
    choice (Keeps k) ((task_at j y).quantum == 0) (rotates y p j) (done j (fine 0)) (keeps-fields k (rotates y p j).kernel refl) (keeps-fields k j refl)

keeps-round_robin : (p : ℕ) (k : Kernel) → Keeps k (round_robin p k)
keeps-round_robin p k =
    choice (Keeps k) (k.settings.round_robin && ((k.lock == 0) && not (first_in (list_at k.ready p) == idle_task))) (spends (list_at k.ready p) p k) (done k (fine 0)) (keeps-spends (list_at k.ready p) p k) (same k)

-- timers

keeps-tmr_start : (c : Content) (r : Request) (k : Kernel) → Keeps k (tmr_start c r k)
keeps-tmr_start (Timed t) r k = keeps-fields k (tmr_start (Timed t) r k).kernel refl
keeps-tmr_start (Count n) r k = same k
keeps-tmr_start (Messages limit ms) r k = same k
keeps-tmr_start (Bits bits) r k = same k
keeps-tmr_start (Held owner nesting) r k = same k

keeps-tmr_stop_in : (state : TimerState) (t : Timer) (o : ℕ) (k : Kernel) → Keeps k (tmr_stop_in state t o k)
keeps-tmr_stop_in Running t o k = keeps-fields k (tmr_stop_in Running t o k).kernel refl
keeps-tmr_stop_in Stopped t o k = same k
keeps-tmr_stop_in Completed t o k = same k

keeps-tmr_stop : (c : Content) (r : Request) (k : Kernel) → Keeps k (tmr_stop c r k)
keeps-tmr_stop (Timed t) r k = keeps-tmr_stop_in t.state t (argument r 0) k
keeps-tmr_stop (Count n) r k = same k
keeps-tmr_stop (Messages limit ms) r k = same k
keeps-tmr_stop (Bits bits) r k = same k
keeps-tmr_stop (Held owner nesting) r k = same k

keeps-tmr_remain_get : (c : Content) (r : Request) (k : Kernel) → Keeps k (tmr_remain_get c r k)
keeps-tmr_remain_get (Timed t) r k = same k
keeps-tmr_remain_get (Count n) r k = same k
keeps-tmr_remain_get (Messages limit ms) r k = same k
keeps-tmr_remain_get (Bits bits) r k = same k
keeps-tmr_remain_get (Held owner nesting) r k = same k

keeps-tmr_state_get : (c : Content) (k : Kernel) → Keeps k (tmr_state_get c k)
keeps-tmr_state_get (Timed t) k = same k
keeps-tmr_state_get (Count n) k = same k
keeps-tmr_state_get (Messages limit ms) k = same k
keeps-tmr_state_get (Bits bits) k = same k
keeps-tmr_state_get (Held owner nesting) k = same k

keeps-tmr_del : (c : Content) (r : Request) (k : Kernel) → Keeps k (tmr_del c r k)
keeps-tmr_del (Timed t) r k = keeps-fields k (tmr_del (Timed t) r k).kernel refl
keeps-tmr_del (Count n) r k = same k
keeps-tmr_del (Messages limit ms) r k = same k
keeps-tmr_del (Bits bits) r k = same k
keeps-tmr_del (Held owner nesting) r k = same k

-- One signal more at most.

pub record FewMore (k j : Kernel) : Type 0 where
  pub tick : j.tick_signals ≤ k.tick_signals + 1
  pub timer : j.timer_signals ≤ k.timer_signals + 1

abbrev Few : Kernel → Effect → Type 0
Few k e = FewMore k e.kernel

few-same : (k j : Kernel) → SameBehind k j → FewMore k j
few-same k j s = let a = s.tick_signals in let b = s.timer_signals in record { tick = omega (arith, a); timer = omega (arith, b) }

pub few-refl : (k : Kernel) → FewMore k k
few-refl k = few-same k k (same k)

-- OSTimeTick

keeps-signalled : (w : Waiting) (x h : ℕ) (k : Kernel) → Keeps k (signalled w x h k)
keeps-signalled Signal x h k = keeps-fields k (signalled Signal x h k).kernel refl
keeps-signalled _ x h k = same k

few-tick : (i h : ℕ) (k : Kernel) → Few k (time_tick i h k)
few-tick i h k =
    let a : Kernel = record k { tick_signals = k.tick_signals + 1 } in
    let b = (signals_tick h k).kernel in
    let c = (round_robin i b).kernel in
    let ab = keeps-signalled (task_at k tick_task).waiting tick_task h a in
    let bc = keeps-round_robin i b in
    let cd = few-timer c in
    let t1 = ab.tick_signals in let t2 = bc.tick_signals in let t3 = cd.0 in
    let u1 = ab.timer_signals in let u2 = bc.timer_signals in let u3 = cd.1 in
    record { tick = omega (arith, t1, t2, t3); timer = omega (arith, u1, u2, u3) }
  where
    few-timer : (j : Kernel) → ((signals_timer h j).kernel.tick_signals ≡ j.tick_signals) × ((signals_timer h j).kernel.timer_signals ≤ j.timer_signals + 1)
    few-timer j =
        let one : Kernel = record j { tick_calls = 0; timer_signals = j.timer_signals + 1 } in
        let w = (task_at j timer_task).waiting in
        let more = keeps-signalled w timer_task h one in
        let t = more.tick_signals in
        let u = more.timer_signals in
        choice (λ (e : Effect). (e.kernel.tick_signals ≡ j.tick_signals) × (e.kernel.timer_signals ≤ j.timer_signals + 1)) (nat_lt (j.tick_calls + 1) j.settings.tmr_div)
        (done (record j { tick_calls = j.tick_calls + 1 }) (fine 0)) (signalled w timer_task h one)
        (refl, omega arith) (t, omega (arith, u))

few-perform : (s : Service) (call : Call) (k : Kernel) → program_serves s ≡ true → Few k (perform s call k)
few-perform SemPost call k e = few-same k (perform SemPost call k).kernel (keeps-sem_post (object_at k (argument call.request 0)).content call.request call.compared k)
few-perform QPost call k e = few-same k (perform QPost call k).kernel (keeps-q_post (object_at k (argument call.request 0)).content call.request call.compared k)
few-perform FlagPost call k e = few-same k (perform FlagPost call k).kernel (keeps-flag_post (object_at k (argument call.request 0)).content call.request call.compared k)
few-perform TaskSemPost call k e = let y = named_task call.request call.caller in few-same k (perform TaskSemPost call k).kernel (keeps-task_sem_post_to (task_at k y).waiting y call.compared k)
few-perform TaskQPost call k e = let y = named_task call.request call.caller in few-same k (perform TaskQPost call k).kernel (keeps-task_q_post_to (task_at k y).waiting call.request y call.compared k)
few-perform SemPend call k e = few-same k (perform SemPend call k).kernel (keeps-sem_pend (object_at k (argument call.request 0)).content call.request call.caller k)
few-perform QPend call k e = few-same k (perform QPend call k).kernel (keeps-q_pend (object_at k (argument call.request 0)).content call.request call.caller k)
few-perform FlagPend call k e = few-same k (perform FlagPend call k).kernel (keeps-flag_pend (object_at k (argument call.request 0)).content call.request call.caller k)
few-perform TaskSemPend call k e = few-same k (perform TaskSemPend call k).kernel (keeps-task_sem_pend_on (task_at k call.caller).count call.request call.caller k)
few-perform TaskQPend call k e = few-same k (perform TaskQPend call k).kernel (keeps-task_q_pend_on (task_at k call.caller).messages call.request call.caller k)
few-perform SchedLock call k e = few-same k (perform SchedLock call k).kernel (keeps-lock k)
few-perform SchedUnlock call k e = few-same k (perform SchedUnlock call k).kernel (keeps-unlock call.caller k)
few-perform TimeGet call k e = few-same k (perform TimeGet call k).kernel (same k)
few-perform TimeDly call k e = few-same k (perform TimeDly call k).kernel (keeps-delay call.request call.caller k)
few-perform SemPendAbort call k e = few-same k (perform SemPendAbort call k).kernel (keeps-abort call.request call.compared k)
few-perform QPendAbort call k e = few-same k (perform QPendAbort call k).kernel (keeps-abort call.request call.compared k)
few-perform FlagPendAbort call k e = few-same k (perform FlagPendAbort call k).kernel (keeps-abort call.request call.compared k)
few-perform TaskSemPendAbort call k e = few-same k (perform TaskSemPendAbort call k).kernel (keeps-task_abort waits_for_semaphore call.request call.caller call.compared k)
few-perform TaskQPendAbort call k e = few-same k (perform TaskQPendAbort call k).kernel (keeps-task_abort waits_for_queue call.request call.caller call.compared k)
few-perform SemDel call k e = few-same k (perform SemDel call k).kernel (keeps-delete call.request call.compared k)
few-perform QDel call k e = few-same k (perform QDel call k).kernel (keeps-delete call.request call.compared k)
few-perform FlagDel call k e = few-same k (perform FlagDel call k).kernel (keeps-delete call.request call.compared k)
few-perform TimeDlyResume call k e = let y = named_task call.request call.caller in few-same k (perform TimeDlyResume call k).kernel (keeps-resume (task_at k y).waiting y call.compared k)
few-perform TaskSuspend call k e = few-same k (perform TaskSuspend call k).kernel (keeps-task_suspend call.request call.caller k)
few-perform TaskResume call k e = few-same k (perform TaskResume call k).kernel (keeps-task_resume call.request call.caller call.compared k)
few-perform TimeTick call k e = few-tick call.interrupted call.compared k
few-perform RoundRobinYield call k e = few-same k (perform RoundRobinYield call k).kernel (keeps-yield call.caller k)
few-perform TmrStart call k e = few-same k (perform TmrStart call k).kernel (keeps-tmr_start (object_at k (argument call.request 0)).content call.request k)
few-perform TmrStop call k e = few-same k (perform TmrStop call k).kernel (keeps-tmr_stop (object_at k (argument call.request 0)).content call.request k)
few-perform TmrRemainGet call k e = few-same k (perform TmrRemainGet call k).kernel (keeps-tmr_remain_get (object_at k (argument call.request 0)).content call.request k)
few-perform TmrStateGet call k e = few-same k (perform TmrStateGet call k).kernel (keeps-tmr_state_get (object_at k (argument call.request 0)).content k)
few-perform TmrDel call k e = few-same k (perform TmrDel call k).kernel (keeps-tmr_del (object_at k (argument call.request 0)).content call.request k)
few-perform _ call k e = absurd (false≢true e)

few-checked : (o : Option OsErr) (call : Call) (k : Kernel) → program_serves call.request.service ≡ true → Few k (after_checks o call k)
few-checked (Some err) call k e = few-refl k
few-checked None call k e = few-perform call.request.service call k e

few-served : (b : Bool) (call : Call) (k : Kernel) → program_serves call.request.service ≡ b → Few k (if b then after_checks (call_error call.request call.caller k) call k else refused k CallUnknown)
few-served true call k e = few-checked (call_error call.request call.caller k) call k e
few-served false call k e = few-refl k

-- a call
pub few-effect : (call : Call) (k : Kernel) → FewMore k (effect program_serves call k).kernel
few-effect call k = few-served (program_serves call.request.service) call k refl

-- Units.

keeps-moved_all : (place : List ℕ → ℕ) (ms : List (ℕ × ℕ)) (k j : Kernel) → SameBehind k j → SameBehind k (moved_all place ms j)
keeps-moved_all place [] k j s = s
keeps-moved_all place (m ∷ ms) k j s = keeps-moved_all place ms k (moved place m.0 m.1 j) (record { tick_signals = s.tick_signals; timer_signals = s.timer_signals })

few-ticked : (k : Kernel) → Few k (ticked k)
few-ticked k =
    let tick = (k.ticks + 1) % 2 ^ 32 in
    let j : Kernel = record k { ticks = tick; tick_signals = k.tick_signals - 1 } in
    let f = (λ (t : Task). timed_out t.waiting t) in
    let woken = wakes_all f (prio_of k tick_task) (due tick k.matches) j in
    let s = keeps-moved_all at_tail (moves_of renewed_tasks woken) j woken (keeps-wakes_all f (prio_of k tick_task) (due tick k.matches) j j (same j)) in
    let t = s.tick_signals in
    let u = s.timer_signals in
    record { tick = omega (arith, t); timer = omega (arith, u) }

few-waits : (x : ℕ) (k : Kernel) (e : Effect) → Few k e → Few k (waits_for_signal x e)
few-waits x k e f = record { tick = f.tick; timer = f.timer }

few-fired : (o : ℕ) (c : Content) (k : Kernel) → FewMore k (fired o c k)
few-fired o (Timed t) k =
    choice (λ (j : Kernel). FewMore k (record j { in_callback = has_callback t.callback })) t.periodic (runs o t t.period k) (rests o t Completed k)
    (few-same k (record (runs o t t.period k) { in_callback = has_callback t.callback }) (record { tick_signals = refl; timer_signals = refl }))
    (few-same k (record (rests o t Completed k) { in_callback = has_callback t.callback }) (record { tick_signals = refl; timer_signals = refl }))
few-fired o (Count n) k = few-refl k
few-fired o (Messages limit ms) k = few-refl k
few-fired o (Bits bits) k = few-refl k
few-fired o (Held owner nesting) k = few-refl k

few-ends : (k : Kernel) → Few k (timer_ends k)
few-ends k =
    let j : Kernel = record k { lock = 0; processing = false } in
    let e : Effect = record { kernel = j; outcome = Quiet TmrEnd; blocks = [] } in
    let f = few-same k j (record { tick_signals = refl; timer_signals = refl }) in
    choice (Few k) (k.timer_signals == 0) (waits_for_signal timer_task e) e (few-waits timer_task k e f) f

few-goes_on : (o : Option ℕ) (k : Kernel) → Few k (timer_goes_on o k)
few-goes_on (Some o) k = few-fired o (object_at k o).content k
few-goes_on None k = few-ends k

few-timer_unit : (k : Kernel) → Few k (timer_unit k)
few-timer_unit k =
    choice (Few k) k.processing (timer_goes_on (due_timer k.timer_count k.timer_matches) k) (timer_counts k) (few-goes_on (due_timer k.timer_count k.timer_matches) k)
    (record { tick = omega arith; timer = omega arith })

few-tick_unit : (k : Kernel) → Few k (tick_unit k)
few-tick_unit k = choice (Few k) (k.tick_signals == 1) (waits_for_signal tick_task (ticked k)) (ticked k) (few-waits tick_task k (ticked k) (few-ticked k)) (few-ticked k)

pub few-unit : (x : ℕ) (k : Kernel) → FewMore k (unit_effect x k).kernel
few-unit x k = choice (Few k) (x == tick_task) (tick_unit k) (timer_unit k) (few-tick_unit k) (few-timer_unit k)

-- A task that reads its result, a trap, and the end of a callback.

few-finished_with : (o : Option Finished) (x : ℕ) (k : Kernel) → FewMore k (finished_with o x k)
few-finished_with None x k = few-refl k
few-finished_with (Some f) x k = few-same k (finished_with (Some f) x k) (record { tick_signals = refl; timer_signals = refl })

pub few-finished : (x : ℕ) (k : Kernel) → FewMore k (finished x k)
few-finished x k = few-finished_with (task_at k x).answered x k

pub few-stopped : (x : ℕ) (k : Kernel) → FewMore k (stopped x k)
few-stopped x k = few-same k (stopped x k) (record { tick_signals = refl; timer_signals = refl })

pub few-callback_ended : (k : Kernel) → FewMore k (callback_ended k)
few-callback_ended k = few-same k (callback_ended k) (record { tick_signals = refl; timer_signals = refl })
