-- No service that is served answers with a table.
use Rattle.std.specs.Prelude.{not, if◌then◌else◌, ◌==◌, ◌&&◌, ◌||◌, ◌-◌, ◌+◌, ◌^◌, nat_lt}
use Rattle.std.proofs.Common.{◌≡◌, ℕ, zero, suc, List, [], ◌∷◌, length, refl, Bool, true, false, Option, Some, None}
use Rattle.std.proofs.lemmas.Bool.{false≢true}
use Rattle.kern_base.specs.declared.services.Service.{Service}
use Rattle.kern_base.specs.declared.services.Service.TheVariants.{SemPost, QPost, FlagPost, TaskSemPost, TaskQPost, SemPend, QPend, FlagPend, TaskSemPend, TaskQPend, SchedLock, SchedUnlock, TimeGet, TimeDly, TimeDlyResume, SemPendAbort, QPendAbort, FlagPendAbort, TaskSemPendAbort, TaskQPendAbort, SemDel, QDel, FlagDel, TaskSuspend, TaskResume, TimeTick, RoundRobinYield, TmrStart, TmrStop, TmrRemainGet, TmrStateGet, TmrDel}
use Rattle.kern_base.specs.declared.requests.Request.{Request}
use Rattle.kern_base.specs.declared.errors.OsErr.{OsErr}
use Rattle.kern_base.specs.declared.errors.OsErr.TheVariants.{SemOverflow, SchedLocked, SchedNotLocked, LockOverflow, PendAbortSelf, CallUnknown, Depth, TaskResumeSelf, RoundRobinDisabled, RoundRobinAlone}
use Rattle.kern_base.specs.declared.outcomes.Waiting.{Waiting}
use Rattle.kern_base.specs.declared.outcomes.Waiting.TheVariants.{No, Delay, Obj, TaskSem, TaskQ, Multi, Signal}
use Rattle.kern_model.specs.Call.{Call}
use Rattle.kern_model.specs.RoundRobin.{is_alone, rotates, round_robin, round_robin_yield}
use Rattle.kern_model.specs.Timers.{tmr_del, tmr_remain_get, tmr_start, tmr_state_get, tmr_stop, tmr_stop_in}
use Rattle.kern_model.specs.State.{Kernel, Content, Count, Messages, Bits, Held, Timed, Timer, TimerState, Stopped, Running, Completed, prio_of, list_at, object_at, task_at, with_content, with_task, nesting_limit, timer_task}
use Rattle.kern_model.specs.Effect.{Effect, Wait, chosen, refused, done, fine, waits_unless, blocks_on, waits_for}
use Rattle.kern_model.specs.Checks.{argument, call_error, named_task}
use Rattle.kern_model.specs.FlagBits.{ready_bits}
use Rattle.kern_model.specs.Flags.{flag_pend, flag_pend_on, flag_post}
use Rattle.kern_model.specs.Options.{aborts_all, deletes_always, does_not_wait, flags_do_not_wait, stores_first}
use Rattle.kern_model.specs.Queues.{q_pend, q_post, q_post_to, store_error, store_in, stored}
use Rattle.kern_model.specs.TaskObjects.{task_abort, task_abort_of, waits_for_queue, waits_for_semaphore, task_q_pend_on, task_q_post_to, task_sem_pend_on, task_sem_post_to, task_store}
use Rattle.kern_model.specs.Semaphores.{sem_post_to, sem_post, sem_pend}
use Rattle.kern_model.specs.Tasks.{resumes, sched_lock, sched_unlock, suspends, task_resume, task_suspend, unlocks}
use Rattle.kern_model.specs.Time.{delay_of, delays, resumes_delayed, signalled, signals_tick, signals_timer, time_dly}
use Rattle.kern_model.specs.Waiters.{aborts, delete, deletes, pend_abort}
use Rattle.served.specs.Served.{program_serves}
use Rattle.kern_model.specs.Services.{effect, after_checks, perform}
use Rattle.kern_model.proofs.Lemmas.{choice}
use Rattle.machine_core.specs.AnswerView.{HasNoTable}

abbrev Plain : Effect → Type 0
Plain e = HasNoTable e.outcome

plain-tail : (k : Kernel) (b : Bool) (e : Effect) → Plain e → Plain (waits_unless k b e)
plain-tail k true e p = refl
plain-tail k false e p = choice Plain (k.lock == 0) e (refused k SchedLocked) p refl

plain-sem_post_to : (xs : List ℕ) (n o opt h : ℕ) (k : Kernel) → Plain (sem_post_to xs n o opt h k)
plain-sem_post_to [] n o opt h k = choice Plain (n == 2 ^ 32 - 1) (refused k SemOverflow) (done (with_content k o (Count (n + 1))) (fine (n + 1))) refl refl
plain-sem_post_to (x ∷ xs) n o opt h k = refl

plain-sem_post : (c : Content) (r : Request) (h : ℕ) (k : Kernel) → Plain (sem_post c r h k)
plain-sem_post (Count n) r h k = plain-sem_post_to (list_at k.pend (argument r 0)) n (argument r 0) (argument r 1) h k
plain-sem_post (Messages limit ms) r h k = refl
plain-sem_post (Bits bits) r h k = refl
plain-sem_post (Held owner nesting) r h k = refl
plain-sem_post (Timed t) r h k = refl

plain-sem_pend : (c : Content) (r : Request) (x : ℕ) (k : Kernel) → Plain (sem_pend c r x k)
plain-sem_pend (Count zero) r x k = plain-tail k (argument r 2 == 1) (blocks_on k x (waits_for (Obj SemPend) (argument r 0 ∷ []) (argument r 1))) tt
plain-sem_pend (Count (suc n)) r x k = refl
plain-sem_pend (Messages limit ms) r x k = refl
plain-sem_pend (Bits bits) r x k = refl
plain-sem_pend (Held owner nesting) r x k = refl
plain-sem_pend (Timed t) r x k = refl

-- a queue

plain-store_in : (e : Option OsErr) (o limit : ℕ) (ms : List (ℕ × ℕ)) (k : Kernel) → Plain (store_in e o limit ms k)
plain-store_in (Some err) o limit ms k = refl
plain-store_in None o limit ms k = refl

plain-q_post_to : (xs : List ℕ) (limit : ℕ) (ms : List (ℕ × ℕ)) (r : Request) (h : ℕ) (k : Kernel) → Plain (q_post_to xs limit ms r h k)
plain-q_post_to [] limit ms r h k =
    plain-store_in (store_error (length ms) limit k.free) (argument r 0) limit (stored (stores_first (argument r 3)) (argument r 1, argument r 2) ms) k
plain-q_post_to (x ∷ xs) limit ms r h k = refl

plain-q_post : (c : Content) (r : Request) (h : ℕ) (k : Kernel) → Plain (q_post c r h k)
plain-q_post (Messages limit ms) r h k = plain-q_post_to (list_at k.pend (argument r 0)) limit ms r h k
plain-q_post (Count n) r h k = refl
plain-q_post (Bits bits) r h k = refl
plain-q_post (Held owner nesting) r h k = refl
plain-q_post (Timed t) r h k = refl

plain-q_pend : (c : Content) (r : Request) (x : ℕ) (k : Kernel) → Plain (q_pend c r x k)
plain-q_pend (Messages limit []) r x k = plain-tail k (does_not_wait (argument r 2)) (blocks_on k x (waits_for (Obj QPend) (argument r 0 ∷ []) (argument r 1))) tt
plain-q_pend (Messages limit (m ∷ ms)) r x k = refl
plain-q_pend (Count n) r x k = refl
plain-q_pend (Bits bits) r x k = refl
plain-q_pend (Held owner nesting) r x k = refl
plain-q_pend (Timed t) r x k = refl

-- event flags

plain-flag_post : (c : Content) (r : Request) (h : ℕ) (k : Kernel) → Plain (flag_post c r h k)
plain-flag_post (Bits bits) r h k = refl
plain-flag_post (Count n) r h k = refl
plain-flag_post (Messages limit ms) r h k = refl
plain-flag_post (Held owner nesting) r h k = refl
plain-flag_post (Timed t) r h k = refl

plain-flag_pend_on : (ready : Option ℕ) (bits : ℕ) (r : Request) (x : ℕ) (k : Kernel) → Plain (flag_pend_on ready bits r x k)
plain-flag_pend_on None bits r x k =
    let w : Wait = record { waiting = Obj FlagPend; objects = argument r 0 ∷ []; mask = argument r 1; opt = argument r 3; table = 0; timeout = argument r 2 } in
    plain-tail k (flags_do_not_wait (argument r 3)) (blocks_on k x w) tt
plain-flag_pend_on (Some ready) bits r x k = refl

plain-flag_pend : (c : Content) (r : Request) (x : ℕ) (k : Kernel) → Plain (flag_pend c r x k)
plain-flag_pend (Bits bits) r x k = plain-flag_pend_on (ready_bits bits (argument r 1) (argument r 3)) bits r x k
plain-flag_pend (Count n) r x k = refl
plain-flag_pend (Messages limit ms) r x k = refl
plain-flag_pend (Held owner nesting) r x k = refl
plain-flag_pend (Timed t) r x k = refl

-- a task's own semaphore and queue

plain-task_sem_post_to : (w : Waiting) (y h : ℕ) (k : Kernel) → Plain (task_sem_post_to w y h k)
plain-task_sem_post_to TaskSem y h k = refl
plain-task_sem_post_to _ y h k =
    choice Plain ((task_at k y).count == 2 ^ 32 - 1) (refused k SemOverflow) (done (with_task k y (λ t. record t { count = (task_at k y).count + 1 })) (fine ((task_at k y).count + 1))) refl refl

plain-task_store : (e : Option OsErr) (y : ℕ) (ms : List (ℕ × ℕ)) (k : Kernel) → Plain (task_store e y ms k)
plain-task_store (Some err) y ms k = refl
plain-task_store None y ms k = refl

plain-task_q_post_to : (w : Waiting) (r : Request) (y h : ℕ) (k : Kernel) → Plain (task_q_post_to w r y h k)
plain-task_q_post_to TaskQ r y h k = refl
plain-task_q_post_to _ r y h k =
    let t = task_at k y in
    plain-task_store (store_error (length t.messages) t.limit k.free) y (stored (stores_first (argument r 3)) (argument r 1, argument r 2) t.messages) k

plain-task_sem_pend_on : (n : ℕ) (r : Request) (x : ℕ) (k : Kernel) → Plain (task_sem_pend_on n r x k)
plain-task_sem_pend_on zero r x k = plain-tail k (does_not_wait (argument r 1)) (blocks_on k x (waits_for TaskSem [] (argument r 0))) tt
plain-task_sem_pend_on (suc n) r x k = refl

plain-task_q_pend_on : (ms : List (ℕ × ℕ)) (r : Request) (x : ℕ) (k : Kernel) → Plain (task_q_pend_on ms r x k)
plain-task_q_pend_on [] r x k = plain-tail k (does_not_wait (argument r 1)) (blocks_on k x (waits_for TaskQ [] (argument r 0))) tt
plain-task_q_pend_on (m ∷ ms) r x k = refl

-- the scheduler

plain-lock : (k : Kernel) → Plain (sched_lock k)
plain-lock k = choice Plain (k.lock == nesting_limit) (refused k LockOverflow) (done (record k { lock = k.lock + 1 }) (fine (k.lock + 1))) refl refl

plain-unlocks : (n : ℕ) (k : Kernel) → Plain (unlocks n k)
plain-unlocks zero k = refl
plain-unlocks (suc n) k = refl

plain-unlock : (x : ℕ) (k : Kernel) → Plain (sched_unlock x k)
plain-unlock x k = choice Plain ((k.lock == 0) || ((k.lock == 1) && (x == timer_task))) (refused k SchedNotLocked) (unlocks (k.lock - 1) k) refl (plain-unlocks (k.lock - 1) k)

plain-delays : (n x : ℕ) (k : Kernel) → Plain (delays n x k)
plain-delays zero x k = refl
plain-delays (suc n) x k = tt

plain-delay : (r : Request) (x : ℕ) (k : Kernel) → Plain (time_dly r x k)
plain-delay r x k = choice Plain (k.lock == 0) (delays (delay_of r k.ticks) x k) (refused k SchedLocked) (plain-delays (delay_of r k.ticks) x k) refl

plain-resume : (w : Waiting) (y h : ℕ) (k : Kernel) → Plain (resumes_delayed w y h k)
plain-resume Delay y h k = refl
plain-resume _ y h k = refl

-- aborts

plain-aborts : (xs : List ℕ) (h : ℕ) (k : Kernel) → Plain (aborts xs h k)
plain-aborts [] h k = refl
plain-aborts (x ∷ xs) h k = refl

plain-abort : (r : Request) (h : ℕ) (k : Kernel) → Plain (pend_abort r h k)
plain-abort r h k = plain-aborts (chosen (aborts_all (argument r 1)) (list_at k.pend (argument r 0))) h k

plain-task_abort_of : (b : Bool) (y h : ℕ) (k : Kernel) → Plain (task_abort_of b y h k)
plain-task_abort_of true y h k = refl
plain-task_abort_of false y h k = refl

plain-task_abort : (waits : Waiting → Bool) (r : Request) (x h : ℕ) (k : Kernel) → Plain (task_abort waits r x h k)
plain-task_abort waits r x h k =
    let y = named_task r x in
    let e = task_abort_of (waits (task_at k y).waiting) y h k in
    choice Plain (y == x) (refused k PendAbortSelf) e refl (plain-task_abort_of (waits (task_at k y).waiting) y h k)

-- deletions

plain-deletes : (all : Bool) (xs : List ℕ) (o h : ℕ) (k : Kernel) → Plain (deletes all xs o h k)
plain-deletes false (x ∷ xs) o h k = refl
plain-deletes false [] o h k = refl
plain-deletes true xs o h k = refl

plain-delete : (r : Request) (h : ℕ) (k : Kernel) → Plain (delete r h k)
plain-delete r h k = plain-deletes (deletes_always (argument r 1)) (list_at k.pend (argument r 0)) (argument r 0) h k

-- suspension

plain-suspends : (own : Bool) (y : ℕ) (k : Kernel) → Plain (suspends own y k)
plain-suspends true y k = tt
plain-suspends false y k = refl

plain-task_suspend : (r : Request) (x : ℕ) (k : Kernel) → Plain (task_suspend r x k)
plain-task_suspend r x k =
    let y = named_task r x in
    let most = (task_at k y).suspended == nesting_limit in
    let e = suspends (y == x) y k in
    choice Plain ((y == x) && nat_lt 0 k.lock) (refused k SchedLocked) (if most then refused k Depth else e) refl (choice Plain most (refused k Depth) e refl (plain-suspends (y == x) y k))

plain-resumes : (n y h : ℕ) (k : Kernel) → Plain (resumes n y h k)
plain-resumes zero y h k = refl
plain-resumes (suc n) y h k = refl

plain-task_resume : (r : Request) (x h : ℕ) (k : Kernel) → Plain (task_resume r x h k)
plain-task_resume r x h k =
    let y = named_task r x in
    let n = (task_at k y).suspended in
    choice Plain (y == x) (refused k TaskResumeSelf) (resumes n y h k) refl (plain-resumes n y h k)

-- ticks and round robin

plain-signalled : (w : Waiting) (x h : ℕ) (k : Kernel) → Plain (signalled w x h k)
plain-signalled Signal x h k = refl
plain-signalled _ x h k = refl

plain-signals_timer : (h : ℕ) (k : Kernel) → Plain (signals_timer h k)
plain-signals_timer h k =
    let j : Kernel = record k { tick_calls = 0; timer_signals = k.timer_signals + 1 } in
    let w = (task_at k timer_task).waiting in
    choice Plain (nat_lt (k.tick_calls + 1) k.settings.tmr_div) (done (record k { tick_calls = k.tick_calls + 1 }) (fine 0)) (signalled w timer_task h j) refl (plain-signalled w timer_task h j)

plain-yield : (x : ℕ) (k : Kernel) → Plain (round_robin_yield x k)
plain-yield x k =
    let p = prio_of k x in
    let alone = if is_alone (list_at k.ready p) then refused k RoundRobinAlone else rotates x p k in
    choice Plain (not (k.lock == 0)) (refused k SchedLocked) (if not k.settings.round_robin then refused k RoundRobinDisabled else alone) refl
    (choice Plain (not k.settings.round_robin) (refused k RoundRobinDisabled) alone refl (choice Plain (is_alone (list_at k.ready p)) (refused k RoundRobinAlone) (rotates x p k) refl refl))

-- timers

plain-tmr_start : (c : Content) (r : Request) (k : Kernel) → Plain (tmr_start c r k)
plain-tmr_start (Timed t) r k = refl
plain-tmr_start (Count n) r k = refl
plain-tmr_start (Messages limit ms) r k = refl
plain-tmr_start (Bits bits) r k = refl
plain-tmr_start (Held owner nesting) r k = refl

plain-tmr_stop_in : (state : TimerState) (t : Timer) (o : ℕ) (k : Kernel) → Plain (tmr_stop_in state t o k)
plain-tmr_stop_in Running t o k = refl
plain-tmr_stop_in Stopped t o k = refl
plain-tmr_stop_in Completed t o k = refl

plain-tmr_stop : (c : Content) (r : Request) (k : Kernel) → Plain (tmr_stop c r k)
plain-tmr_stop (Timed t) r k = plain-tmr_stop_in t.state t (argument r 0) k
plain-tmr_stop (Count n) r k = refl
plain-tmr_stop (Messages limit ms) r k = refl
plain-tmr_stop (Bits bits) r k = refl
plain-tmr_stop (Held owner nesting) r k = refl

plain-tmr_remain_get : (c : Content) (r : Request) (k : Kernel) → Plain (tmr_remain_get c r k)
plain-tmr_remain_get (Timed t) r k = refl
plain-tmr_remain_get (Count n) r k = refl
plain-tmr_remain_get (Messages limit ms) r k = refl
plain-tmr_remain_get (Bits bits) r k = refl
plain-tmr_remain_get (Held owner nesting) r k = refl

plain-tmr_state_get : (c : Content) (k : Kernel) → Plain (tmr_state_get c k)
plain-tmr_state_get (Timed t) k = refl
plain-tmr_state_get (Count n) k = refl
plain-tmr_state_get (Messages limit ms) k = refl
plain-tmr_state_get (Bits bits) k = refl
plain-tmr_state_get (Held owner nesting) k = refl

plain-tmr_del : (c : Content) (r : Request) (k : Kernel) → Plain (tmr_del c r k)
plain-tmr_del (Timed t) r k = refl
plain-tmr_del (Count n) r k = refl
plain-tmr_del (Messages limit ms) r k = refl
plain-tmr_del (Bits bits) r k = refl
plain-tmr_del (Held owner nesting) r k = refl

-- each of them

plain-perform : (s : Service) (call : Call) (k : Kernel) → program_serves s ≡ true → Plain (perform s call k)
plain-perform SemPost call k e = plain-sem_post (object_at k (argument call.request 0)).content call.request call.compared k
plain-perform QPost call k e = plain-q_post (object_at k (argument call.request 0)).content call.request call.compared k
plain-perform FlagPost call k e = plain-flag_post (object_at k (argument call.request 0)).content call.request call.compared k
plain-perform TaskSemPost call k e = let y = named_task call.request call.caller in plain-task_sem_post_to (task_at k y).waiting y call.compared k
plain-perform TaskQPost call k e = let y = named_task call.request call.caller in plain-task_q_post_to (task_at k y).waiting call.request y call.compared k
plain-perform SemPend call k e = plain-sem_pend (object_at k (argument call.request 0)).content call.request call.caller k
plain-perform QPend call k e = plain-q_pend (object_at k (argument call.request 0)).content call.request call.caller k
plain-perform FlagPend call k e = plain-flag_pend (object_at k (argument call.request 0)).content call.request call.caller k
plain-perform TaskSemPend call k e = plain-task_sem_pend_on (task_at k call.caller).count call.request call.caller k
plain-perform TaskQPend call k e = plain-task_q_pend_on (task_at k call.caller).messages call.request call.caller k
plain-perform SchedLock call k e = plain-lock k
plain-perform SchedUnlock call k e = plain-unlock call.caller k
plain-perform TimeGet call k e = refl
plain-perform TimeDly call k e = plain-delay call.request call.caller k
plain-perform SemPendAbort call k e = plain-abort call.request call.compared k
plain-perform QPendAbort call k e = plain-abort call.request call.compared k
plain-perform FlagPendAbort call k e = plain-abort call.request call.compared k
plain-perform TaskSemPendAbort call k e = plain-task_abort waits_for_semaphore call.request call.caller call.compared k
plain-perform TaskQPendAbort call k e = plain-task_abort waits_for_queue call.request call.caller call.compared k
plain-perform SemDel call k e = plain-delete call.request call.compared k
plain-perform QDel call k e = plain-delete call.request call.compared k
plain-perform FlagDel call k e = plain-delete call.request call.compared k
plain-perform TimeDlyResume call k e = let y = named_task call.request call.caller in plain-resume (task_at k y).waiting y call.compared k
plain-perform TaskSuspend call k e = plain-task_suspend call.request call.caller k
plain-perform TaskResume call k e = plain-task_resume call.request call.caller call.compared k
plain-perform TimeTick call k e = let h = call.compared in plain-signals_timer h (round_robin call.interrupted (signals_tick h k).kernel).kernel
plain-perform RoundRobinYield call k e = plain-yield call.caller k
plain-perform TmrStart call k e = plain-tmr_start (object_at k (argument call.request 0)).content call.request k
plain-perform TmrStop call k e = plain-tmr_stop (object_at k (argument call.request 0)).content call.request k
plain-perform TmrRemainGet call k e = plain-tmr_remain_get (object_at k (argument call.request 0)).content call.request k
plain-perform TmrStateGet call k e = plain-tmr_state_get (object_at k (argument call.request 0)).content k
plain-perform TmrDel call k e = plain-tmr_del (object_at k (argument call.request 0)).content call.request k
plain-perform _ call k e = absurd (false≢true e)

plain-checked : (o : Option OsErr) (call : Call) (k : Kernel) → program_serves call.request.service ≡ true → Plain (after_checks o call k)
plain-checked (Some err) call k e = refl
plain-checked None call k e = plain-perform call.request.service call k e

plain-served : (b : Bool) (call : Call) (k : Kernel) → program_serves call.request.service ≡ b → Plain (if b then after_checks (call_error call.request call.caller k) call k else refused k CallUnknown)
plain-served true call k e = plain-checked (call_error call.request call.caller k) call k e
plain-served false call k e = refl

pub plain-effect : (call : Call) (k : Kernel) → HasNoTable (effect program_serves call k).outcome
plain-effect call k = plain-served (program_serves call.request.service) call k refl
