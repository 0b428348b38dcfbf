-- A post of interrupt code is answered at once, and no table comes with its answer.
use Rattle.std.specs.Prelude.{if◌then◌else◌, ◌==◌, ◌-◌, ◌+◌, ◌^◌, nat_lt}
use Rattle.std.proofs.Common.{◌≡◌, ℕ, List, [], ◌∷◌, refl, Bool, true, false, Option, Some, None}
use Rattle.std.proofs.lemmas.Bool.{false≢true}
use Rattle.kern_base.specs.declared.services.Service.{Service}
use Rattle.kern_base.specs.declared.services.Service.TheVariants.{SemPost, QPost, FlagPost, TaskSemPost, TaskQPost, SemPend, QPend, FlagPend, TaskSemPend, TaskQPend, SchedLock, SchedUnlock, TimeGet, TimeDly, TimeDlyResume, SemPendAbort, QPendAbort, FlagPendAbort, TaskSemPendAbort, TaskQPendAbort, SemDel, QDel, FlagDel, TaskSuspend, TaskResume, TimeTick, RoundRobinYield, TmrStart, TmrStop, TmrRemainGet, TmrStateGet, TmrDel}
use Rattle.kern_base.specs.declared.requests.Request.{Request}
use Rattle.kern_base.specs.declared.errors.OsErr.{OsErr}
use Rattle.kern_base.specs.declared.errors.OsErr.TheVariants.{SemOverflow, CallUnknown}
use Rattle.kern_base.specs.declared.outcomes.Waiting.{Waiting}
use Rattle.kern_base.specs.declared.outcomes.Waiting.TheVariants.{TaskSem, TaskQ, Signal}
use Rattle.kern_base.specs.Services.{is_post}
use Rattle.kern_base.specs.Checks.{IsPost}
use Rattle.kern_model.specs.Call.{Call, call_of}
use Rattle.kern_model.specs.State.{Kernel, Content, Count, Messages, Bits, Held, Timed, list_at, task_at, with_content, with_task}
use Rattle.kern_model.specs.Effect.{Effect, refused, done, fine}
use Rattle.kern_model.specs.Checks.{argument, call_error, named_task}
use Rattle.kern_model.specs.Flags.{flag_post}
use Rattle.kern_model.specs.Options.{stores_first}
use Rattle.kern_model.specs.Queues.{q_post, q_post_to, store_error, store_in, stored}
use Rattle.kern_model.specs.Semaphores.{sem_post_to, sem_post}
use Rattle.kern_model.specs.RoundRobin.{round_robin}
use Rattle.kern_model.specs.Time.{signalled, signals_tick, time_tick}
use Rattle.kern_model.specs.TaskObjects.{task_q_post_to, task_sem_post_to, task_store}
use Rattle.kernel_calls.specs.Works.{IsPlainAnswer}
use Rattle.served.specs.Served.{program_serves}
use Rattle.kern_model.specs.Services.{posted, after_checks, content_for, perform, post_request}
use Rattle.kern_model.proofs.Lemmas.{choice}

abbrev Plain : Effect → Type 0
Plain e = IsPlainAnswer e.outcome

plain-sem_post_to : (xs : List ℕ) (n o opt h : ℕ) (k : Kernel) → Plain (sem_post_to xs n o opt h k)
plain-sem_post_to [] n o opt h k = choice Plain (n == 2 ^ 32 - 1) (refused k SemOverflow) (done (with_content k o (Count (n + 1))) (fine (n + 1))) refl refl
plain-sem_post_to (x ∷ xs) n o opt h k = refl

plain-sem_post : (c : Content) (r : Request) (h : ℕ) (k : Kernel) → Plain (sem_post c r h k)
plain-sem_post (Count n) r h k = plain-sem_post_to (list_at k.pend (argument r 0)) n (argument r 0) (argument r 1) h k
plain-sem_post (Messages limit ms) r h k = refl
plain-sem_post (Bits bits) r h k = refl
plain-sem_post (Held owner nesting) r h k = refl
plain-sem_post (Timed t) r h k = refl

plain-store_in : (e : Option OsErr) (o limit : ℕ) (ms : List (ℕ × ℕ)) (k : Kernel) → Plain (store_in e o limit ms k)
plain-store_in (Some err) o limit ms k = refl
plain-store_in None o limit ms k = refl

plain-q_post_to : (xs : List ℕ) (limit : ℕ) (ms : List (ℕ × ℕ)) (r : Request) (h : ℕ) (k : Kernel) → Plain (q_post_to xs limit ms r h k)
plain-q_post_to [] limit ms r h k = plain-store_in (store_error _ limit k.free) (argument r 0) limit (stored (stores_first (argument r 3)) (argument r 1, argument r 2) ms) k
plain-q_post_to (x ∷ xs) limit ms r h k = refl

plain-q_post : (c : Content) (r : Request) (h : ℕ) (k : Kernel) → Plain (q_post c r h k)
plain-q_post (Count n) r h k = refl
plain-q_post (Messages limit ms) r h k = plain-q_post_to (list_at k.pend (argument r 0)) limit ms r h k
plain-q_post (Bits bits) r h k = refl
plain-q_post (Held owner nesting) r h k = refl
plain-q_post (Timed t) r h k = refl

plain-flag_post : (c : Content) (r : Request) (h : ℕ) (k : Kernel) → Plain (flag_post c r h k)
plain-flag_post (Count n) r h k = refl
plain-flag_post (Messages limit ms) r h k = refl
plain-flag_post (Bits bits) r h k = refl
plain-flag_post (Held owner nesting) r h k = refl
plain-flag_post (Timed t) r h k = refl

plain-counts_up : (n x : ℕ) (k : Kernel) → Plain (if n == 2 ^ 32 - 1 then refused k SemOverflow else done (with_task k x (λ t. record t { count = n + 1 })) (fine (n + 1)))
plain-counts_up n x k = choice Plain (n == 2 ^ 32 - 1) (refused k SemOverflow) (done (with_task k x (λ t. record t { count = n + 1 })) (fine (n + 1))) refl refl

plain-task_sem_post : (w : Waiting) (x h : ℕ) (k : Kernel) → Plain (task_sem_post_to w x h k)
plain-task_sem_post TaskSem x h k = refl
plain-task_sem_post _ x h k = plain-counts_up (task_at k x).count x k

plain-task_store : (e : Option OsErr) (x : ℕ) (ms : List (ℕ × ℕ)) (k : Kernel) → Plain (task_store e x ms k)
plain-task_store (Some err) x ms k = refl
plain-task_store None x ms k = refl

plain-task_q_post : (w : Waiting) (r : Request) (x h : ℕ) (k : Kernel) → Plain (task_q_post_to w r x h k)
plain-task_q_post TaskQ r x h k = refl
plain-task_q_post _ r x h k = plain-task_store (store_error _ (task_at k x).limit k.free) x (stored (stores_first (argument r 3)) (argument r 1, argument r 2) (task_at k x).messages) k

plain-signalled : (w : Waiting) (x h : ℕ) (k : Kernel) → Plain (signalled w x h k)
plain-signalled Signal x h k = refl
plain-signalled _ x h k = refl

plain-time_tick : (c h : ℕ) (k : Kernel) → Plain (time_tick c h k)
plain-time_tick c h k =
    let j = (round_robin c (signals_tick h k).kernel).kernel in
    choice Plain (nat_lt (j.tick_calls + 1) j.settings.tmr_div) _ _ refl (plain-signalled (task_at j 61).waiting 61 h (record j { tick_calls = 0; timer_signals = j.timer_signals + 1 }))

plain-perform : (s : Service) (call : Call) (k : Kernel) → program_serves s ≡ true → is_post s ≡ true → Plain (perform s call k)
plain-perform SemPost call k e p = plain-sem_post (content_for call.request k) call.request call.compared k
plain-perform QPost call k e p = plain-q_post (content_for call.request k) call.request call.compared k
plain-perform FlagPost call k e p = plain-flag_post (content_for call.request k) call.request call.compared k
plain-perform TaskSemPost call k e p = let y = named_task call.request call.caller in plain-task_sem_post (task_at k y).waiting y call.compared k
plain-perform TaskQPost call k e p = let y = named_task call.request call.caller in plain-task_q_post (task_at k y).waiting call.request y call.compared k
plain-perform SemPend call k e p = absurd (false≢true p)
plain-perform QPend call k e p = absurd (false≢true p)
plain-perform FlagPend call k e p = absurd (false≢true p)
plain-perform TaskSemPend call k e p = absurd (false≢true p)
plain-perform TaskQPend call k e p = absurd (false≢true p)
plain-perform SchedLock call k e p = absurd (false≢true p)
plain-perform SchedUnlock call k e p = absurd (false≢true p)
plain-perform TimeGet call k e p = absurd (false≢true p)
plain-perform TimeDly call k e p = absurd (false≢true p)
plain-perform TimeDlyResume call k e p = absurd (false≢true p)
plain-perform SemPendAbort call k e p = absurd (false≢true p)
plain-perform QPendAbort call k e p = absurd (false≢true p)
plain-perform FlagPendAbort call k e p = absurd (false≢true p)
plain-perform TaskSemPendAbort call k e p = absurd (false≢true p)
plain-perform TaskQPendAbort call k e p = absurd (false≢true p)
plain-perform SemDel call k e p = absurd (false≢true p)
plain-perform QDel call k e p = absurd (false≢true p)
plain-perform FlagDel call k e p = absurd (false≢true p)
plain-perform TaskSuspend call k e p = absurd (false≢true p)
plain-perform TaskResume call k e p = absurd (false≢true p)
plain-perform RoundRobinYield call k e p = absurd (false≢true p)
plain-perform TmrStart call k e p = absurd (false≢true p)
plain-perform TmrStop call k e p = absurd (false≢true p)
plain-perform TmrRemainGet call k e p = absurd (false≢true p)
plain-perform TmrStateGet call k e p = absurd (false≢true p)
plain-perform TmrDel call k e p = absurd (false≢true p)
plain-perform TimeTick call k e p = plain-time_tick call.interrupted call.compared k
plain-perform _ call k e p = absurd (false≢true e)

plain-checked : (o : Option OsErr) (call : Call) (k : Kernel) → program_serves call.request.service ≡ true → is_post call.request.service ≡ true → Plain (after_checks o call k)
plain-checked (Some err) call k e p = refl
plain-checked None call k e p = plain-perform call.request.service call k e p

plain-served : (b : Bool) (call : Call) (k : Kernel) → program_serves call.request.service ≡ b → is_post call.request.service ≡ true → Plain (if b then after_checks (call_error call.request call.caller k) call k else refused k CallUnknown)
plain-served true call k e p = plain-checked (call_error call.request call.caller k) call k e p
plain-served false call k e p = refl

pub plain-posted : (s : Service) (args : List ℕ) (c h : ℕ) (k : Kernel) → IsPost s → Plain (posted program_serves s args c h k)
plain-posted s args c h k p = plain-served (program_serves s) (call_of (post_request s args) 63 c h) k refl p
