-- The services of the kernel: each is one whole change of plain lists, and a list of micro-steps.
use Rattle.std.specs.Prelude.{ℕ, Bool, true, false, List, length, Option, Some, None, if◌then◌else◌, ◌==◌, take, replicate}
pub use Rattle.kern_base.specs.Services.{renews}
use Rattle.kern_base.specs.declared.services.Service.{Service}
use Rattle.kern_base.specs.declared.services.Service.TheVariants.{SemPost, QPost, FlagPost, TaskSemPost, TaskQPost, TimeTick, SemPend, QPend, FlagPend, MutexPend, TaskSemPend, TaskQPend, PendMulti, MutexPost, SemPendAbort, QPendAbort, FlagPendAbort, MutexPendAbort, TaskSemPendAbort, TaskQPendAbort, SemDel, QDel, FlagDel, MutexDel, TimeDly, TimeDlyResume, TimeGet, TaskSuspend, TaskResume, TaskDel, RoundRobinYield, SchedLock, SchedUnlock, TmrStart, TmrStop, TmrRemainGet, TmrStateGet, TmrDel, TaskChangePrio, Unknown}
use Rattle.kern_base.specs.declared.requests.Request.{Request}
use Rattle.kern_base.specs.declared.errors.OsErr.{OsErr}
use Rattle.kern_base.specs.declared.errors.OsErr.TheVariants.{CallUnknown}
use Rattle.kern_model.specs.State.{Kernel, Content, object_at, handler_task, tick_task}
use Rattle.kern_model.specs.Call.{Call, call_of}
use Rattle.kern_model.specs.Effect.{Effect, refused}
use Rattle.kern_model.specs.Checks.{argument, call_error}
use Rattle.kern_model.specs.Semaphores.{sem_post, sem_pend}
use Rattle.kern_model.specs.Queues.{q_post, q_pend}
use Rattle.kern_model.specs.Flags.{flag_post, flag_pend}
use Rattle.kern_model.specs.Mutexes.{mutex_pend, mutex_post, mutex_pend_abort, mutex_del}
use Rattle.kern_model.specs.TaskObjects.{task_sem_post, task_q_post, task_sem_pend, task_q_pend, task_abort, waits_for_semaphore, waits_for_queue}
use Rattle.kern_model.specs.Several.{pend_multi}
use Rattle.kern_model.specs.Waiters.{pend_abort, delete}
use Rattle.kern_model.specs.Time.{time_tick, time_dly, time_dly_resume, time_get, tick_unit}
use Rattle.kern_model.specs.Tasks.{task_suspend, task_resume, task_del, task_change_prio, sched_lock, sched_unlock}
use Rattle.kern_model.specs.RoundRobin.{round_robin_yield}
use Rattle.kern_model.specs.Timers.{tmr_start, tmr_stop, tmr_remain_get, tmr_state_get, tmr_del, timer_unit}
use Rattle.kern_model.specs.Micro.{Micro, Halves, whole_step, whole, lists_of, changed_all}

-- what the object holds that the first argument names
abbrev pub content_for : Request → Kernel → Content
content_for r k = (object_at k (argument r 0)).content

-- The service of a call that passed its checks.
abbrev pub perform : Service → Call → Kernel → Effect
perform SemPost call k = sem_post (content_for call.request k) call.request call.compared k
perform QPost call k = q_post (content_for call.request k) call.request call.compared k
perform FlagPost call k = flag_post (content_for call.request k) call.request call.compared k
perform TaskSemPost call k = task_sem_post call.request call.caller call.compared k
perform TaskQPost call k = task_q_post call.request call.caller call.compared k
perform TimeTick call k = time_tick call.interrupted call.compared k
perform SemPend call k = sem_pend (content_for call.request k) call.request call.caller k
perform QPend call k = q_pend (content_for call.request k) call.request call.caller k
perform FlagPend call k = flag_pend (content_for call.request k) call.request call.caller k
perform MutexPend call k = mutex_pend (content_for call.request k) call.request call.caller k
perform TaskSemPend call k = task_sem_pend call.request call.caller k
perform TaskQPend call k = task_q_pend call.request call.caller k
perform PendMulti call k = pend_multi call.request call.caller k
perform MutexPost call k = mutex_post (content_for call.request k) call.request call.caller call.compared k
perform SemPendAbort call k = pend_abort call.request call.compared k
perform QPendAbort call k = pend_abort call.request call.compared k
perform FlagPendAbort call k = pend_abort call.request call.compared k
perform MutexPendAbort call k = mutex_pend_abort call.request call.compared k
perform TaskSemPendAbort call k = task_abort waits_for_semaphore call.request call.caller call.compared k
perform TaskQPendAbort call k = task_abort waits_for_queue call.request call.caller call.compared k
perform SemDel call k = delete call.request call.compared k
perform QDel call k = delete call.request call.compared k
perform FlagDel call k = delete call.request call.compared k
perform MutexDel call k = mutex_del call.request call.compared k
perform TimeDly call k = time_dly call.request call.caller k
perform TimeDlyResume call k = time_dly_resume call.request call.caller call.compared k
perform TimeGet call k = time_get k
perform TaskSuspend call k = task_suspend call.request call.caller k
perform TaskResume call k = task_resume call.request call.caller call.compared k
perform TaskDel call k = task_del call.request call.caller k
perform RoundRobinYield call k = round_robin_yield call.caller k
perform SchedLock call k = sched_lock k
perform SchedUnlock call k = sched_unlock call.caller k
perform TmrStart call k = tmr_start (content_for call.request k) call.request k
perform TmrStop call k = tmr_stop (content_for call.request k) call.request k
perform TmrRemainGet call k = tmr_remain_get (content_for call.request k) call.request k
perform TmrStateGet call k = tmr_state_get (content_for call.request k) k
perform TmrDel call k = tmr_del (content_for call.request k) call.request k
perform TaskChangePrio call k = task_change_prio call.request call.caller k
perform (Unknown number) call k = refused k CallUnknown

-- a call that failed a check is refused, any other goes to its service
abbrev pub after_checks : Option OsErr → Call → Kernel → Effect
after_checks (Some err) call k = refused k err
after_checks None call k = perform call.request.service call k

-- What a call does. A service that is not served counts as an unknown number. A call from
-- interrupt code that is no post never comes to the kernel: the machine answers it.
abbrev pub effect : (Service → Bool) → Call → Kernel → Effect
effect served call k =
    if served call.request.service then after_checks (call_error call.request call.caller k) call k else refused k CallUnknown

-- every service
abbrev pub serves_all : Service → Bool
serves_all (Unknown number) = false
serves_all _ = true

-- a post as a request
abbrev pub post_request : Service → List ℕ → Request
post_request s args = record { service = s; args = args; ids = replicate 8 0; n_ids = 0; table = false }

-- A post without a caller, from interrupt code or by the handler of deferred posts.
abbrev pub posted : (Service → Bool) → Service → List ℕ → ℕ → ℕ → Kernel → Effect
posted served s args interrupted compared k = effect served (call_of (post_request s args) handler_task interrupted compared) k

-- What a unit of work of the tick task or of the timer task does.
abbrev pub unit_effect : ℕ → Kernel → Effect
unit_effect x k = if x == tick_task then tick_unit k else timer_unit k

-- the micro-steps of a whole step: begin, the blocks, end
abbrev pub blocks : Effect → Kernel → List Micro
blocks e k = whole_step e.blocks (lists_of k)

-- how many there are
unfoldable pub cost : Effect → Kernel → ℕ
cost e k = length (blocks e k)

-- the lists in both directions, and the set of priorities, after the first i micro-steps
abbrev pub half : Effect → Kernel → ℕ → Halves
half e k i = changed_all (take i (blocks e k)) (whole (lists_of k))
