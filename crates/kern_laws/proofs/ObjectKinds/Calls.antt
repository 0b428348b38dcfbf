-- Every call, post, unit, finish, trap and end of a callback keeps the kinds of objects.
use Rattle.kern_model.proofs.Common.{Call, call_of, ◌≡◌, ℕ, List, [], ◌∷◌, refl, Bool, true, false, Option, Some, None, ◌==◌, if◌then◌else◌, OsErr, NoError, Finished, Kernel, Task, Object, Content, Bits, list_at, task_at, object_at, kind_of, kinds_of, tick_task, argument, named_task, chosen, refused, Service, SemPost, QPost, FlagPost, TaskSemPost, TaskQPost, TimeTick, SemPend, QPend, FlagPend, MutexPend, TaskSemPend, TaskQPend, PendMulti, MutexPost, SemPendAbort, QPendAbort, FlagPendAbort, MutexPendAbort, TaskSemPendAbort, TaskQPendAbort, SemDel, QDel, FlagDel, MutexDel, TimeDly, TimeDlyResume, TimeGet, TaskSuspend, TaskResume, TaskDel, RoundRobinYield, SchedLock, SchedUnlock, TmrStart, TmrStop, TmrRemainGet, TmrStateGet, TmrDel, TaskChangePrio, Unknown, CallUnknown, call_error, effect, posted, post_request, after_checks, perform, content_for, unit_effect}
use Rattle.kern_model.specs.Options.{aborts_all, deletes_always}
use Rattle.kern_model.specs.TaskObjects.{waits_for_semaphore, waits_for_queue}
use Rattle.kern_model.specs.Several.{multi_error}
use Rattle.kern_model.specs.Time.{tick_unit}
use Rattle.kern_model.specs.Timers.{timer_unit}
use Rattle.kern_model.specs.Finish.{finished, finished_with, flags_consumed, consumed_in, consumed_content}
use Rattle.kern_model.specs.Stop.{stopped, callback_ended}
use Rattle.kern_model.proofs.Halves.Effects.{choice}
use Rattle.kern_laws.proofs.ObjectKinds.Changes.{KindsStay, kinds-object}
use Rattle.kern_laws.proofs.ObjectKinds.Objects.{kinds-sem_post, kinds-sem_pend, kinds-q_post, kinds-q_pend, kinds-flag_post, kinds-flag_pend, kinds-mutex_pend, kinds-mutex_post, kinds-aborts, kinds-mutex_aborts, kinds-deletes, kinds-mutex_deletes, kinds-multi_checked}
use Rattle.kern_laws.proofs.ObjectKinds.Tasks.{kinds-task_sem_post_to, kinds-task_q_post_to, kinds-task_sem_pend_on, kinds-task_q_pend_on, kinds-task_abort, kinds-task_suspend, kinds-task_resume, kinds-task_del, kinds-task_change_prio, kinds-sched_lock, kinds-sched_unlock, kinds-round_robin_yield, kinds-time_dly, kinds-resumes_delayed, kinds-time_tick, kinds-tick_unit, kinds-tmr_start, kinds-tmr_stop, kinds-tmr_remain_get, kinds-tmr_state_get, kinds-tmr_del, kinds-timer_unit}

-- an abort of waits, and a deletion, of the object that a call names

kinds-pend_abort : (call : Call) (k : Kernel) → KindsStay k (perform SemPendAbort call k)
kinds-pend_abort call k = kinds-aborts (chosen (aborts_all (argument call.request 1)) (list_at k.pend (argument call.request 0))) call.compared k

kinds-delete : (call : Call) (k : Kernel) → KindsStay k (perform SemDel call k)
kinds-delete call k = kinds-deletes (deletes_always (argument call.request 1)) (list_at k.pend (argument call.request 0)) (argument call.request 0) call.compared k

kinds-perform : (s : Service) (call : Call) (k : Kernel) → KindsStay k (perform s call k)
kinds-perform SemPost call k = kinds-sem_post (content_for call.request k) call.request call.compared k refl
kinds-perform QPost call k = kinds-q_post (content_for call.request k) call.request call.compared k refl
kinds-perform FlagPost call k = kinds-flag_post (content_for call.request k) call.request call.compared k refl
kinds-perform TaskSemPost call k = let y = named_task call.request call.caller in kinds-task_sem_post_to (task_at k y).waiting y call.compared k
kinds-perform TaskQPost call k = let y = named_task call.request call.caller in kinds-task_q_post_to (task_at k y).waiting call.request y call.compared k
kinds-perform TimeTick call k = kinds-time_tick call.interrupted call.compared k
kinds-perform SemPend call k = kinds-sem_pend (content_for call.request k) call.request call.caller k refl
kinds-perform QPend call k = kinds-q_pend (content_for call.request k) call.request call.caller k refl
kinds-perform FlagPend call k = kinds-flag_pend (content_for call.request k) call.request call.caller k refl
kinds-perform MutexPend call k = kinds-mutex_pend (content_for call.request k) call.request call.caller k refl
kinds-perform TaskSemPend call k = kinds-task_sem_pend_on (task_at k call.caller).count call.request call.caller k
kinds-perform TaskQPend call k = kinds-task_q_pend_on (task_at k call.caller).messages call.request call.caller k
kinds-perform PendMulti call k = kinds-multi_checked (multi_error call.request k) call.request call.caller k
kinds-perform MutexPost call k = kinds-mutex_post (content_for call.request k) call.request call.caller call.compared k refl
kinds-perform SemPendAbort call k = kinds-pend_abort call k
kinds-perform QPendAbort call k = kinds-pend_abort call k
kinds-perform FlagPendAbort call k = kinds-pend_abort call k
kinds-perform MutexPendAbort call k = kinds-mutex_aborts (chosen (aborts_all (argument call.request 1)) (list_at k.pend (argument call.request 0))) call.compared k
kinds-perform TaskSemPendAbort call k = kinds-task_abort waits_for_semaphore call.request call.caller call.compared k
kinds-perform TaskQPendAbort call k = kinds-task_abort waits_for_queue call.request call.caller call.compared k
kinds-perform SemDel call k = kinds-delete call k
kinds-perform QDel call k = kinds-delete call k
kinds-perform FlagDel call k = kinds-delete call k
kinds-perform MutexDel call k = kinds-mutex_deletes (deletes_always (argument call.request 1)) (list_at k.pend (argument call.request 0)) (argument call.request 0) call.compared k
kinds-perform TimeDly call k = kinds-time_dly call.request call.caller k
kinds-perform TimeDlyResume call k = let y = named_task call.request call.caller in kinds-resumes_delayed (task_at k y).waiting y call.compared k
kinds-perform TimeGet call k = refl
kinds-perform TaskSuspend call k = kinds-task_suspend call.request call.caller k
kinds-perform TaskResume call k = kinds-task_resume call.request call.caller call.compared k
kinds-perform TaskDel call k = kinds-task_del call.request call.caller k
kinds-perform RoundRobinYield call k = kinds-round_robin_yield call.caller k
kinds-perform SchedLock call k = kinds-sched_lock k
kinds-perform SchedUnlock call k = kinds-sched_unlock call.caller k
kinds-perform TmrStart call k = kinds-tmr_start (content_for call.request k) call.request k refl
kinds-perform TmrStop call k = kinds-tmr_stop (content_for call.request k) call.request k refl
kinds-perform TmrRemainGet call k = kinds-tmr_remain_get (content_for call.request k) call.request k
kinds-perform TmrStateGet call k = kinds-tmr_state_get (content_for call.request k) k
kinds-perform TmrDel call k = kinds-tmr_del (content_for call.request k) call.request k refl
kinds-perform TaskChangePrio call k = kinds-task_change_prio call.request call.caller k
kinds-perform (Unknown number) call k = refl

kinds-after_checks : (a : Option OsErr) (call : Call) (k : Kernel) → KindsStay k (after_checks a call k)
kinds-after_checks (Some err) call k = refl
kinds-after_checks None call k = kinds-perform call.request.service call k

-- every call, and with it every post

pub kinds-effect : (served : Service → Bool) (call : Call) (k : Kernel) → kinds_of (effect served call k).kernel ≡ kinds_of k
kinds-effect served call k =
    let a = call_error call.request call.caller k in
    choice (KindsStay k) (served call.request.service) (after_checks a call k) (refused k CallUnknown) (kinds-after_checks a call k) refl

pub kinds-posted : (served : Service → Bool) (s : Service) (args : List ℕ) (interrupted compared : ℕ) (k : Kernel) → kinds_of (posted served s args interrupted compared k).kernel ≡ kinds_of k
kinds-posted served s args interrupted compared k = kinds-effect served (call_of (post_request s args) 63 interrupted compared) k

-- every unit, the end of a wait, a trap, the end of a callback

pub kinds-unit : (x : ℕ) (k : Kernel) → kinds_of (unit_effect x k).kernel ≡ kinds_of k
kinds-unit x k = choice (KindsStay k) (x == tick_task) (tick_unit k) (timer_unit k) (kinds-tick_unit k) (kinds-timer_unit k)

-- a group of event flags stays one when its bits are consumed
kind-consumed : (ready opt : ℕ) (c : Content) → kind_of (consumed_content ready opt c) ≡ kind_of c
kind-consumed ready opt (Bits bits) = refl
kind-consumed ready opt _ = refl

kinds-consumed : (t : Task) (ready : ℕ) (k : Kernel) (s : Service) (err : OsErr) → kinds_of (record k { objects = flags_consumed s err t ready k.objects }) ≡ kinds_of k
kinds-consumed t ready k FlagPend NoError = by_objects t.objects
  where
    one : (b : Object) (d : Bool) → kind_of (Object.content (if d then b else record b { content = consumed_content ready t.opt b.content })) ≡ kind_of b.content
    one b true = refl
    one b false = kind-consumed ready t.opt b.content

    by_objects : (os : List ℕ) → kinds_of (record k { objects = consumed_in os ready t.opt k.objects }) ≡ kinds_of k
    by_objects [] = refl
    by_objects (o ∷ os) =
        let b = object_at k o in
        kinds-object k o (if b.deleted then b else record b { content = consumed_content ready t.opt b.content }) (one b b.deleted)
kinds-consumed t ready k s err = refl

kinds-finished_with : (a : Option Finished) (x : ℕ) (k : Kernel) → kinds_of (finished_with a x k) ≡ kinds_of k
kinds-finished_with None x k = refl
kinds-finished_with (Some f) x k = kinds-consumed (task_at k x) f.answer.value k f.service f.answer.err

pub kinds-finished : (x : ℕ) (k : Kernel) → kinds_of (finished x k) ≡ kinds_of k
kinds-finished x k = kinds-finished_with (task_at k x).answered x k

pub kinds-stopped : (x : ℕ) (k : Kernel) → kinds_of (stopped x k) ≡ kinds_of k
kinds-stopped x k = refl

pub kinds-callback_ended : (k : Kernel) → kinds_of (callback_ended k) ≡ kinds_of k
kinds-callback_ended k = refl
