-- Every service and unit keeps the kernel linked.
use Rattle.kern_model.proofs.Common.{Call, ◌≡◌, ◌⊎◌, ℕ, ◌<◌, ◌≤◌, List, [], ◌∷◌, length, refl, sym, ap, ◌∙◌, subst, Bool, true, false, ◌&&◌, ◌||◌, not, arith, inl, inr, Option, Some, None, ◌==◌, nat_lt, if◌then◌else◌, Service, SemPost, QPost, FlagPost, TaskSemPost, TaskQPost, TimeTick, SemPend, QPend, FlagPend, MutexPend, TaskSemPend, TaskQPend, PendMulti, MutexPost, SemPendAbort, QPendAbort, FlagPendAbort, MutexPendAbort, TaskSemPendAbort, TaskQPendAbort, SemDel, QDel, FlagDel, MutexDel, TimeDly, TimeDlyResume, TimeGet, TaskSuspend, TaskResume, TaskDel, RoundRobinYield, SchedLock, SchedUnlock, TmrStart, TmrStop, TmrRemainGet, TmrStateGet, TmrDel, TaskChangePrio, Unknown, Request, Sem, Queue, Flags, Mutex, Kind, OsErr, CallUnknown, ObjectType, TaskNotExist, TaskInvalid, OptionInvalid, is_post, static_error, target_error, task_error, names_option, kinds_wanted, names_task, caller_number, Kernel, list_at, task_at, object_at, kinds_of, is_ready, refused, chosen, argument, named_task, call_error, existence_error, is_deleted, effect, after_checks, perform, content_for, unit_effect, IsLinked, MayCall}
use Rattle.std.proofs.lemmas.Bool.{false≢true}
use Rattle.kern_model.specs.TaskObjects.{waits_for_semaphore, waits_for_queue}
use Rattle.kern_model.specs.Several.{multi_error}
use Rattle.kern_model.proofs.Basics.Choices.{choice_by, equal, less, or_either, and_first, and_second, not_false, first_passed, second_passed, passed_if, passed_then}
use Rattle.kern_model.proofs.Halves.Effects.{choice}
use Rattle.kern_model.proofs.Linked.Contents.{object_inside, AllWait-pend}
use Rattle.kern_model.proofs.Linked.ObjectServices.{LinkedAfter, AllWait-chosen, linked-sem_post, linked-sem_pend, linked-q_post, linked-q_pend, linked-flag_post, linked-flag_pend, linked-mutex_pend, linked-mutex_post, linked-aborts, linked-mutex_aborts, linked-deletes, linked-mutex_deletes, linked-task_sem_post_to, linked-task_q_post_to, linked-task_sem_pend_on, linked-task_q_pend_on, linked-task_abort, semaphore_waits, queue_waits}
use Rattle.kern_model.proofs.Linked.TaskServices.{linked-task_suspend, linked-task_resume, linked-task_del, linked-task_change_prio, linked-sched_lock, linked-sched_unlock, linked-round_robin_yield, linked-time_dly, linked-resumes_delayed, linked-time_tick, linked-tmr_start, linked-tmr_stop, linked-tmr_remain_get, linked-tmr_state_get, linked-tmr_del, linked-multi_checked, linked-tick_unit, linked-timer_unit}

-- the object that a call names stands among the objects
pub checked_object : (r : Request) (x : ℕ) (k : Kernel) (w : Kind) (ws : List Kind) → kinds_wanted r.service ≡ w ∷ ws → call_error r x k ≡ None → argument r 0 < length k.objects
checked_object r x k w ws e h =
    let second = second_passed (static_error r.service r.args (kinds_of k) (nat_lt x 60)) (existence_error r x k) h in
    let there : is_deleted (kinds_wanted r.service) (object_at k (argument r 0)) ≡ false =
    (passed_if (is_deleted (kinds_wanted r.service) (object_at k (argument r 0))) ObjectType (if names_task r.service && not (task_at k (named_task r x)).alive then Some TaskNotExist else None) second).0 in
    object_inside k (argument r 0) (subst (λ ws. is_deleted ws (object_at k (argument r 0)) ≡ false) e there)

-- the task that a call names is an application's and lives
named_below : (r : Request) (x n : ℕ) → n ≤ 60 → (nat_lt (argument r 0) n || (nat_lt x 60 && (argument r 0 == caller_number))) ≡ true → named_task r x < 60
named_below r x n l h =
    choice_by (λ y. y < 60) (argument r 0 == caller_number) x (argument r 0)
    (λ s. elim (or_either (nat_lt (argument r 0) n) (nat_lt x 60 && (argument r 0 == caller_number)) h) [
      | inl a ↦ absurd (far (equal (argument r 0) caller_number s) (less (argument r 0) n a))
      | inr b ↦ less x 60 (and_first (nat_lt x 60) (argument r 0 == caller_number) b)
    ])
    (λ s. elim (or_either (nat_lt (argument r 0) n) (nat_lt x 60 && (argument r 0 == caller_number)) h) [
      | inl a ↦ near (less (argument r 0) n a)
      | inr b ↦ absurd (false≢true (sym s ∙ and_second (nat_lt x 60) (argument r 0 == caller_number) b))
    ])
  where
    far : argument r 0 ≡ caller_number → argument r 0 < n → ⊥
    far e m = absurd (omega (arith, l))

    near : argument r 0 < n → argument r 0 < 60
    near m = omega (arith, l)

pub record NamedTask (r : Request) (x : ℕ) (k : Kernel) : Type 0 where
  pub inside : named_task r x < 60
  pub alive : (task_at k (named_task r x)).alive ≡ true

pub checked_task : (r : Request) (x : ℕ) (k : Kernel) → k.settings.tasks ≤ 60 → kinds_wanted r.service ≡ [] → names_task r.service ≡ true → call_error r x k ≡ None → NamedTask r x k
checked_task r x k l e n h =
    let own = nat_lt x 60 in
    let first = first_passed (static_error r.service r.args (kinds_of k) own) (existence_error r x k) h in
    let target = (passed_then (names_option r.service r.args) OptionInvalid (target_error (kinds_wanted r.service) (names_task r.service) r.args (kinds_of k) own) first).1 in
    let named : task_error (argument r 0) k.settings.tasks own ≡ None = subst (λ b. target_error [] b r.args (kinds_of k) own ≡ None) n (subst (λ ws. target_error ws (names_task r.service) r.args (kinds_of k) own ≡ None) e target) in
    let test = (passed_then (nat_lt (argument r 0) k.settings.tasks || (own && (argument r 0 == caller_number))) TaskInvalid None named).0 in
    let second = second_passed (static_error r.service r.args (kinds_of k) own) (existence_error r x k) h in
    let after = (passed_if (is_deleted (kinds_wanted r.service) (object_at k (argument r 0))) ObjectType (if names_task r.service && not (task_at k (named_task r x)).alive then Some TaskNotExist else None) second).1 in
    let dead = (passed_if (names_task r.service && not (task_at k (named_task r x)).alive) TaskNotExist None after).0 in
    record {
      inside = named_below r x k.settings.tasks l test;
      alive = not_false (task_at k (named_task r x)).alive (subst (λ b. b && not (task_at k (named_task r x)).alive ≡ false) n dead);
    }

-- the services, one by one

linked-perform : (s : Service) (call : Call) (k : Kernel) → s ≡ call.request.service → call_error call.request call.caller k ≡ None → IsLinked k → (is_post s ≡ false → MayCall call.caller k) → LinkedAfter (perform s call k)
linked-perform SemPost call k e checked v m = linked-sem_post (content_for call.request k) call.request call.compared k (v.contents (argument call.request 0)) v
linked-perform QPost call k e checked v m = linked-q_post (content_for call.request k) call.request call.compared k v
linked-perform FlagPost call k e checked v m = linked-flag_post (content_for call.request k) call.request call.compared k v
linked-perform TaskSemPost call k e checked v m =
    let y = named_task call.request call.caller in
    linked-task_sem_post_to (task_at k y).waiting y call.compared k refl v (checked_task call.request call.caller k v.sizes.application (ap kinds_wanted (sym e)) (ap names_task (sym e)) checked).inside
linked-perform TaskQPost call k e checked v m =
    let y = named_task call.request call.caller in
    linked-task_q_post_to (task_at k y).waiting call.request y call.compared k refl v (checked_task call.request call.caller k v.sizes.application (ap kinds_wanted (sym e)) (ap names_task (sym e)) checked).inside
linked-perform TimeTick call k e checked v m = linked-time_tick call.interrupted call.compared k v
linked-perform SemPend call k e checked v m = linked-sem_pend (content_for call.request k) call.request call.caller k (v.contents (argument call.request 0)) v (m refl) (checked_object call.request call.caller k Sem [] (ap kinds_wanted (sym e)) checked)
linked-perform QPend call k e checked v m = linked-q_pend (content_for call.request k) call.request call.caller k (v.contents (argument call.request 0)) v (m refl) (checked_object call.request call.caller k Queue [] (ap kinds_wanted (sym e)) checked)
linked-perform FlagPend call k e checked v m = linked-flag_pend (content_for call.request k) call.request call.caller k v (m refl) (checked_object call.request call.caller k Flags [] (ap kinds_wanted (sym e)) checked)
linked-perform MutexPend call k e checked v m = linked-mutex_pend (content_for call.request k) call.request call.caller k (v.contents (argument call.request 0)) v (m refl) (checked_object call.request call.caller k Mutex [] (ap kinds_wanted (sym e)) checked)
linked-perform TaskSemPend call k e checked v m = linked-task_sem_pend_on (task_at k call.caller).count call.request call.caller k refl v (m refl)
linked-perform TaskQPend call k e checked v m = linked-task_q_pend_on (task_at k call.caller).messages call.request call.caller k v (m refl)
linked-perform PendMulti call k e checked v m = linked-multi_checked (multi_error call.request k) call.request call.caller k refl v (m refl)
linked-perform MutexPost call k e checked v m = linked-mutex_post (content_for call.request k) call.request call.caller call.compared k (v.contents (argument call.request 0)) v
linked-perform SemPendAbort call k e checked v m = linked-aborts (chosen (argument call.request 1 == 1) (list_at k.pend (argument call.request 0))) call.compared k v (AllWait-chosen k (argument call.request 1 == 1) (list_at k.pend (argument call.request 0)) (AllWait-pend k v (argument call.request 0)))
linked-perform QPendAbort call k e checked v m = linked-aborts (chosen (argument call.request 1 == 1) (list_at k.pend (argument call.request 0))) call.compared k v (AllWait-chosen k (argument call.request 1 == 1) (list_at k.pend (argument call.request 0)) (AllWait-pend k v (argument call.request 0)))
linked-perform FlagPendAbort call k e checked v m = linked-aborts (chosen (argument call.request 1 == 1) (list_at k.pend (argument call.request 0))) call.compared k v (AllWait-chosen k (argument call.request 1 == 1) (list_at k.pend (argument call.request 0)) (AllWait-pend k v (argument call.request 0)))
linked-perform MutexPendAbort call k e checked v m = linked-mutex_aborts (chosen (argument call.request 1 == 1) (list_at k.pend (argument call.request 0))) call.compared k v (AllWait-chosen k (argument call.request 1 == 1) (list_at k.pend (argument call.request 0)) (AllWait-pend k v (argument call.request 0)))
linked-perform TaskSemPendAbort call k e checked v m =
    linked-task_abort waits_for_semaphore semaphore_waits call.request call.caller call.compared k v (checked_task call.request call.caller k v.sizes.application (ap kinds_wanted (sym e)) (ap names_task (sym e)) checked).inside
linked-perform TaskQPendAbort call k e checked v m =
    linked-task_abort waits_for_queue queue_waits call.request call.caller call.compared k v (checked_task call.request call.caller k v.sizes.application (ap kinds_wanted (sym e)) (ap names_task (sym e)) checked).inside
linked-perform SemDel call k e checked v m = linked-deletes (argument call.request 1 == 1) (list_at k.pend (argument call.request 0)) (argument call.request 0) call.compared k v (AllWait-pend k v (argument call.request 0))
linked-perform QDel call k e checked v m = linked-deletes (argument call.request 1 == 1) (list_at k.pend (argument call.request 0)) (argument call.request 0) call.compared k v (AllWait-pend k v (argument call.request 0))
linked-perform FlagDel call k e checked v m = linked-deletes (argument call.request 1 == 1) (list_at k.pend (argument call.request 0)) (argument call.request 0) call.compared k v (AllWait-pend k v (argument call.request 0))
linked-perform MutexDel call k e checked v m = linked-mutex_deletes (argument call.request 1 == 1) (list_at k.pend (argument call.request 0)) (argument call.request 0) call.compared k v (AllWait-pend k v (argument call.request 0))
linked-perform TimeDly call k e checked v m = linked-time_dly call.request call.caller k v (m refl)
linked-perform TimeDlyResume call k e checked v m =
    let y = named_task call.request call.caller in
    linked-resumes_delayed (task_at k y).waiting y call.compared k refl v (checked_task call.request call.caller k v.sizes.application (ap kinds_wanted (sym e)) (ap names_task (sym e)) checked).inside
linked-perform TimeGet call k e checked v m = v
linked-perform TaskSuspend call k e checked v m =
    let t = checked_task call.request call.caller k v.sizes.application (ap kinds_wanted (sym e)) (ap names_task (sym e)) checked in
    linked-task_suspend call.request call.caller k v (m refl) t.inside t.alive
linked-perform TaskResume call k e checked v m =
    let t = checked_task call.request call.caller k v.sizes.application (ap kinds_wanted (sym e)) (ap names_task (sym e)) checked in
    linked-task_resume call.request call.caller call.compared k v t.inside t.alive
linked-perform TaskDel call k e checked v m = linked-task_del call.request call.caller k v (checked_task call.request call.caller k v.sizes.application (ap kinds_wanted (sym e)) (ap names_task (sym e)) checked).inside
linked-perform RoundRobinYield call k e checked v m = linked-round_robin_yield call.caller k v (m refl)
linked-perform SchedLock call k e checked v m = linked-sched_lock k v
linked-perform SchedUnlock call k e checked v m = linked-sched_unlock call.caller k v (m refl)
linked-perform TmrStart call k e checked v m = linked-tmr_start (content_for call.request k) call.request k (v.contents (argument call.request 0)) v
linked-perform TmrStop call k e checked v m = linked-tmr_stop (content_for call.request k) call.request k (v.contents (argument call.request 0)) v
linked-perform TmrRemainGet call k e checked v m = linked-tmr_remain_get (content_for call.request k) call.request k v
linked-perform TmrStateGet call k e checked v m = linked-tmr_state_get (content_for call.request k) k v
linked-perform TmrDel call k e checked v m = linked-tmr_del (content_for call.request k) call.request k (v.contents (argument call.request 0)) v
linked-perform TaskChangePrio call k e checked v m = linked-task_change_prio call.request call.caller k v (checked_task call.request call.caller k v.sizes.application (ap kinds_wanted (sym e)) (ap names_task (sym e)) checked).inside
linked-perform (Unknown number) call k e checked v m = v

linked-after_checks : (a : Option OsErr) (call : Call) (k : Kernel) → call_error call.request call.caller k ≡ a → IsLinked k → (is_post call.request.service ≡ false → MayCall call.caller k) → LinkedAfter (after_checks a call k)
linked-after_checks (Some err) call k e v m = v
linked-after_checks None call k e v m = linked-perform call.request.service call k refl e v m

-- Every call keeps the kernel linked: a post of any caller, any other call of one that may call.
pub linked-effect : (served : Service → Bool) (call : Call) (k : Kernel) → IsLinked k → (is_post call.request.service ≡ false → MayCall call.caller k) → IsLinked (effect served call k).kernel
linked-effect served call k v m =
    choice LinkedAfter (served call.request.service) (after_checks (call_error call.request call.caller k) call k) (refused k CallUnknown) (linked-after_checks (call_error call.request call.caller k) call k refl v m) v

-- Every unit of a ready internal task keeps it linked, the timer task's where no callback runs.
pub linked-unit : (x : ℕ) (k : Kernel) → IsLinked k → (x ≡ 60) ⊎ (x ≡ 61) → is_ready (task_at k x) ≡ true → (x ≡ 61 → k.in_callback ≡ false) → IsLinked (unit_effect x k).kernel
linked-unit x k v (inl e) r quiet = subst (λ y. IsLinked (unit_effect y k).kernel) (sym e) (linked-tick_unit k v)
linked-unit x k v (inr e) r quiet =
    subst (λ y. IsLinked (unit_effect y k).kernel) (sym e) (linked-timer_unit k (subst (λ y. is_ready (task_at k y) ≡ true) e r) (quiet e) v)
