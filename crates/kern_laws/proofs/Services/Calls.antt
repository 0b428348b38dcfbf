-- What each plain change keeps is kept by every service, unit, finish and trap.
use Rattle.kern_model.proofs.Common.{Call, ◌≡◌, ◌⊎◌, ℕ, ◌<◌, List, [], ◌∷◌, refl, sym, ap, ◌∙◌, subst, Bool, true, false, inl, inr, Option, Some, None, if◌then◌else◌, slice_set, Service, SemPost, QPost, FlagPost, TaskSemPost, TaskQPost, TimeTick, SemPend, QPend, FlagPend, MutexPend, TaskSemPend, TaskQPend, PendMulti, MutexPost, SemPendAbort, QPendAbort, FlagPendAbort, MutexPendAbort, TaskSemPendAbort, TaskQPendAbort, SemDel, QDel, FlagDel, MutexDel, TimeDly, TimeDlyResume, TimeGet, TaskSuspend, TaskResume, TaskDel, RoundRobinYield, SchedLock, SchedUnlock, TmrStart, TmrStop, TmrRemainGet, TmrStateGet, TmrDel, TaskChangePrio, Unknown, Request, Sem, Queue, Flags, Mutex, OneShot, Periodic, OsErr, NoError, CallUnknown, Finished, is_post, kinds_wanted, names_task, Kernel, Task, Content, Count, Messages, Bits, Held, Timed, no_object, task_at, object_at, is_ready, update_object, refused, argument, named_task, call_error, effect, after_checks, perform, content_for, unit_effect, IsLinked, MayCall, IsRequest, IsWord, HasResultWords}
use Rattle.std.proofs.lemmas.List.{set-get_or}
use Rattle.kern_model.specs.FlagBits.{consumed}
use Rattle.kern_model.specs.TaskObjects.{waits_for_semaphore, waits_for_queue}
use Rattle.kern_model.specs.Several.{multi_error}
use Rattle.kern_model.specs.Finish.{finished, finished_with, flags_consumed, consumed_in, consumed_object, consumed_content}
use Rattle.kern_model.specs.Stop.{stopped}
use Rattle.kern_model.proofs.Halves.Effects.{choice}
use Rattle.kern_model.proofs.Linked.ObjectServices.{semaphore_waits, queue_waits}
use Rattle.kern_model.proofs.Linked.Calls.{checked_object, checked_task, NamedTask}
use Rattle.kern_laws.proofs.Changes.Each.{Preserved}
use Rattle.kern_laws.proofs.Changes.Words.{held-words, consumed-word}
use Rattle.kern_laws.proofs.Services.Checks.{named_object, plain-kind}
use Rattle.kern_laws.proofs.Services.Wakes.{After}
use Rattle.kern_laws.proofs.Services.Objects.{preserved-sem_post, preserved-sem_pend, preserved-q_post, preserved-q_pend, preserved-flag_post, preserved-flag_pend, preserved-pend_abort, preserved-delete}
use Rattle.kern_laws.proofs.Services.Mutexes.{preserved-mutex_pend, preserved-mutex_post, preserved-mutex_pend_abort, preserved-mutex_del}
use Rattle.kern_laws.proofs.Services.Tasks.{semaphore_free, queue_free, preserved-task_sem_post_to, preserved-task_q_post_to, preserved-task_sem_pend_on, preserved-task_q_pend_on, preserved-task_abort, preserved-task_suspend, preserved-task_resume, preserved-task_del, preserved-task_change_prio, preserved-sched_lock, preserved-sched_unlock}
use Rattle.kern_laws.proofs.Services.Time.{preserved-round_robin_yield, preserved-time_dly, preserved-resumes_delayed, preserved-time_tick, preserved-tick_unit}
use Rattle.kern_laws.proofs.Services.Timers.{preserved-tmr_start, preserved-tmr_stop, preserved-tmr_remain_get, preserved-tmr_state_get, preserved-tmr_del, preserved-timer_unit}
use Rattle.kern_laws.proofs.Services.Several.{preserved-multi_checked}

-- the task that a call names is an application's and lives
task_of : (r : Request) (x : ℕ) (k : Kernel) (s : Service) → s ≡ r.service → kinds_wanted s ≡ [] → names_task s ≡ true → IsLinked k → call_error r x k ≡ None → NamedTask r x k
task_of r x k s e none names v checked = checked_task r x k v.sizes.application (ap kinds_wanted (sym e) ∙ none) (ap names_task (sym e) ∙ names) checked

module _ (P Q : Kernel → Type 0) (c : Preserved P Q) where
  preserved-perform : (s : Service) (call : Call) (k : Kernel) → s ≡ call.request.service → call_error call.request call.caller k ≡ None → IsLinked k → (is_post s ≡ false → MayCall call.caller k) → IsRequest call.request → P k → After P Q c (perform s call k)
  preserved-perform SemPost call k e checked v m t p = preserved-sem_post P Q c (content_for call.request k) call.request call.compared k refl (named_object call.request call.caller k Sem [] (ap kinds_wanted (sym e)) checked).there v p
  preserved-perform QPost call k e checked v m t p = preserved-q_post P Q c (content_for call.request k) call.request call.compared k refl (named_object call.request call.caller k Queue [] (ap kinds_wanted (sym e)) checked).there t v p
  preserved-perform FlagPost call k e checked v m t p = preserved-flag_post P Q c (content_for call.request k) call.request call.compared k refl (named_object call.request call.caller k Flags [] (ap kinds_wanted (sym e)) checked).there t v p
  preserved-perform TaskSemPost call k e checked v m t p =
      let y = named_task call.request call.caller in
      preserved-task_sem_post_to P Q c (task_at k y).waiting y call.compared k refl v (task_of call.request call.caller k TaskSemPost e refl refl v checked).inside p
  preserved-perform TaskQPost call k e checked v m t p =
      let y = named_task call.request call.caller in
      preserved-task_q_post_to P Q c (task_at k y).waiting call.request y call.compared k refl t v (task_of call.request call.caller k TaskQPost e refl refl v checked).inside p
  preserved-perform TimeTick call k e checked v m t p = preserved-time_tick P Q c call.interrupted call.compared k v p
  preserved-perform SemPend call k e checked v m t p = preserved-sem_pend P Q c (content_for call.request k) call.request call.caller k refl (named_object call.request call.caller k Sem [] (ap kinds_wanted (sym e)) checked).there v (m refl) p
  preserved-perform QPend call k e checked v m t p = preserved-q_pend P Q c (content_for call.request k) call.request call.caller k refl (named_object call.request call.caller k Queue [] (ap kinds_wanted (sym e)) checked).there v (m refl) p
  preserved-perform FlagPend call k e checked v m t p = preserved-flag_pend P Q c (content_for call.request k) call.request call.caller k refl (named_object call.request call.caller k Flags [] (ap kinds_wanted (sym e)) checked).there t v (m refl) p
  preserved-perform MutexPend call k e checked v m t p =
      preserved-mutex_pend P Q c (content_for call.request k) call.request call.caller k refl (named_object call.request call.caller k Mutex [] (ap kinds_wanted (sym e)) checked).there (v.contents (argument call.request 0)) (checked_object call.request call.caller k Mutex [] (ap kinds_wanted (sym e)) checked) v (m refl) p
  preserved-perform TaskSemPend call k e checked v m t p = preserved-task_sem_pend_on P Q c (task_at k call.caller).count call.request call.caller k v (m refl) p
  preserved-perform TaskQPend call k e checked v m t p = preserved-task_q_pend_on P Q c (task_at k call.caller).messages call.request call.caller k refl v (m refl) p
  preserved-perform PendMulti call k e checked v m t p = preserved-multi_checked P Q c (multi_error call.request k) call.request call.caller k refl (sym e) t v (m refl) p
  preserved-perform MutexPost call k e checked v m t p = preserved-mutex_post P Q c (content_for call.request k) call.request call.caller call.compared k refl (named_object call.request call.caller k Mutex [] (ap kinds_wanted (sym e)) checked).there (v.contents (argument call.request 0)) v p
  preserved-perform SemPendAbort call k e checked v m t p =
      preserved-pend_abort P Q c call.request call.compared k (plain-kind Sem (content_for call.request k) refl (named_object call.request call.caller k Sem [] (ap kinds_wanted (sym e)) checked).kind) v p
  preserved-perform QPendAbort call k e checked v m t p =
      preserved-pend_abort P Q c call.request call.compared k (plain-kind Queue (content_for call.request k) refl (named_object call.request call.caller k Queue [] (ap kinds_wanted (sym e)) checked).kind) v p
  preserved-perform FlagPendAbort call k e checked v m t p =
      preserved-pend_abort P Q c call.request call.compared k (plain-kind Flags (content_for call.request k) refl (named_object call.request call.caller k Flags [] (ap kinds_wanted (sym e)) checked).kind) v p
  preserved-perform MutexPendAbort call k e checked v m t p = preserved-mutex_pend_abort P Q c call.request call.compared k v p
  preserved-perform TaskSemPendAbort call k e checked v m t p =
      preserved-task_abort P Q c waits_for_semaphore semaphore_waits semaphore_free call.request call.caller call.compared k v (task_of call.request call.caller k TaskSemPendAbort e refl refl v checked).inside p
  preserved-perform TaskQPendAbort call k e checked v m t p =
      preserved-task_abort P Q c waits_for_queue queue_waits queue_free call.request call.caller call.compared k v (task_of call.request call.caller k TaskQPendAbort e refl refl v checked).inside p
  preserved-perform SemDel call k e checked v m t p =
      let o = named_object call.request call.caller k Sem [] (ap kinds_wanted (sym e)) checked in
      preserved-delete P Q c call.request call.compared k (plain-kind Sem (content_for call.request k) refl o.kind) o.there v p
  preserved-perform QDel call k e checked v m t p =
      let o = named_object call.request call.caller k Queue [] (ap kinds_wanted (sym e)) checked in
      preserved-delete P Q c call.request call.compared k (plain-kind Queue (content_for call.request k) refl o.kind) o.there v p
  preserved-perform FlagDel call k e checked v m t p =
      let o = named_object call.request call.caller k Flags [] (ap kinds_wanted (sym e)) checked in
      preserved-delete P Q c call.request call.compared k (plain-kind Flags (content_for call.request k) refl o.kind) o.there v p
  preserved-perform MutexDel call k e checked v m t p =
      let o = named_object call.request call.caller k Mutex [] (ap kinds_wanted (sym e)) checked in
      preserved-mutex_del P Q c (content_for call.request k) call.request call.compared k refl o.there o.kind v p
  preserved-perform TimeDly call k e checked v m t p = preserved-time_dly P Q c call.request call.caller k v (m refl) p
  preserved-perform TimeDlyResume call k e checked v m t p =
      let y = named_task call.request call.caller in
      preserved-resumes_delayed P Q c (task_at k y).waiting y call.compared k refl v (task_of call.request call.caller k TimeDlyResume e refl refl v checked).inside p
  preserved-perform TimeGet call k e checked v m t p = p
  preserved-perform TaskSuspend call k e checked v m t p = preserved-task_suspend P Q c call.request call.caller k p
  preserved-perform TaskResume call k e checked v m t p = preserved-task_resume P Q c call.request call.caller call.compared k p
  preserved-perform TaskDel call k e checked v m t p = preserved-task_del P Q c call.request call.caller k v (task_of call.request call.caller k TaskDel e refl refl v checked).inside p
  preserved-perform RoundRobinYield call k e checked v m t p = preserved-round_robin_yield P Q c call.caller k p
  preserved-perform SchedLock call k e checked v m t p = preserved-sched_lock P Q c k p
  preserved-perform SchedUnlock call k e checked v m t p = preserved-sched_unlock P Q c call.caller k p
  preserved-perform TmrStart call k e checked v m t p =
      preserved-tmr_start P Q c (content_for call.request k) call.request k refl (named_object call.request call.caller k OneShot (Periodic ∷ []) (ap kinds_wanted (sym e)) checked).there v p
  preserved-perform TmrStop call k e checked v m t p =
      preserved-tmr_stop P Q c (content_for call.request k) call.request k refl (named_object call.request call.caller k OneShot (Periodic ∷ []) (ap kinds_wanted (sym e)) checked).there v p
  preserved-perform TmrRemainGet call k e checked v m t p = preserved-tmr_remain_get P Q c (content_for call.request k) call.request k p
  preserved-perform TmrStateGet call k e checked v m t p = preserved-tmr_state_get P Q c (content_for call.request k) k p
  preserved-perform TmrDel call k e checked v m t p =
      preserved-tmr_del P Q c (content_for call.request k) call.request k refl (named_object call.request call.caller k OneShot (Periodic ∷ []) (ap kinds_wanted (sym e)) checked).there (v.contents (argument call.request 0)) v p
  preserved-perform TaskChangePrio call k e checked v m t p = preserved-task_change_prio P Q c call.request call.caller k v (task_of call.request call.caller k TaskChangePrio e refl refl v checked).inside p
  preserved-perform (Unknown number) call k e checked v m t p = p

  preserved-after_checks : (e : Option OsErr) (call : Call) (k : Kernel) → call_error call.request call.caller k ≡ e → IsLinked k → (is_post call.request.service ≡ false → MayCall call.caller k) → IsRequest call.request → P k → After P Q c (after_checks e call k)
  preserved-after_checks (Some err) call k e v m t p = p
  preserved-after_checks None call k e v m t p = preserved-perform call.request.service call k refl e v m t p

  -- Every call keeps it: a post of any caller, any other call of one that may call, with a table in RAM where one was read.
  pub preserved-effect : (served : Service → Bool) (call : Call) (k : Kernel) → IsLinked k → (is_post call.request.service ≡ false → MayCall call.caller k) → IsRequest call.request → P k → P (effect served call k).kernel
  preserved-effect served call k v m t p =
      choice (After P Q c) (served call.request.service) (after_checks (call_error call.request call.caller k) call k) (refused k CallUnknown) (preserved-after_checks (call_error call.request call.caller k) call k refl v m t p) p

  -- Every unit of an internal task keeps it.
  pub preserved-unit : (x : ℕ) (k : Kernel) → IsLinked k → (x ≡ 60) ⊎ (x ≡ 61) → P k → P (unit_effect x k).kernel
  preserved-unit x k v (inl e) p = subst (λ y. P (unit_effect y k).kernel) (sym e) (preserved-tick_unit P Q c k v p)
  preserved-unit x k v (inr e) p = subst (λ y. P (unit_effect y k).kernel) (sym e) (preserved-timer_unit P Q c k v p)

  -- the event flags that a task consumes when it reads its result

  preserved-consumed_object : (o ready opt : ℕ) (k : Kernel) → IsWord ready → IsLinked k → P k → P (record k { objects = update_object k.objects o (consumed_object ready opt) })
  preserved-consumed_object o ready opt k word v p = by_object (object_at k o).deleted (object_at k o).content refl refl
    where
      same : consumed_object ready opt (object_at k o) ≡ object_at k o → P (record k { objects = update_object k.objects o (consumed_object ready opt) })
      same e =
          c.rest k (record k { objects = update_object k.objects o (consumed_object ready opt) })
          (record { tasks = refl; objects = ap (λ b. slice_set k.objects o b) e ∙ set-get_or k.objects o no_object; pend = refl; timer_matches = refl; settings = refl }) p

      there : (object_at k o).deleted ≡ false → (content : Content) → (object_at k o).content ≡ content → consumed_object ready opt (object_at k o) ≡ record (object_at k o) { content = consumed_content ready opt content }
      there d content e =
          ap (λ z. if z then object_at k o else record (object_at k o) { content = consumed_content ready opt (object_at k o).content }) d
          ∙ ap (λ z. record (object_at k o) { content = consumed_content ready opt z }) e

      as_it_was : (content : Content) → (object_at k o).content ≡ content → record (object_at k o) { content = content } ≡ object_at k o
      as_it_was content e = ap (λ z. record (object_at k o) { content = z }) (sym e)

      by_object : (d : Bool) (content : Content) → (object_at k o).deleted ≡ d → (object_at k o).content ≡ content → P (record k { objects = update_object k.objects o (consumed_object ready opt) })
      by_object true content d e = same (ap (λ z. if z then object_at k o else record (object_at k o) { content = consumed_content ready opt (object_at k o).content }) d)
      by_object false (Bits bits) d e =
          subst (λ b. P (record k { objects = slice_set k.objects o b })) (sym (there d (Bits bits) e))
          (c.content k o (Bits bits) (Bits (consumed bits ready opt)) (record { links = v; there = d; holds = e }) refl
          (consumed-word bits ready opt (held-words k (c.words k p) o (Bits bits) e) word) p)
      by_object false (Count n) d e = same (there d (Count n) e ∙ as_it_was (Count n) e)
      by_object false (Messages limit ms) d e = same (there d (Messages limit ms) e ∙ as_it_was (Messages limit ms) e)
      by_object false (Held owner n) d e = same (there d (Held owner n) e ∙ as_it_was (Held owner n) e)
      by_object false (Timed t) d e = same (there d (Timed t) e ∙ as_it_was (Timed t) e)

  preserved-consumed_in : (os : List ℕ) (ready opt : ℕ) (k : Kernel) → IsWord ready → IsLinked k → P k → P (record k { objects = consumed_in os ready opt k.objects })
  preserved-consumed_in [] ready opt k word v p = p
  preserved-consumed_in (o ∷ os) ready opt k word v p = preserved-consumed_object o ready opt k word v p

  preserved-consumed : (s : Service) (err : OsErr) (t : Task) (ready : ℕ) (k : Kernel) → IsWord ready → IsLinked k → P k → P (record k { objects = flags_consumed s err t ready k.objects })
  preserved-consumed FlagPend NoError t ready k word v p = preserved-consumed_in t.objects ready t.opt k word v p
  preserved-consumed _ _ t ready k word v p = p

  preserved-finished_with : (a : Option Finished) (x : ℕ) (k : Kernel) → (task_at k x).answered ≡ a → IsLinked k → P k → P (finished_with a x k)
  preserved-finished_with None x k e v p = p
  preserved-finished_with (Some f) x k e v p =
      let t = task_at k x in
      let word : IsWord f.answer.value = (subst HasResultWords e ((c.words k p).tasks x).answered).0.0 in
      c.answers (record k { objects = flags_consumed f.service f.answer.err t f.answer.value k.objects }) x None ((λ _. tt), tt) (preserved-consumed f.service f.answer.err t f.answer.value k word v p)

  -- A task that reads the result of its wait keeps it.
  pub preserved-finished : (x : ℕ) (k : Kernel) → IsLinked k → P k → P (finished x k)
  preserved-finished x k v p = preserved-finished_with (task_at k x).answered x k refl v p

  -- So does the trap of a ready application task.
  pub preserved-stopped : (x : ℕ) (k : Kernel) → IsLinked k → x < 60 → is_ready (task_at k x) ≡ true → k.processing ≡ false → P k → P (stopped x k)
  preserved-stopped x k v l r quiet p = c.died k x v l r p
