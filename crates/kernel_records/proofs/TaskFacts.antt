-- Who waits for a task's own semaphore or queue, and what is changed of a task.
use Rattle.std.proofs.Common.{◌≡◌, ℕ, ◌<◌, List, [], ◌∷◌, length, refl, sym, ap, ◌∙◌, Bool, true, false, Some, None}
use Rattle.std.specs.Prelude.{if◌then◌else◌, slice_index_or}
use Rattle.std.specs.Bool.{then_some}
use Rattle.kern_base.specs.declared.services.Service.{Service}
use Rattle.std.proofs.lemmas.Bool.{false≢true}
use Rattle.kern_base.specs.declared.services.Service.TheVariants.{FlagPend, TaskQPost, TaskQPend, TaskQPendAbort}
use Rattle.kern_base.specs.declared.errors.OsErr.{OsErr}
use Rattle.kern_base.specs.declared.errors.OsErr.TheVariants.{NoError}
use Rattle.kern_model.specs.Finish.{consumed_in, flags_consumed}
use Rattle.kern_base.specs.declared.outcomes.Answer.{Answer}
use Rattle.kern_base.specs.declared.outcomes.Finished.{Finished}
use Rattle.kern_base.specs.declared.outcomes.Waiting.{Waiting}
use Rattle.kern_base.specs.declared.outcomes.Waiting.TheVariants.{No, Delay, Obj, TaskSem, TaskQ, Multi, Signal}
use Rattle.kernel_records.specs.TaskChanges.{took_flags}
use Rattle.kern_model.specs.State.{Kernel, Object, Task, task_at, task_in, update_task}
use Rattle.kern_model.specs.Effect.{answered_task, fine, result_of, waited}
use Rattle.kern_model.specs.FlagBits.{ready_bits}
use Rattle.decisions.specs.Around.{first_waiter}
use Rattle.task_objects.specs.Rows.{waiters, waits_for_it}
use Rattle.message_store.specs.Store.{OwnObjects, no_own}
use Rattle.kernel_records.specs.Concluding.{given, given_ready, looked_at}
use Rattle.kernel_records.specs.ObjectView.{tasks_in, with_own}
use Rattle.kernel_records.proofs.ObjectFacts.{task-at, task-update}

-- who waits for nothing waits for neither
no-wait : (s : Service) → waits_for_it s No ≡ false
no-wait TaskQPost = refl
no-wait TaskQPend = refl
no-wait TaskQPendAbort = refl
no-wait _ = refl

pub waiters-none : (s : Service) (y : ℕ) (k : Kernel) → (task_at k y).waiting ≡ No → None ≡ first_waiter (waiters s y k)
waiters-none s y k e = ap (λ (b : Bool). first_waiter (if b then y ∷ [] else [])) (sym (ap (waits_for_it s) e ∙ no-wait s))

pub waiters-first : (b : Bool) (y : ℕ) → then_some b (record { 0 = y }) ≡ first_waiter (if b then y ∷ [] else [])
waiters-first true y = refl
waiters-first false y = refl

-- a result does not depend on the task's own semaphore and queue
waited-own : (w : Waiting) (o : OwnObjects) (t : Task) (a : Answer) → waited w (with_own o t) a ≡ waited w t a
waited-own No o t a = refl
waited-own Delay o t a = refl
waited-own (Obj s) o t a = refl
waited-own TaskSem o t a = refl
waited-own TaskQ o t a = refl
waited-own Multi o t a = refl
waited-own Signal o t a = refl

pub given-tasks : (os : List OwnObjects) (ts : List Task) (x : ℕ) (a : Answer) → x < length ts → tasks_in os (update_task ts x (answered_task (result_of a (task_in ts x)))) ≡ update_task (tasks_in os ts) x (answered_task (result_of a (task_in (tasks_in os ts) x)))
given-tasks os ts x a h =
    let o = slice_index_or os x no_own in
    let t = task_in ts x in
    task-update os ts x (answered_task (result_of a t)) (answered_task (result_of a (task_in (tasks_in os ts) x))) h
    (ap (λ (f : Finished). answered_task f (with_own o t)) (sym (waited-own t.waiting o t a) ∙ ap (result_of a) (sym (task-at os ts x h))))

-- a waiter for event flags that is looked at
pub looked-some : (bits mask opt ready x : ℕ) (k : Kernel) → ready_bits bits mask opt ≡ Some ready → mask ≡ (task_at k x).mask → opt ≡ (task_at k x).opt → looked_at bits x k ≡ given x (result_of (fine ready)) k
looked-some bits mask opt ready x k e m o = ap (λ r. given_ready r x k) (sym (ap (λ a. ready_bits bits a opt) m ∙ ap (ready_bits bits (task_at k x).mask) o) ∙ e)

pub looked-none : (bits mask opt x : ℕ) (k : Kernel) → ready_bits bits mask opt ≡ None → mask ≡ (task_at k x).mask → opt ≡ (task_at k x).opt → looked_at bits x k ≡ k
looked-none bits mask opt x k e m o = ap (λ r. given_ready r x k) (sym (ap (λ a. ready_bits bits a opt) m ∙ ap (ready_bits bits (task_at k x).mask) o) ∙ e)

-- what a result of a wait for event flags consumes
pub flags-taken : (s : Service) (err : OsErr) (t : Task) (ready : ℕ) (bs : List Object) → took_flags s err ≡ true → flags_consumed s err t ready bs ≡ consumed_in t.objects ready t.opt bs
flags-taken FlagPend NoError t ready bs h = refl
flags-taken FlagPend _ t ready bs h = absurd (false≢true h)
flags-taken _ err t ready bs h = absurd (false≢true h)

pub flags-left : (s : Service) (err : OsErr) (t : Task) (ready : ℕ) (bs : List Object) → took_flags s err ≡ false → flags_consumed s err t ready bs ≡ bs
flags-left FlagPend NoError t ready bs h = absurd (false≢true (sym h))
flags-left FlagPend _ t ready bs h = refl
flags-left _ err t ready bs h = refl
