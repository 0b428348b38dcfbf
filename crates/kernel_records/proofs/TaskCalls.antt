-- What is known of the task that a call on its own semaphore or queue is about.
use Rattle.std.proofs.Common.{◌≡◌, ℕ, ◌<◌, length, refl, sym, ap, ◌∙◌, subst, true, false, ◌&&◌, not, None, Some, inl, inr}
use Rattle.std.specs.Prelude.{if◌then◌else◌, nat_lt}
use Rattle.std.proofs.lemmas.Bool.{false≢true}
use Rattle.std.proofs.lemmas.Bool.Decides.{leb_tells}
use Rattle.std.proofs.lemmas.List.{get_or_past}
use Rattle.kern_base.specs.Checks.{kinds_wanted, names_task, static_error}
use Rattle.kern_base.specs.declared.services.Service.{Service}
use Rattle.kern_base.specs.declared.services.Service.TheVariants.{TaskSemPost, TaskQPost, TaskSemPend, TaskQPend, SemPost, SemPend, QPost, QPend, FlagPost, FlagPend, SemPendAbort, QPendAbort, FlagPendAbort, TaskSemPendAbort, TaskQPendAbort, SemDel, QDel, FlagDel}
use Rattle.kern_base.specs.declared.requests.Request.{Request}
use Rattle.kern_base.specs.declared.errors.OsErr.TheVariants.{ObjectType, TaskNotExist}
use Rattle.kern_base.specs.declared.outcomes.Around.{Around}
use Rattle.kern_base.specs.declared.outcomes.Decision.{Decision}
use Rattle.kern_model.specs.State.{Kernel, Task, kinds_of, no_task, object_at, task_at, task_in}
use Rattle.kern_model.specs.Checks.{call_error, existence_error, is_deleted, named_task, argument}
use Rattle.kernel_records.specs.Served.{serves_object}
use Rattle.kern_model.proofs.Lemmas.{not_false, passed_if, second_passed}
use Rattle.task_objects.specs.Rows as own
use Rattle.task_objects.specs.Rows.{Holds, is_task_call, target}
use Rattle.message_store.specs.Store.{own_at}
use Rattle.kernel_records.specs.declared.records.Records.TheInside.{Inside}
use Rattle.kernel_records.specs.RecordsRecord.{RecordsRecord}
use Rattle.kernel_records.specs.RecordsView.{IsSound, records_of, state_of}
use Rattle.kernel_records.specs.ObjectView.{objects_in, tasks_in, with_own}
use Rattle.kernel_records.specs.Deciding.{task_change}
use Rattle.message_store.specs.Store.{Store, after_own_call}
use Rattle.kernel_records.proofs.CallChanges.{own-changed}
use Rattle.kernel_records.proofs.ObjectFacts.{length-tasks, task-at}

-- a task that a call names and whose checks have passed lives
pub named-alive : (r : Request) (x : ℕ) (k : Kernel) → names_task r.service ≡ true → call_error r x k ≡ None → (task_at k (named_task r x)).alive ≡ true
named-alive r x k n h =
    let second = second_passed (static_error r.service r.args (kinds_of k) (nat_lt x 60)) (existence_error r x k) h in
    let after = (passed_if (is_deleted (kinds_wanted r.service) (object_at k (argument r 0))) ObjectType (if names_task r.service && not (task_at k (named_task r x)).alive then Some TaskNotExist else None) second).1 in
    let dead = (passed_if (names_task r.service && not (task_at k (named_task r x)).alive) TaskNotExist None after).0 in
    not_false (task_at k (named_task r x)).alive (subst (λ b. b && not (task_at k (named_task r x)).alive ≡ false) n dead)

-- and who lives is one of the tasks
pub alive-inside : (k : Kernel) (y : ℕ) → (task_at k y).alive ≡ true → y < length k.tasks
alive-inside k y h =
    elim (leb_tells (length k.tasks) y) [
      | inl d ↦ absurd (false≢true (sym (ap (λ (t : Task). t.alive) (get_or_past k.tasks y no_task d.1)) ∙ h))
      | inr d ↦ d.1
    ]

target-by : (s : Service) (r : Request) (x : ℕ) (k : Kernel) → s ≡ r.service → serves_object s ≡ true → is_task_call s ≡ true → call_error r x k ≡ None → x < length k.tasks → target s r x < length k.tasks
target-by TaskSemPost r x k e p t h l = alive-inside k (named_task r x) (named-alive r x k (ap names_task (sym e)) h)
target-by TaskQPost r x k e p t h l = alive-inside k (named_task r x) (named-alive r x k (ap names_task (sym e)) h)
target-by TaskSemPend r x k e p t h l = l
target-by TaskQPend r x k e p t h l = l
target-by TaskSemPendAbort r x k e p t h l = alive-inside k (named_task r x) (named-alive r x k (ap names_task (sym e)) h)
target-by TaskQPendAbort r x k e p t h l = alive-inside k (named_task r x) (named-alive r x k (ap names_task (sym e)) h)
target-by SemDel r x k e p t h l = absurd (false≢true t)
target-by QDel r x k e p t h l = absurd (false≢true t)
target-by FlagDel r x k e p t h l = absurd (false≢true t)
target-by SemPendAbort r x k e p t h l = absurd (false≢true t)
target-by QPendAbort r x k e p t h l = absurd (false≢true t)
target-by FlagPendAbort r x k e p t h l = absurd (false≢true t)
target-by SemPost r x k e p t h l = absurd (false≢true t)
target-by SemPend r x k e p t h l = absurd (false≢true t)
target-by QPost r x k e p t h l = absurd (false≢true t)
target-by QPend r x k e p t h l = absurd (false≢true t)
target-by FlagPost r x k e p t h l = absurd (false≢true t)
target-by FlagPend r x k e p t h l = absurd (false≢true t)
target-by _ r x k e p t h l = absurd (false≢true p)

module _ (a : Inside) (r : Request) (x : ℕ) (i : IsSound a) (low : x < 64) (s : serves_object r.service ≡ true) (t : is_task_call r.service ≡ true) (p : call_error r x (state_of a) ≡ None) where
  abbrev y : ℕ
  y = target r.service r x

  count : length (state_of a).tasks ≡ 64
  count = length-tasks a.messages.own a.tasks.tasks ∙ i.tasks

  pub target-below : y < 64
  target-below = subst (λ n. y < n) count (target-by r.service r x (state_of a) refl s t p (subst (λ n. x < n) (sym count) low))

  inside : y < length a.tasks.tasks
  inside = subst (λ n. y < n) (sym i.tasks) target-below

  here : task_at (state_of a) y ≡ with_own (own_at a.messages y) (task_in a.tasks.tasks y)
  here = task-at a.messages.own a.tasks.tasks y inside

  pub holds : let o = own_at a.messages y in Holds o.count o.limit o.messages (task_at (state_of a) y)
  holds = record { counted = ap (λ (u : Task). u.count) here; limited = ap (λ (u : Task). u.limit) here; filled = ap (λ (u : Task). u.messages) here }

  pub own-decision : (seen : Around) → let u = task_at (state_of a) y in let o = own_at a.messages y in own.decision_of u.count u.limit u.messages a.messages.free r seen ≡ own.decision_of o.count o.limit o.messages a.messages.free r seen
  own-decision seen = ap (λ (u : Task). own.decision_of u.count u.limit u.messages a.messages.free r seen) here

  -- the records after the task's own semaphore or queue has changed
  abbrev with_store : Store → RecordsRecord
  with_store m = record { state = record (state_of a) { objects = objects_in m.queues a.objects.items; tasks = tasks_in m.own a.tasks.tasks; free = m.free }; registers = a.tasks.registers }

  pub records-own : (d : Decision) (m : Store) → m ≡ after_own_call a.messages y r d → with_store m ≡ record (records_of a) { state = task_change r y d (state_of a) }
  records-own d m e =
      ap with_store e
      ∙ ap (λ us. let b : RecordsRecord = record { state = record (state_of a) { tasks = us; free = own.free_after r.service d a.messages.free }; registers = a.tasks.registers } in b)
      (own-changed a.messages a.tasks.tasks y r d (subst (λ n. y < n) (sym i.own) target-below) (i.own ∙ sym i.tasks))
