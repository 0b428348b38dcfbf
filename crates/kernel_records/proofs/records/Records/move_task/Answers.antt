use Rattle.std.proofs.Common.{true, ◌≡◌, ◌<◌, ◌≤◌, List, ap, sym, ◌∙◌, length, subst, refl}
use Rattle.std.specs.Prelude.{◌==◌, slice_set}
use Rattle.kern_base.specs.declared.services.Service.{Service}
use Rattle.kern_base.specs.declared.services.Service.TheVariants.{TaskSuspend, RoundRobinYield}
use Rattle.kern_base.specs.declared.requests.Request.{Request}
use Rattle.kern_base.specs.declared.outcomes.Around.{Around}
use Rattle.kern_base.specs.declared.outcomes.Decision.{Decision}
use Rattle.kern_model.specs.State.{Kernel, Task, nesting_limit, update_task}
use Rattle.kern_model.specs.Checks.{named_task}
use Rattle.kern_model.specs.Effect.{answers}
use Rattle.kern_model.specs.Tasks.{suspended_task}
use Rattle.kernel_records.specs.declared.records.Records.TheInside.{Inside}
use Rattle.kernel_records.specs.ObjectView.{tasks_in}
use Rattle.kernel_records.specs.RecordsRecord.{RecordsRecord}
use Rattle.kernel_records.specs.RecordsView.{IsSound, state_of}
use Rattle.kernel_records.specs.Deciding.{decision_of}
use Rattle.kernel_records.specs.Suspension.{moves_task, resumed_task, task_moved}
use Rattle.kernel_records.proofs.ObjectFacts.{field-at, length-tasks, task-update}
use Rattle.kernel_records.proofs.SuspensionFacts.{moved-inside, moved-other, outcome-other, records-other}
use Rattle.kernel_records.proofs.records.Records.move_task.Goals as goal

no-yield : (s : Service) → s ≡ TaskSuspend → s ≡ RoundRobinYield → ⊥
no-yield s e n = absurd cc

-- the task that is moved is one of the tasks
low : (a : Inside) → IsSound a → (r : Request) (seen : Around) (d : Decision) → (r.service ≡ RoundRobinYield → ⊥) → d ≡ decision_of r seen (state_of a) → moves_task r.service d ≡ true → named_task r seen.caller.0 < 64
low a i r seen d n e m = subst (λ n. named_task r seen.caller.0 < n) (length-tasks a.messages.own a.tasks.tasks ∙ i.tasks) (moved-inside r seen d (state_of a) n e m)

-- the records with this state
abbrev with_state : Inside → Kernel → RecordsRecord
with_state a k = record { state = k; registers = a.tasks.registers }

-- and with these tasks
abbrev with_tasks : Inside → List Task → RecordsRecord
with_tasks a us = record { state = record (state_of a) { tasks = us }; registers = a.tasks.registers }

pub suspend_task-requires-clause-task : goal.suspend_task-requires-clause-task
suspend_task-requires-clause-task c =
    subst (λ n. n < 64) (sym (c.named_task-number.ensures c.args.request.now refl))
    (low c.self.inside c.self.invariant c.args.request.now c.args.seen.now c.args.decision.now (no-yield c.args.request.now.service c.in-TaskSuspend.is) (rw (← c.self.view_is) at c.requires.decided) c.requires.moves)

pub suspend_task-requires-clause-few : goal.suspend_task-requires-clause-few
suspend_task-requires-clause-few c =
    let y = c.named_task-number.result in
    let ts = c.self.inside.tasks.tasks in
    let h : y < length ts = subst (λ n. y < n) (sym c.self.invariant.tasks) (suspend_task-requires-clause-task c) in
    let few = (rw (← c.self.view_is) at c.requires.few) y in
    subst (λ n. n ≤ nesting_limit) (field-at (λ (t : Task). t.suspended) (λ o t. refl) c.self.inside.messages.own ts y h) few

pub resume_task-requires : goal.resume_task-requires
resume_task-requires c =
    record {
      task =
          subst (λ n. n < 64) (sym (c.named_task-number.ensures c.args.request.now refl))
          (low c.self-in_default.inside c.self-in_default.invariant c.args.request.now c.args.seen.now c.args.decision.now c.in_default.not-RoundRobinYield (rw (← c.self-in_default.view_is) at c.requires.decided) c.requires.moves);
    }

pub returns-after-own-clause-records : goal.returns-after-own-clause-records
returns-after-own-clause-records c =
    let a = c.self.inside in
    let y = c.named_task-number.result in
    let r = c.args.request.now in
    let x = c.args.seen.now.caller.0 in
    let ts = a.tasks.tasks in
    let is : y ≡ named_task r x = c.named_task-number.ensures r refl in
    let below : y < 64 = subst (λ n. n < 64) (sym is) (low a c.self.invariant r c.args.seen.now c.args.decision.now (no-yield r.service c.in-TaskSuspend.is) (rw (← c.self.view_is) at c.requires.decided) c.requires.moves) in
    let h : y < length ts = subst (λ n. y < n) (sym c.self.invariant.tasks) below in
    let own = y == c.from.result in
    rw (← c.self.view_is, c.suspend_task.ensures.tasks, c.suspend_task.ensures.registers)
    (ap (with_tasks a)
    (task-update a.messages.own ts y (suspended_task own) (suspended_task own) h refl
    ∙ ap (λ z. update_task (tasks_in a.messages.own ts) y (suspended_task (y == z))) c.from.ensures
    ∙ ap (λ n. update_task (tasks_in a.messages.own ts) n (suspended_task (n == x))) is
    ∙ ap (λ s. let n = named_task r x in update_task (tasks_in a.messages.own ts) n (task_moved s (n == x))) (sym c.in-TaskSuspend.is))
    ∙ ap (with_state a) (sym (records-other r.service (named_task r x) x c.args.seen.now.first (state_of a) (no-yield r.service c.in-TaskSuspend.is))))

pub returns-in_default : goal.returns-in_default
returns-in_default c =
    let a = c.self-in_default.inside in
    let y = c.named_task-number.result in
    let r = c.args.request.now in
    let x = c.args.seen.now.caller.0 in
    let ts = a.tasks.tasks in
    let is : y ≡ named_task r x = c.named_task-number.ensures r refl in
    let below : y < 64 = subst (λ n. n < 64) (sym is) (low a c.self-in_default.invariant r c.args.seen.now c.args.decision.now c.in_default.not-RoundRobinYield (rw (← c.self-in_default.view_is) at c.requires.decided) c.requires.moves) in
    let h : y < length ts = subst (λ n. y < n) (sym c.self-in_default.invariant.tasks) below in
    let other = c.in_default.not-TaskSuspend in
    record {
      records =
          rw (← c.self-in_default.view_is, c.resume_task.ensures.tasks, c.resume_task.ensures.registers)
          (ap (with_tasks a)
          (task-update a.messages.own ts y resumed_task resumed_task h refl
          ∙ ap (λ n. update_task (tasks_in a.messages.own ts) n resumed_task) is
          ∙ ap (λ t. let n = named_task r x in slice_set (tasks_in a.messages.own ts) n t) (sym (moved-other r.service (named_task r x == x) _ other)))
          ∙ ap (with_state a) (sym (records-other r.service (named_task r x) x c.args.seen.now.first (state_of a) c.in_default.not-RoundRobinYield)));
      outcome = ap answers c.success.ensures ∙ sym (outcome-other r.service (named_task r x == x) other);
    }
