use Rattle.std.proofs.Common.{◌<◌, ◌≤◌, ap, sym, ◌∙◌, length, subst, refl, Option}
use Rattle.kern_base.specs.declared.numbers.TaskId.{TaskId}
use Rattle.kern_model.specs.State.{Task}
use Rattle.round_robin.specs.Turns.{quantum_of}
use Rattle.kernel_records.specs.RecordsView.{state_of}
use Rattle.kernel_records.proofs.ObjectFacts.{field-at, task-past}
use Rattle.kernel_records.proofs.records.Records.quantum_of.Goals as goal

pub returns-then-task-lt64 : goal.returns-then-task-lt64
returns-then-task-lt64 c =
    let a = c.self.inside in
    let x = c.in-Some.task.0 in
    let ts = a.tasks.tasks in
    let h : x < length ts = subst (λ n. x < n) (sym c.self.invariant.tasks) c.if-task-lt64.true in
    rw (← c.self.view_is)
    (ap (λ (t : Task). t.quantum) c.get.ensures.task
    ∙ sym (field-at (λ (t : Task). t.quantum) (λ o t. refl) a.messages.own ts x h)
    ∙ ap (λ (o : Option TaskId). quantum_of o (state_of a)) (sym c.in-Some.is))

pub returns-else-task-lt64 : goal.returns-else-task-lt64
returns-else-task-lt64 c =
    let a = c.self.inside in
    let x = c.in-Some.task.0 in
    let ts = a.tasks.tasks in
    let h : length ts ≤ x = subst (λ n. n ≤ x) (sym c.self.invariant.tasks) c.if-task-lt64.false in
    rw (← c.self.view_is)
    (sym (ap (λ (t : Task). t.quantum) (task-past a.messages.own ts x h))
    ∙ ap (λ (o : Option TaskId). quantum_of o (state_of a)) (sym c.in-Some.is))
