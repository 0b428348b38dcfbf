use Rattle.std.proofs.Common.{ap, sym, ◌∙◌, ◌<◌, ◌≤◌, length, subst, refl}
use Rattle.kern_model.specs.State.{Task}
use Rattle.kernel_records.proofs.ObjectFacts.{field-at, task-past}
use Rattle.kernel_records.proofs.records.Records.suspended.Goals as goal

pub returns-then-number-lt-TASKS : goal.returns-then-number-lt-TASKS
returns-then-number-lt-TASKS c =
    let x = c.args.number in
    let ts = c.self.inside.tasks.tasks in
    let h : x < length ts = subst (λ n. x < n) (sym c.self.invariant.tasks) c.if-number-lt-TASKS.true in
    rw (← c.self.view_is)
    (ap (λ (t : Task). t.suspended) c.get.ensures.task ∙ sym (field-at (λ (t : Task). t.suspended) (λ o t. refl) c.self.inside.messages.own ts x h))

pub returns-else-number-lt-TASKS : goal.returns-else-number-lt-TASKS
returns-else-number-lt-TASKS c =
    let x = c.args.number in
    let ts = c.self.inside.tasks.tasks in
    let h : length ts ≤ x = subst (λ n. n ≤ x) (sym c.self.invariant.tasks) c.if-number-lt-TASKS.false in
    rw (← c.self.view_is) (sym (ap (λ (t : Task). t.suspended) (task-past c.self.inside.messages.own ts x h)))
