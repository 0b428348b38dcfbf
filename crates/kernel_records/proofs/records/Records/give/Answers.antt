use Rattle.std.proofs.Common.{◌<◌, List, ap, sym, length, subst, refl}
use Rattle.kern_model.specs.State.{Task}
use Rattle.kern_model.specs.Effect.{unmatched}
use Rattle.kernel_records.specs.RecordsRecord.{RecordsRecord}
use Rattle.kernel_records.specs.RecordsView.{state_of}
use Rattle.kernel_records.specs.Served.{IsSingle}
use Rattle.kernel_records.proofs.ObjectFacts.{field-at}
use Rattle.kernel_records.proofs.TaskFacts.{given-tasks}
use Rattle.kernel_records.proofs.records.Records.give.Goals as goal

pub answer_task-requires-clause-single : goal.answer_task-requires-clause-single
answer_task-requires-clause-single c =
    let x = c.args.task.0 in
    let ts = c.self.inside.tasks.tasks in
    let h : x < length ts = subst (λ n. x < n) (sym c.self.invariant.tasks) c.requires.task in
    subst IsSingle (field-at (λ (t : Task). t.waiting) (λ o t. refl) c.self.inside.messages.own ts x h) (rw (← c.self.view_is) at c.requires.single)

pub returns : goal.returns
returns c =
    let x = c.args.task.0 in
    let ts = c.self.inside.tasks.tasks in
    let h : x < length ts = subst (λ n. x < n) (sym c.self.invariant.tasks) c.requires.task in
    rw (← c.self.view_is, c.answer_task.ensures.tasks, c.answer_task.ensures.registers, c.remove.ensures)
    (ap (λ (us : List Task). let a : RecordsRecord = record { state = record (state_of c.self.inside) { tasks = us; matches = unmatched x c.self.inside.ticks.matches }; registers = c.self.inside.tasks.registers } in a)
    (given-tasks c.self.inside.messages.own ts x c.args.answer h))
