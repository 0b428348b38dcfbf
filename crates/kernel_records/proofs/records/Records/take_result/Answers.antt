use Rattle.std.proofs.Common.{◌≡◌, ◌<◌, List, ap, sym, ◌∙◌, length, subst, refl}
use Rattle.std.proofs.lemmas.Bool.{false≢true}
use Rattle.kern_model.specs.State.{Kernel, Task, task_at, update_task}
use Rattle.kern_model.specs.Valid.{has_result}
use Rattle.kern_model.specs.Finish.{finished_with}
use Rattle.kernel_records.specs.RecordsRecord.{RecordsRecord}
use Rattle.kernel_records.specs.RecordsView.{state_of}
use Rattle.kernel_records.specs.TaskChanges.{cleared_task}
use Rattle.kernel_records.proofs.ObjectFacts.{field-at, task-update}
use Rattle.kernel_records.proofs.records.Records.take_result.Goals as goal

pub unreachable-requires : goal.unreachable-requires
unreachable-requires c =
    let x = c.args.task.0 in
    let ts = c.self.inside.tasks.tasks in
    let h : x < length ts = subst (λ n. x < n) (sym c.self.invariant.tasks) c.requires.task in
    let told : (task_at c.args.self.now.state x).answered ≡ c.get.result.now.result =
    rw (← c.self.view_is) (field-at (λ (t : Task). t.answered) (λ o t. refl) c.self.inside.messages.own ts x h ∙ sym (ap (λ (t : Task). t.answered) c.get.ensures.task)) in
    false≢true (sym (ap has_result (told ∙ c.in_default.is)) ∙ c.requires.waits)

pub returns-clause-result : goal.returns-clause-result
returns-clause-result c =
    let x = c.args.task.0 in
    let ts = c.self.inside.tasks.tasks in
    let h : x < length ts = subst (λ n. x < n) (sym c.self.invariant.tasks) c.requires.task in
    let told : (task_at c.args.self.now.state x).answered ≡ c.get.result.now.result =
    rw (← c.self.view_is) (field-at (λ (t : Task). t.answered) (λ o t. refl) c.self.inside.messages.own ts x h ∙ sym (ap (λ (t : Task). t.answered) c.get.ensures.task)) in
    told ∙ c.in-Some.is

pub returns-clause-records : goal.returns-clause-records
returns-clause-records c =
    let x = c.args.task.0 in
    let b = c.self-2.inside in
    let k = c.args.self.now.state in
    let ts = b.tasks.tasks in
    let h : x < length ts = subst (λ n. x < n) (sym c.self-2.invariant.tasks) c.requires.task in
    rw (c.clear_result.ensures.tasks, c.clear_result.ensures.registers)
    (ap (λ (us : List Task). let a : RecordsRecord = record { state = record (state_of b) { tasks = us }; registers = b.tasks.registers } in a) (task-update b.messages.own ts x cleared_task cleared_task h refl)
    ∙ ap (λ (r : RecordsRecord). let a : RecordsRecord = record { state = record r.state { tasks = update_task r.state.tasks x cleared_task }; registers = r.registers } in a) (c.self-2.view_is ∙ c.consume.ensures)
    ∙ ap (λ (j : Kernel). let a : RecordsRecord = record { state = j; registers = c.args.self.now.registers } in a) (sym (ap (λ f. finished_with f x k) (returns-clause-result c))))
