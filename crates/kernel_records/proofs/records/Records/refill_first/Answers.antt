use Rattle.std.proofs.Common.{◌≤◌, List, ap, sym, ◌∙◌, length, subst, Option}
use Rattle.kern_base.specs.declared.numbers.TaskId.{TaskId}
use Rattle.kern_model.specs.State.{Task}
use Rattle.kern_model.specs.RoundRobin.{full_quantum}
use Rattle.kernel_records.specs.RecordsRecord.{RecordsRecord}
use Rattle.kernel_records.specs.RecordsView.{state_of}
use Rattle.kernel_records.specs.Suspension.{refilled_first}
use Rattle.kernel_records.specs.ObjectView.{tasks_in}
use Rattle.kernel_records.proofs.ObjectFacts.{length-tasks, update-past}
use Rattle.kernel_records.proofs.records.Records.refill_first.Goals as goal

-- there is no such task

pub returns-else-task-lt64 : goal.returns-else-task-lt64
returns-else-task-lt64 c =
    let a = c.self.inside in
    let x = c.in-Some.task.0 in
    let ts = tasks_in a.messages.own a.tasks.tasks in
    let h : length ts ≤ x = subst (λ n. n ≤ x) (sym (length-tasks a.messages.own a.tasks.tasks ∙ c.self.invariant.tasks)) c.if-task-lt64.false in
    rw (← c.self.view_is)
    (ap (λ (us : List Task). let b : RecordsRecord = record { state = record (state_of a) { tasks = us }; registers = a.tasks.registers } in b) (sym (update-past ts x full_quantum h))
    ∙ ap (λ (o : Option TaskId). let b : RecordsRecord = record { state = refilled_first o (state_of a); registers = a.tasks.registers } in b) (sym c.in-Some.is))
