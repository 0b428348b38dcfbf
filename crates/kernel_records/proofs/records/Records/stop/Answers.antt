use Rattle.std.proofs.Common.{◌<◌, List, ap, sym, length, subst, refl}
use Rattle.kern_model.specs.State.{Task}
use Rattle.kernel_records.specs.RecordsRecord.{RecordsRecord}
use Rattle.kernel_records.specs.RecordsView.{state_of}
use Rattle.kernel_records.specs.TaskChanges.{stopped_task}
use Rattle.kernel_records.proofs.ObjectFacts.{task-update}
use Rattle.kernel_records.proofs.records.Records.stop.Goals as goal

pub returns : goal.returns
returns c =
    let x = c.args.task.0 in
    let ts = c.self.inside.tasks.tasks in
    let h : x < length ts = subst (λ n. x < n) (sym c.self.invariant.tasks) c.requires in
    rw (← c.self.view_is, c.stop_task.ensures.tasks, c.stop_task.ensures.registers)
    (ap (λ (us : List Task). let a : RecordsRecord = record { state = record (state_of c.self.inside) { tasks = us; lock = 0 }; registers = c.self.inside.tasks.registers } in a)
    (task-update c.self.inside.messages.own ts x stopped_task stopped_task h refl))
