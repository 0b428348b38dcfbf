use Rattle.std.proofs.Common.{◌<◌, List, ap, sym, length, subst, refl}
use Rattle.kern_model.specs.State.{Task}
use Rattle.kern_model.specs.RoundRobin.{full_quantum}
use Rattle.kernel_records.specs.RecordsRecord.{RecordsRecord}
use Rattle.kernel_records.specs.RecordsView.{state_of}
use Rattle.kernel_records.proofs.ObjectFacts.{task-update}
use Rattle.kernel_records.proofs.records.Records.refill.Goals as goal

pub returns : goal.returns
returns c =
    let x = c.args.task.0 in
    let ts = c.self.inside.tasks.tasks in
    let h : x < length ts = subst (λ n. x < n) (sym c.self.invariant.tasks) c.requires.task in
    rw (← c.self.view_is, c.refill.ensures.tasks, c.refill.ensures.registers)
    (ap (λ (us : List Task). let a : RecordsRecord = record { state = record (state_of c.self.inside) { tasks = us }; registers = c.self.inside.tasks.registers } in a)
    (task-update c.self.inside.messages.own ts x full_quantum full_quantum h refl))
