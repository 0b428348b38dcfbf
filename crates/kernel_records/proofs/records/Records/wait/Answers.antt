use Rattle.std.proofs.Common.{◌<◌, ◌++◌, List, ap, sym, length, subst, refl}
use Rattle.kern_model.specs.State.{Task}
use Rattle.kern_model.specs.Effect.{new_match, waiting_task}
use Rattle.decisions.specs.Decided.{wait_of}
use Rattle.kernel_records.specs.RecordsRecord.{RecordsRecord}
use Rattle.kernel_records.specs.RecordsView.{state_of}
use Rattle.kernel_records.proofs.ObjectFacts.{task-update}
use Rattle.kernel_records.proofs.records.Records.wait.Goals as goal

pub returns : goal.returns
returns c =
    let x = c.args.caller.0 in
    let ts = c.self.inside.tasks.tasks in
    let w = wait_of c.args.request.now.service c.args.request.now c.self.inside.ticks.ticks in
    let h : x < length ts = subst (λ n. x < n) (sym c.self.invariant.tasks) c.requires.caller in
    rw (← c.self.view_is, c.wait_for-timeout.ensures.tasks, c.wait_for-timeout.ensures.registers, c.add_match.ensures, c.wait_for-timeout.ensures.timeout)
    (ap (λ (us : List Task). let a : RecordsRecord = record { state = record (state_of c.self.inside) { tasks = us; matches = c.self.inside.ticks.matches ++ new_match x w.timeout c.self.inside.ticks.ticks }; registers = c.self.inside.tasks.registers } in a)
    (task-update c.self.inside.messages.own ts x (waiting_task w) (waiting_task w) h refl))
