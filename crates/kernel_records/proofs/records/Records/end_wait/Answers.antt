use Rattle.std.proofs.Common.{◌≡◌, ◌<◌, ap, sym, ◌∙◌, length, subst, refl}
use Rattle.kern_model.specs.State.{Kernel, Task, task_at}
use Rattle.kernel_records.specs.RecordsRecord.{RecordsRecord}
use Rattle.kernel_records.specs.Ticks.{answer_at_tick}
use Rattle.kernel_records.proofs.ObjectFacts.{field-at}
use Rattle.kernel_records.proofs.TickFacts.{given-at-tick}
use Rattle.kernel_records.proofs.records.Records.end_wait.Goals as goal

pub returns : goal.returns
returns c =
    let x = c.args.task.0 in
    let k = c.args.self.now.state in
    let ts = c.self.inside.tasks.tasks in
    let h : x < length ts = subst (λ n. x < n) (sym c.self.invariant.tasks) c.requires.task in
    let waits : c.get.result.now.wait ≡ (task_at k x).waiting =
    rw (← c.self.view_is) (ap (λ (t : Task). t.waiting) c.get.ensures.task ∙ sym (field-at (λ (t : Task). t.waiting) (λ o t. refl) c.self.inside.messages.own ts x h)) in
    c.give.ensures
    ∙ ap (λ (j : Kernel). let a : RecordsRecord = record { state = j; registers = c.args.self.now.registers } in a)
    (given-at-tick x k c.answer_at_tick-answer.result (c.answer_at_tick-answer.ensures ∙ ap answer_at_tick waits))
