use Rattle.std.proofs.Common.{ap, ◌∙◌}
use Rattle.kern_model.specs.State.{Kernel}
use Rattle.kernel_records.specs.RecordsRecord.{RecordsRecord}
use Rattle.kernel_records.specs.RecordsView.{state_of}
use Rattle.kernel_records.proofs.TimerChanges.{ends-resting}
use Rattle.kernel_records.proofs.records.Records.end_timers.Goals as goal

pub returns-then-self-eq0 : goal.returns-then-self-eq0
returns-then-self-eq0 c =
    let a = c.self.inside in
    c.rest.ensures
    ∙ (rw (← c.self.view_is) (ap (λ (k : Kernel). let r : RecordsRecord = record { state = k; registers = a.tasks.registers } in r) (ends-resting (state_of a) c.if-self-eq0.true)))
