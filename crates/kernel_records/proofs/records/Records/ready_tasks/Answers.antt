use Rattle.std.proofs.Common.{sym, ◌∙◌}
use Rattle.kernel_records.proofs.ObjectFacts.{ready-in}
use Rattle.kernel_records.proofs.records.Records.ready_tasks.Goals as goal

pub returns : goal.returns
returns c = rw (← c.self.view_is) (c.ready.ensures ∙ sym (ready-in c.self.inside.messages.own c.self.inside.tasks.tasks))
