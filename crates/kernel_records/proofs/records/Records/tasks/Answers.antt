use Rattle.std.proofs.Common.{sym, ◌∙◌}
use Rattle.kernel_records.proofs.ObjectFacts.{without-in}
use Rattle.kernel_records.proofs.records.Records.tasks.Goals as goal

pub returns-clause-tasks : goal.returns-clause-tasks
returns-clause-tasks c = rw (← c.self.view_is) (sym c.stand_alone.ensures ∙ sym (without-in c.self.inside.messages.own c.self.inside.tasks.tasks))
