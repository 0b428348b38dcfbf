use Rattle.std.proofs.Common.{sym, ◌∙◌}
use Rattle.kernel_records.proofs.ObjectFacts.{some-ready}
use Rattle.kernel_records.proofs.records.Records.has_readied.Goals as goal

pub returns : goal.returns
returns c = rw (← c.self.view_is) (λ tasks e. c.has_readied.ensures tasks e ∙ sym (some-ready c.args.prio.0 tasks c.self.inside.messages.own c.self.inside.tasks.tasks))
