use Rattle.std.proofs.Common.{sym, ◌∙◌}
use Rattle.machine_core.proofs.MachineFacts.{acts-next}
use Rattle.machine_core.proofs.machine.Machine.begin.Goals as goal

-- the current task acts
pub act-requires-clause-rule : goal.act-requires-clause-rule
act-requires-clause-rule g c = acts-next c.args.self.now.method c.args.self.now.state c.requires.rule c.requires.free (sym c.may_take.ensures ∙ c.if-may_take.false)

pub returns-then-may_take-clause-line : goal.returns-then-may_take-clause-line
returns-then-may_take-clause-line g c = c.requires.blank ∙ sym c.begin_take.ensures.line
