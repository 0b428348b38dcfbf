use Rattle.std.proofs.Common.{sym, ◌∙◌}
use Rattle.kernel_calls.proofs.PlanningFacts.{none-past}
use Rattle.kernel_calls.proofs.planning.all_waiters.Goals as goal

pub returns-then-number-ge-OBJECTS : goal.returns-then-number-ge-OBJECTS
returns-then-number-ge-OBJECTS g c = c.requires.empty ∙ sym (none-past c.args.pend.now.forward c.args.number c.consistent.ensures.forward c.if-number-ge-OBJECTS.true)
