use Rattle.std.proofs.Common.{ap, sym}
use Rattle.decisions.specs.Around.{first_waiter}
use Rattle.kernel_calls.proofs.PlanningFacts.{none-past}
use Rattle.kernel_calls.proofs.planning.first_waiter.Goals as goal

pub returns-then-number-ge-OBJECTS : goal.returns-then-number-ge-OBJECTS
returns-then-number-ge-OBJECTS g c = sym (ap first_waiter (none-past c.args.pend.now.forward c.args.number c.consistent.ensures.forward c.if-number-ge-OBJECTS.true))
