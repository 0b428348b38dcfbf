use Rattle.kernel_calls.proofs.MakeFacts.{IsMaking, left_to_make}
use Rattle.kernel_calls.proofs.making.make.Given as goal

abbrev pub invariant-loop : goal.invariant-loop
invariant-loop g l = IsMaking l.fn.link l.fn.steps.prios l.fn.steps.halves.forward l.steps

abbrev pub decreases-loop : goal.decreases-loop
decreases-loop g l = left_to_make l.steps
