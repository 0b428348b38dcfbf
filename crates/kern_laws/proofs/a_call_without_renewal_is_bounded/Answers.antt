-- A call that renews no priorities takes at most 1,200 micro-steps, its first and last among them.
use Rattle.kern_laws.proofs.Cost.Quick.{quick-cost}
use Rattle.kern_laws.proofs.a_call_without_renewal_is_bounded.Goals as goal

pub returns : goal.returns
returns c = quick-cost
