use Rattle.micro_steps.proofs.Stales.{none_stale}
use Rattle.micro_steps.proofs.start.Start.new.Goals as goal

pub invariant_of-result : goal.invariant_of-result
invariant_of-result c = rw c.new.ensures none_stale
