-- The kernel at the start is valid.
use Rattle.kern_laws.proofs.Start.Valid.{valid-start}
use Rattle.kern_laws.proofs.the_start_is_valid.Goals as goal

pub returns : goal.returns
returns c = valid-start
