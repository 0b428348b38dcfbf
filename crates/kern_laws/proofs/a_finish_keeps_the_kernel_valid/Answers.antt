-- A task that reads the result of its wait keeps the kernel valid.
use Rattle.kern_laws.proofs.Valid.Calls.{valid-finished}
use Rattle.kern_laws.proofs.a_finish_keeps_the_kernel_valid.Goals as goal

pub returns : goal.returns
returns c = valid-finished
