-- A call keeps the kernel valid.
use Rattle.kern_laws.proofs.Valid.Calls.{valid-effect}
use Rattle.kern_laws.proofs.a_call_keeps_the_kernel_valid.Goals as goal

pub returns : goal.returns
returns c = valid-effect
