-- A task that traps keeps the kernel valid.
use Rattle.kern_laws.proofs.Valid.Calls.{valid-stopped}
use Rattle.kern_laws.proofs.a_trap_keeps_the_kernel_valid.Goals as goal

pub returns : goal.returns
returns c = valid-stopped
