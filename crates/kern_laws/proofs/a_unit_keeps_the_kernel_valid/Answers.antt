-- A unit of an internal task keeps the kernel valid.
use Rattle.kern_laws.proofs.Valid.Calls.{valid-unit}
use Rattle.kern_laws.proofs.a_unit_keeps_the_kernel_valid.Goals as goal

pub returns : goal.returns
returns c = valid-unit
