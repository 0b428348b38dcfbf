-- The end of a callback keeps the kernel valid.
use Rattle.kern_laws.proofs.Valid.Calls.{valid-callback_ended}
use Rattle.kern_laws.proofs.the_end_of_a_callback_keeps_the_kernel_valid.Goals as goal

pub returns : goal.returns
returns c = valid-callback_ended
