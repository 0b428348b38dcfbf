-- A frame that leaves changes no memory and nothing of the tasks.
use Rattle.machine_laws.proofs.Isolation.Kernel.{exit-next}
use Rattle.machine_laws.proofs.a_frame_that_leaves_keeps_the_rest.Goals as goal

pub returns : goal.returns
returns c = exit-next
