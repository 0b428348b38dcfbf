-- A task that traps keeps its messages.
use Rattle.kern_model.proofs.Messages.Calls.{pool-stopped}
use Rattle.kern_laws.proofs.a_trap_keeps_the_messages.Goals as goal

pub returns : goal.returns
returns c = pool-stopped
