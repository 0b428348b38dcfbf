-- A task that reads the result of its wait loses and makes no message.
use Rattle.kern_model.proofs.Messages.Calls.{pool-finished}
use Rattle.kern_laws.proofs.a_finish_keeps_the_messages.Goals as goal

pub returns : goal.returns
returns c = pool-finished
