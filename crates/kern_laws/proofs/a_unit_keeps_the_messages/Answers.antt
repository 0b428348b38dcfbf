-- A unit of an internal task loses and makes no message.
use Rattle.kern_model.proofs.Messages.Calls.{pool-unit}
use Rattle.kern_laws.proofs.a_unit_keeps_the_messages.Goals as goal

pub returns : goal.returns
returns c = pool-unit
