-- A call loses and makes no message.
use Rattle.kern_model.proofs.Messages.Calls.{pool-effect}
use Rattle.kern_laws.proofs.a_call_keeps_the_messages.Goals as goal

pub returns : goal.returns
returns c = λ served call k v. pool-effect served call k v.links
