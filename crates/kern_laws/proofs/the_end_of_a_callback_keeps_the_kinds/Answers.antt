-- The end of a callback keeps the kind of each object.
use Rattle.kern_laws.proofs.ObjectKinds.Calls.{kinds-callback_ended}
use Rattle.kern_laws.proofs.the_end_of_a_callback_keeps_the_kinds.Goals as goal

pub returns : goal.returns
returns c = kinds-callback_ended
