-- A call keeps the kind of each object.
use Rattle.kern_laws.proofs.ObjectKinds.Calls.{kinds-effect}
use Rattle.kern_laws.proofs.a_call_keeps_the_kinds.Goals as goal

pub returns : goal.returns
returns c = kinds-effect
