-- A task that reads the result of its wait keeps the kind of each object.
use Rattle.kern_laws.proofs.ObjectKinds.Calls.{kinds-finished}
use Rattle.kern_laws.proofs.a_finish_keeps_the_kinds.Goals as goal

pub returns : goal.returns
returns c = kinds-finished
