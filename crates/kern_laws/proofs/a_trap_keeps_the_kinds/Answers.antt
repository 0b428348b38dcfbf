-- A trap keeps the kind of each object.
use Rattle.kern_laws.proofs.ObjectKinds.Calls.{kinds-stopped}
use Rattle.kern_laws.proofs.a_trap_keeps_the_kinds.Goals as goal

pub returns : goal.returns
returns c = kinds-stopped
