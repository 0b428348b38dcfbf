-- A post without a caller keeps the kind of each object.
use Rattle.kern_laws.proofs.ObjectKinds.Calls.{kinds-posted}
use Rattle.kern_laws.proofs.a_post_keeps_the_kinds.Goals as goal

pub returns : goal.returns
returns c = kinds-posted
