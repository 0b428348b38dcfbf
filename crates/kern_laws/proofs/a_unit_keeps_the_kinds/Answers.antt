-- A unit of an internal task keeps the kind of each object.
use Rattle.kern_laws.proofs.ObjectKinds.Calls.{kinds-unit}
use Rattle.kern_laws.proofs.a_unit_keeps_the_kinds.Goals as goal

pub returns : goal.returns
returns c = kinds-unit
