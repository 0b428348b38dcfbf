use Rattle.std.proofs.Common.{◌≡◌, drop}
use Rattle.kern_model.specs.Several.{kinds_error}
use Rattle.pend_multi.proofs.tables.kind_error.Given as goal

abbrev pub invariant-loop-id : goal.invariant-loop-id
invariant-loop-id l = kinds_error (drop l.id-index l.ids) l.kinds ≡ kinds_error l.ids l.kinds
