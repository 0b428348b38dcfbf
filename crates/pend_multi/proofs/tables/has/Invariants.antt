use Rattle.std.proofs.Common.{◌≡◌, drop}
use Rattle.kern_model.specs.State.{count_of}
use Rattle.pend_multi.proofs.tables.has.Given as goal

abbrev pub invariant-loop-other : goal.invariant-loop-other
invariant-loop-other l = count_of l.id (drop l.other-index l.ids) ≡ count_of l.id l.ids
