use Rattle.std.proofs.Common.{◌≡◌, drop}
use Rattle.kern_model.specs.Several.{repeats}
use Rattle.pend_multi.proofs.tables.repeats.Given as goal

abbrev pub invariant-loop-index : goal.invariant-loop-index
invariant-loop-index l = repeats (drop l.index l.ids) ≡ repeats l.ids
