-- what is found from here on, behind those that were passed, is what is found in all
use Rattle.std.proofs.Common.{◌≡◌, [], take, drop}
use Rattle.app_image.specs.Refusal.{vector_twice}
use Rattle.app_image.proofs.refusals.vector_twice.Given as goal

abbrev pub invariant-loop-i : goal.invariant-loop-i
invariant-loop-i l = vector_twice (take l.i l.vectors) (drop l.i l.vectors) ≡ vector_twice [] l.vectors
