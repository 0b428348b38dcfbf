-- what is found from here on is what is found in all
use Rattle.std.proofs.Common.{◌≡◌, drop}
use Rattle.app_image.specs.Refusal.{vector_line}
use Rattle.app_image.proofs.refusals.vector_line.Given as goal

abbrev pub invariant-loop-vector : goal.invariant-loop-vector
invariant-loop-vector l = vector_line l.words l.cause (drop l.vector-index l.vectors) ≡ vector_line l.words l.cause l.vectors
