-- the vectors of the rows that were passed
use Rattle.std.proofs.Common.{◌≡◌}
use Rattle.app_image.specs.Fields.{rows}
use Rattle.app_image.specs.Reading.{vector_at}
use Rattle.app_image.proofs.parts.read_vectors.Given as goal

abbrev pub invariant-loop-k : goal.invariant-loop-k
invariant-loop-k l = l.vectors.items ≡ rows (vector_at l.bytes) 16 l.k l.start
