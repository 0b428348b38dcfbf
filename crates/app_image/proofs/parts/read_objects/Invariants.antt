-- the objects of the rows that were passed
use Rattle.std.proofs.Common.{◌≡◌}
use Rattle.app_image.specs.Fields.{rows}
use Rattle.app_image.specs.Reading.{object_at}
use Rattle.app_image.proofs.parts.read_objects.Given as goal

abbrev pub invariant-loop-k : goal.invariant-loop-k
invariant-loop-k l = l.objects.items ≡ rows (object_at l.bytes) 36 l.k l.start
