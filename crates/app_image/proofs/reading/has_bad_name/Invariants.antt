-- whether one from here on is bad, behind those that were passed, is whether one of all is
use Rattle.std.proofs.Common.{◌≡◌, ◌+◌, ◌-◌, ◌*◌, []}
use Rattle.app_image.specs.Fields.{rows}
use Rattle.app_image.specs.Reading.{name_at, has_bad_name}
use Rattle.app_image.proofs.reading.has_bad_name.Given as goal

abbrev pub invariant-loop-k : goal.invariant-loop-k
invariant-loop-k l =
    has_bad_name (rows (name_at l.bytes) 36 l.k l.start) (rows (name_at l.bytes) 36 (l.count - l.k) (l.start + 36 * l.k)) ≡ has_bad_name [] (rows (name_at l.bytes) 36 l.count l.start)
