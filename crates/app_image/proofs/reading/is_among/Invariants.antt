-- whether the name is among those from here on is whether it is among all
use Rattle.std.proofs.Common.{◌≡◌, ◌+◌, ◌-◌, ◌*◌}
use Rattle.std.specs.List.{list_any}
use Rattle.std.specs.Str.{bytes_eq}
use Rattle.app_image.specs.Fields.{rows}
use Rattle.app_image.specs.Reading.{name_at}
use Rattle.app_image.proofs.reading.is_among.Given as goal

abbrev pub invariant-loop-k : goal.invariant-loop-k
invariant-loop-k l =
    list_any (bytes_eq l.name) (rows (name_at l.bytes) 36 (l.count - l.k) (l.start + 36 * l.k)) ≡ list_any (bytes_eq l.name) (rows (name_at l.bytes) 36 l.count l.start)
