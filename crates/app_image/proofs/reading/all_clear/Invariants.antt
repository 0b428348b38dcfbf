-- whether all from here on pass is whether all pass
use Rattle.std.proofs.Common.{◌≡◌, ◌+◌, ◌-◌, ◌*◌}
use Rattle.std.specs.List.{list_all}
use Rattle.app_image.specs.Reading.{is_clear, places}
use Rattle.app_image.proofs.reading.all_clear.Given as goal

abbrev pub invariant-loop-k : goal.invariant-loop-k
invariant-loop-k l = list_all (is_clear l.bytes) (places 36 (l.count - l.k) (l.start + 36 * l.k)) ≡ list_all (is_clear l.bytes) (places 36 l.count l.start)
