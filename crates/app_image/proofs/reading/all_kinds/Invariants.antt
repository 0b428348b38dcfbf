-- whether all from here on pass is whether all pass
use Rattle.std.proofs.Common.{◌≡◌, ◌+◌, ◌-◌, ◌*◌}
use Rattle.std.specs.List.{list_all}
use Rattle.app_image.specs.Fields.{word_at}
use Rattle.app_image.specs.Reading.{is_kind, places}
use Rattle.app_image.proofs.reading.all_kinds.Given as goal

abbrev pub invariant-loop-k : goal.invariant-loop-k
invariant-loop-k l =
    list_all (λ p. is_kind (word_at l.bytes (p + 16))) (places 36 (l.count - l.k) (l.start + 36 * l.k)) ≡ list_all (λ p. is_kind (word_at l.bytes (p + 16))) (places 36 l.count l.start)
