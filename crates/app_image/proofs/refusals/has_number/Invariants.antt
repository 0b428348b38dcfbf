-- whether there is one from here on is whether there is one in all
use Rattle.std.proofs.Common.{◌≡◌, ◌==◌, drop}
use Rattle.std.specs.List.{list_any}
use Rattle.app_image.proofs.refusals.has_number.Given as goal

abbrev pub invariant-loop-vector : goal.invariant-loop-vector
invariant-loop-vector l =
    list_any (λ e. e.number == l.number) (drop l.vector-index l.earlier) ≡ list_any (λ e. e.number == l.number) l.earlier
