-- whether there is one from here on is whether there is one in all
use Rattle.std.proofs.Common.{◌≡◌, ◌==◌, drop}
use Rattle.std.specs.List.{list_any}
use Rattle.app_image.specs.Settings.{key_number}
use Rattle.app_image.proofs.refusals.has_key.Given as goal

abbrev pub invariant-loop-setting : goal.invariant-loop-setting
invariant-loop-setting l =
    list_any (λ e. key_number e.key == key_number l.key) (drop l.setting-index l.earlier) ≡ list_any (λ e. key_number e.key == key_number l.key) l.earlier
