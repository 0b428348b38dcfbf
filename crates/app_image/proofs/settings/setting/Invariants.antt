-- what is found from here on is what is found in all
use Rattle.std.proofs.Common.{◌≡◌, drop}
use Rattle.app_image.specs.Settings.{setting}
use Rattle.app_image.proofs.settings.setting.Given as goal

abbrev pub invariant-loop-line : goal.invariant-loop-line
invariant-loop-line l = setting l.key (drop l.line-index l.lines) ≡ setting l.key l.lines
