-- what is found from here on is what is found in all
use Rattle.std.proofs.Common.{◌≡◌, drop}
use Rattle.app_image.specs.Refusal.{setting_line}
use Rattle.app_image.proofs.refusals.setting_line.Given as goal

abbrev pub invariant-loop-setting : goal.invariant-loop-setting
invariant-loop-setting l = setting_line l.cause (drop l.setting-index l.settings) ≡ setting_line l.cause l.settings
