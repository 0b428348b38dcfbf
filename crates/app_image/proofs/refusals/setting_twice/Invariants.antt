-- what is found from here on, behind those that were passed, is what is found in all
use Rattle.std.proofs.Common.{◌≡◌, [], take, drop}
use Rattle.app_image.specs.Refusal.{setting_twice}
use Rattle.app_image.proofs.refusals.setting_twice.Given as goal

abbrev pub invariant-loop-i : goal.invariant-loop-i
invariant-loop-i l = setting_twice (take l.i l.settings) (drop l.i l.settings) ≡ setting_twice [] l.settings
