-- the settings of the keys that were passed
use Rattle.std.proofs.Common.{◌≡◌, take}
use Rattle.app_image.specs.Reading.{settings_at}
use Rattle.app_image.proofs.parts.read_settings.Given as goal

abbrev pub invariant-loop-k : goal.invariant-loop-k
invariant-loop-k l = l.settings.items ≡ settings_at (take l.k l.keys) l.bytes l.start
