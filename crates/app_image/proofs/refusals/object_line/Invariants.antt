-- what is found from here on is what is found in all
use Rattle.std.proofs.Common.{◌≡◌, drop}
use Rattle.app_image.specs.Refusal.{object_line}
use Rattle.app_image.proofs.refusals.object_line.Given as goal

abbrev pub invariant-loop-object : goal.invariant-loop-object
invariant-loop-object l = object_line l.words l.cause (drop l.object-index l.objects) ≡ object_line l.words l.cause l.objects
