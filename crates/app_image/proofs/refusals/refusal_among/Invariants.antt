-- the refusal for the causes from here on is that for all
use Rattle.std.proofs.Common.{◌≡◌, drop}
use Rattle.app_image.specs.Refusal.{refusal_among}
use Rattle.app_image.proofs.refusals.refusal_among.Given as goal

abbrev pub invariant-loop-cause : goal.invariant-loop-cause
invariant-loop-cause l = refusal_among (drop l.cause-index l.causes) l.raw ≡ refusal_among l.causes l.raw
