-- the kinds of those that were passed, whose fields are words
use Rattle.std.proofs.Common.{◌≡◌, take, map}
use Rattle.std.specs.Prelude.{All}
use Rattle.app_image.specs.Layout.{HasWordFields}
use Rattle.app_image.proofs.images.kinds_in.Given as goal

abbrev pub invariant-loop-object : goal.invariant-loop-object
invariant-loop-object l = record {
  kinds : l.kinds.items ≡ map (λ o. o.kind) (take l.object-index l.objects);
  fields : All HasWordFields (take l.object-index l.objects);
}
