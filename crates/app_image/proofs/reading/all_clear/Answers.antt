use Rattle.std.proofs.Common.{◌∙◌, sym}
use Rattle.app_image.specs.Reading.{is_clear}
use Rattle.app_image.proofs.RowLaws.{all_next}
use Rattle.app_image.proofs.reading.all_clear.Goals as goal

pub loop-k-preserved : goal.loop-k-preserved
loop-k-preserved c =
    all_next (is_clear c.args.bytes.now) 36 c.args.count c.loop-k.k c.args.start c.loop-k-test.true (sym c.is_clear.ensures ∙ c.if-not-is_clear.false) ∙ c.loop-k.invariant
