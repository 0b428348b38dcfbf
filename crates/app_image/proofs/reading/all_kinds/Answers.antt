use Rattle.std.proofs.Common.{◌≡◌, ◌∙◌, ◌+◌, ◌*◌, true, sym}
use Rattle.app_image.specs.Fields.{word_at}
use Rattle.app_image.specs.Reading.{is_kind}
use Rattle.app_image.proofs.RowLaws.{all_next}
use Rattle.app_image.proofs.reading.all_kinds.Goals as goal

pub loop-k-preserved : goal.loop-k-preserved
loop-k-preserved c =
    let told = rw c.word_at.ensures at c.is_kind.ensures in
    let known : is_kind (word_at c.args.bytes.now ((c.args.start + 36 * c.loop-k.k) + 16)) ≡ true = sym told ∙ c.if-not-is_kind.false in
    all_next (λ p. is_kind (word_at c.args.bytes.now (p + 16))) 36 c.args.count c.loop-k.k c.args.start c.loop-k-test.true known ∙ c.loop-k.invariant
