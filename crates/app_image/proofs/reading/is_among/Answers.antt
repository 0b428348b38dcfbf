use Rattle.std.proofs.Common.{◌≡◌, ◌∙◌, ◌+◌, ◌*◌, false, sym}
use Rattle.std.specs.Str.{bytes_eq}
use Rattle.app_image.specs.Reading.{name_at}
use Rattle.app_image.proofs.RowLaws.{any_next}
use Rattle.app_image.proofs.reading.is_among.Goals as goal

pub loop-k-preserved : goal.loop-k-preserved
loop-k-preserved c =
    let told = rw c.name_at.ensures at c.eq.ensures in
    let other : bytes_eq c.args.name.now (name_at c.args.bytes.now (c.args.start + 36 * c.loop-k.k)) ≡ false = sym told ∙ c.if-eq.false in
    any_next (bytes_eq c.args.name.now) (name_at c.args.bytes.now) 36 c.args.count c.loop-k.k c.args.start c.loop-k-test.true other ∙ c.loop-k.invariant
