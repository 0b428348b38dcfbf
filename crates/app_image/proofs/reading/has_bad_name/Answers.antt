use Rattle.std.proofs.Common.{◌∙◌, sym}
use Rattle.app_image.specs.Reading.{name_at}
use Rattle.app_image.proofs.RowLaws.{bad_next, bad_here}
use Rattle.app_image.proofs.reading.has_bad_name.Goals as goal

pub returns-then-is_bad_name : goal.returns-then-is_bad_name
returns-then-is_bad_name c =
    let told = rw c.name_at.ensures at c.is_bad_name.ensures in
    sym (bad_here (name_at c.args.bytes.now) 36 c.args.count c.loop-k.k c.args.start c.loop-k-test.true (sym told ∙ c.if-is_bad_name.true)) ∙ c.loop-k.invariant

pub loop-k-preserved : goal.loop-k-preserved
loop-k-preserved c =
    let told = rw c.name_at.ensures at c.is_bad_name.ensures in
    bad_next (name_at c.args.bytes.now) 36 c.args.count c.loop-k.k c.args.start c.loop-k-test.true (sym told ∙ c.if-is_bad_name.false) ∙ c.loop-k.invariant
