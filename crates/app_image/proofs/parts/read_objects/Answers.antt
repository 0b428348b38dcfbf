use Rattle.std.proofs.Common.{◌≡◌, ◌∙◌, [], true, refl, sym}
use Rattle.std.specs.Result.{is_ok}
use Rattle.app_image.specs.Reading.{object_at, name_at}
use Rattle.app_image.specs.Names.{IsFreeName}
use Rattle.app_image.proofs.RowLaws.{rows_push, row_of, pushed}
use Rattle.app_image.proofs.parts.read_objects.Goals as goal

pub object_at-requires-clause-name : goal.object_at-requires-clause-name
object_at-requires-clause-name c =
    row_of IsFreeName (name_at c.args.bytes.now) 36 c.args.count c.args.start c.loop-k.k [] c.requires.names c.loop-k-test.true

pub loop-k-preserved : goal.loop-k-preserved
loop-k-preserved c =
    let ok : is_ok c.push.result ≡ true = rw c.is_err.ensures.negation (rw c.if-is_err.false refl) in
    let more = pushed (is_ok c.push.result) c.push.new.self.items c.loop-k.objects.items c.object_at.result c.push.ensures.items ok in
    rw (c.object_at.ensures, c.loop-k.invariant) at more ∙ sym (rows_push (object_at c.args.bytes.now) 36 c.loop-k.k c.args.start)
