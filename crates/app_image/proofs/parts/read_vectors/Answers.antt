use Rattle.std.proofs.Common.{◌≡◌, ◌∙◌, true, refl, sym}
use Rattle.std.specs.Result.{is_ok}
use Rattle.app_image.specs.Reading.{vector_at}
use Rattle.app_image.proofs.RowLaws.{rows_push, pushed}
use Rattle.app_image.proofs.parts.read_vectors.Goals as goal

pub loop-k-preserved : goal.loop-k-preserved
loop-k-preserved c =
    let ok : is_ok c.push.result ≡ true = rw c.is_err.ensures.negation (rw c.if-is_err.false refl) in
    let more = pushed (is_ok c.push.result) c.push.new.self.items c.loop-k.vectors.items c.vector_at.result c.push.ensures.items ok in
    rw (c.vector_at.ensures, c.loop-k.invariant) at more ∙ sym (rows_push (vector_at c.args.bytes.now) 16 c.loop-k.k c.args.start)
