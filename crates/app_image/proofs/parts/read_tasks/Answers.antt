use Rattle.std.proofs.Common.{◌≡◌, ◌∙◌, [], true, refl, sym}
use Rattle.std.specs.Result.{is_ok}
use Rattle.app_image.specs.Reading.{task_at, name_at}
use Rattle.app_image.specs.Names.{IsFreeName}
use Rattle.app_image.proofs.RowLaws.{rows_push, row_of, pushed}
use Rattle.app_image.proofs.parts.read_tasks.Goals as goal

pub task_at-requires-clause-name : goal.task_at-requires-clause-name
task_at-requires-clause-name c =
    row_of IsFreeName (name_at c.args.bytes.now) 36 c.args.count c.args.start c.loop-k.k [] c.requires.names c.loop-k-test.true

pub loop-k-preserved : goal.loop-k-preserved
loop-k-preserved c =
    let ok : is_ok c.push.result ≡ true = rw c.is_err.ensures.negation (rw c.if-is_err.false refl) in
    let more = pushed (is_ok c.push.result) c.push.new.self.items c.loop-k.tasks.items c.task_at.result c.push.ensures.items ok in
    rw (c.task_at.ensures, c.loop-k.invariant) at more ∙ sym (rows_push (task_at c.args.bytes.now) 36 c.loop-k.k c.args.start)
