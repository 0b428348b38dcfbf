use Rattle.std.proofs.Common.{◌+◌, take, drop, subst, sym, arith}
use Rattle.std.specs.List.{flat_map}
use Rattle.std.specs.Io.KnownBytes.{Appends}
use Rattle.std.proofs.KnownBytes.{Appends-trans}
use Rattle.std.proofs.lemmas.Result.{err_from_is_err_and}
use Rattle.outside.proofs.Known.{AppendsPrefix-after}
use Rattle.app_image.specs.Layout.{task_bytes}
use Rattle.app_image.proofs.Pieces.{flat_map-next, flat_map-with}
use Rattle.app_image.proofs.writing.write_tasks.Goals as goal

-- a prefix of the next task is written, behind those before it
pub returns-in_err-write-clause-bytes : goal.returns-in_err-write-clause-bytes
returns-in_err-write-clause-bytes g c =
    let p = err_from_is_err_and c.from_residual.result c.from_residual.ensures.1 in
    let xs = c.args.tasks.now in
    let i = c.loop-task.task-index in
    let x = c.task-item.result in
    let said = rw (c.as_slice.ensures.value, c.task_piece-piece.ensures) at c.in_err-write.ensures.bytes in
    rw p.1 (AppendsPrefix-after (g.K.Sink.held c.args.sink.now) (g.K.Sink.held c.loop-task.sink) (g.K.Sink.held c.write.new.self)
    (flat_map task_bytes (take i xs)) (task_bytes x) (flat_map task_bytes (drop (i + 1) xs)) (flat_map task_bytes xs)
    c.loop-task.invariant.written said (flat_map-next task_bytes xs i x c.loop-task-test.true c.task-item.is))

-- the next task is written
pub loop-task-preserved : goal.loop-task-preserved
loop-task-preserved g c =
    let xs = c.args.tasks.now in
    let i = c.loop-task.task-index in
    let x = c.task-item.result in
    let said = rw (c.as_slice.ensures.value, c.task_piece-piece.ensures) at c.in_ok-write.ensures.bytes in
    record {
      written = subst (Appends (g.K.Sink.held c.args.sink.now) (g.K.Sink.held c.write.new.self)) (sym (flat_map-with task_bytes xs i x c.loop-task-test.true c.task-item.is))
          (Appends-trans (g.K.Sink.held c.args.sink.now) (g.K.Sink.held c.loop-task.sink) (g.K.Sink.held c.write.new.self) (flat_map task_bytes (take i xs)) (task_bytes x) c.loop-task.invariant.written said);
      later = omega (arith, c.in_ok-write.ensures.cause.later);
    }
