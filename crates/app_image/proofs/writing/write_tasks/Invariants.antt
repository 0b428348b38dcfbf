-- the tasks that were passed are written
use Rattle.std.proofs.Common.{◌≤◌, take}
use Rattle.std.specs.List.{flat_map}
use Rattle.std.specs.Io.KnownBytes.{Appends}
use Rattle.app_image.specs.Layout.{task_bytes}
use Rattle.app_image.proofs.writing.write_tasks.Given as goal

abbrev pub invariant-loop-task : goal.invariant-loop-task
invariant-loop-task g l = record {
  written : Appends (g.K.Sink.held l.fn.sink) (g.K.Sink.held l.sink) (flat_map task_bytes (take l.task-index l.tasks));
  later : g.K.Sink.faults l.fn.sink ≤ g.K.Sink.faults l.sink;
}
