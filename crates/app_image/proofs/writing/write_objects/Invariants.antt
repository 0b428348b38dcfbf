-- the objects that were passed are written
use Rattle.std.proofs.Common.{◌≤◌, take}
use Rattle.std.specs.List.{flat_map}
use Rattle.std.specs.Io.KnownBytes.{Appends}
use Rattle.app_image.specs.Layout.{object_bytes}
use Rattle.app_image.proofs.writing.write_objects.Given as goal

abbrev pub invariant-loop-object : goal.invariant-loop-object
invariant-loop-object g l = record {
  written : Appends (g.K.Sink.held l.fn.sink) (g.K.Sink.held l.sink) (flat_map object_bytes (take l.object-index l.objects));
  later : g.K.Sink.faults l.fn.sink ≤ g.K.Sink.faults l.sink;
}
