-- the vectors that were passed are written
use Rattle.std.proofs.Common.{◌≤◌, take}
use Rattle.std.specs.List.{flat_map}
use Rattle.std.specs.Io.KnownBytes.{Appends}
use Rattle.app_image.specs.Layout.{vector_bytes}
use Rattle.app_image.proofs.writing.write_vectors.Given as goal

abbrev pub invariant-loop-vector : goal.invariant-loop-vector
invariant-loop-vector g l = record {
  written : Appends (g.K.Sink.held l.fn.sink) (g.K.Sink.held l.sink) (flat_map vector_bytes (take l.vector-index l.vectors));
  later : g.K.Sink.faults l.fn.sink ≤ g.K.Sink.faults l.sink;
}
