-- the words that were passed are written
use Rattle.std.proofs.Common.{◌≤◌, ◌-◌, length, take}
use Rattle.std.specs.Io.KnownBytes.{Appends}
use Rattle.app_image.specs.Layout.{words_bytes}
use Rattle.app_image.proofs.writing.write_words.Given as goal

abbrev pub invariant-loop-at : goal.invariant-loop-at
invariant-loop-at g l = record {
  within : l.at ≤ length l.words;
  written : Appends (g.K.Sink.held l.fn.sink) (g.K.Sink.held l.sink) (words_bytes (take l.at l.words));
  later : g.K.Sink.faults l.fn.sink ≤ g.K.Sink.faults l.sink;
}

abbrev pub decreases-loop-at : goal.decreases-loop-at
decreases-loop-at g l = length l.words - l.at
