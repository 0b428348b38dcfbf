use Rattle.std.proofs.Common.{◌≤◌, ◌+◌, ◌-◌, ℕ, List}
use Rattle.std.specs.Io.KnownBytes.{Appends}
use Rattle.case_gen.proofs.GenerateLaws.{HasWritten}
use Rattle.case_gen.proofs.generating.write_interrupts.Given as goal

-- the lines before this number are written
abbrev pub invariant-lines : goal.invariant-lines
invariant-lines g l = record {
  written : (front : List ℕ) × Appends (g.K.Sink.held l.fn.sink) (g.K.Sink.held l.sink) front × HasWritten l.seed l.size front l.number l.draws.0;
  within : l.number ≤ l.size + 1;
  few : l.size ≤ 16384;
  later : g.K.Sink.faults l.fn.sink ≤ g.K.Sink.faults l.sink;
}

-- the lines that are left
abbrev pub decreases-lines : goal.decreases-lines
decreases-lines g l = l.size + 1 - l.number
