use Rattle.std.proofs.Common.{◌≡◌, ◌++◌, ◌≤◌, ℕ, List, drop}
use Rattle.std.specs.Io.KnownBytes.{Appends}
use Rattle.program_model.specs.Listing.{numbered}
use Rattle.ucos_top.proofs.listing.write_rows.Given as goal

-- the rows so far are written, and the rest of the text is that of the rows that are left
abbrev pub invariant-loop-row : goal.invariant-loop-row
invariant-loop-row g l = record {
  number : l.number ≡ l.row-index;
  written : (front : List ℕ) × Appends (g.K.Sink.held l.fn.sink) (g.K.Sink.held l.sink) front
      × (numbered g.R.Rows.text 0 l.rows ≡ front ++ numbered g.R.Rows.text l.row-index (drop l.row-index l.rows));
  later : g.K.Sink.faults l.fn.sink ≤ g.K.Sink.faults l.sink;
}
