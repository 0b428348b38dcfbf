use Rattle.std.proofs.Common.{◌≡◌, ◌++◌, ◌≤◌, ℕ, List, drop}
use Rattle.std.specs.List.{flat_map}
use Rattle.std.specs.Io.KnownBytes.{Appends}
use Rattle.rv32_listing.proofs.listing.write_rows.Given as goal

-- the rows so far are written, and the rest of the text is that of the rows that are left
abbrev pub invariant-loop-row : goal.invariant-loop-row
invariant-loop-row g l = record {
  written : (front : List ℕ) × Appends (g.K.Sink.held l.fn.sink) (g.K.Sink.held l.sink) front
      × (flat_map g.R.Rows.text l.rows ≡ front ++ flat_map g.R.Rows.text (drop l.row-index l.rows));
  later : g.K.Sink.faults l.fn.sink ≤ g.K.Sink.faults l.sink;
}
