use Rattle.std.proofs.Common.{◌≡◌, ◌++◌, ◌≤◌, ℕ, List, drop, map}
use Rattle.std.specs.List.{flat_map}
use Rattle.std.specs.Io.KnownBytes.{Appends}
use Rattle.asm_lines.specs.Tables.{row_of}
use Rattle.rv32_listing.specs.Disassembly.{setting_line}
use Rattle.rv32_listing.proofs.listing.write_keys.Given as goal

-- the settings so far are written, and the rest of the text is that of the settings that are left
abbrev pub invariant-loop-name : goal.invariant-loop-name
invariant-loop-name g l = record {
  written : (front : List ℕ) × Appends (g.K.Sink.held l.fn.sink) (g.K.Sink.held l.sink) front
      × (flat_map (setting_line l.config) (map row_of l.keys) ≡ front ++ flat_map (setting_line l.config) (map row_of (drop l.name-index l.keys)));
  later : g.K.Sink.faults l.fn.sink ≤ g.K.Sink.faults l.sink;
}
