use Rattle.std.proofs.Common.{◌≡◌, ◌++◌, ◌≤◌, ℕ, List, drop, length}
use Rattle.std.specs.Io.KnownBytes.{Appends}
use Rattle.rv32_listing.specs.Disassembly.{code_lines}
use Rattle.rv32_listing.proofs.listing.write_code_lines.Given as goal

-- the words so far are written, and the rest of the text is that of the words that are left
abbrev pub invariant-loop-word : goal.invariant-loop-word
invariant-loop-word g l = record {
  number : l.number ≡ l.word-index;
  written : (front : List ℕ) × Appends (g.K.Sink.held l.fn.sink) (g.K.Sink.held l.sink) front
      × (code_lines (length l.code) 0 l.code ≡ front ++ code_lines (length l.code) l.word-index (drop l.word-index l.code));
  later : g.K.Sink.faults l.fn.sink ≤ g.K.Sink.faults l.sink;
}
