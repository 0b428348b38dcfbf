use Rattle.std.proofs.Common.{◌≡◌, ◌++◌, ◌+◌, ◌-◌, ◌≤◌, length, min}
use Rattle.asm_lines.specs.KeptLines.{read}
use Rattle.asm_lines.proofs.RowLaws.{rest_of}
use Rattle.asm_lines.proofs.lines.read_rows.Given as goal

abbrev pub invariant-loop-at : goal.invariant-loop-at
invariant-loop-at l = record {
  lines : l.lines.items ++ (rest_of l.text l.tokens l.at).lines ≡ (read l.text l.tokens).lines;
  used : min (length l.tokens) (l.at + (rest_of l.text l.tokens l.at).used) ≡ (read l.text l.tokens).used;
  few : length l.lines.items ≤ l.at;
  inside : l.at ≤ length l.tokens + 1;
}

abbrev pub decreases-loop-at : goal.decreases-loop-at
decreases-loop-at l = length l.tokens - l.at
