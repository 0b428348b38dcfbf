use Rattle.std.proofs.Common.{◌≡◌, ◌+◌, ◌-◌, ◌≤◌, drop, length}
use Rattle.std.specs.List.{prefix_len}
use Rattle.asm_lines.specs.Lines.{is_before_end}
use Rattle.asm_lines.proofs.lines.row_end.Given as goal

abbrev pub invariant-loop-end : goal.invariant-loop-end
invariant-loop-end l = record { passed : l.end + prefix_len is_before_end (drop l.end l.tokens) ≡ l.at + prefix_len is_before_end (drop l.at l.tokens); within : l.end ≤ length l.tokens }

abbrev pub decreases-loop-end : goal.decreases-loop-end
decreases-loop-end l = length l.tokens - l.end
