use Rattle.std.proofs.Common.{◌≡◌, ◌++◌, ◌-◌, ◌≤◌, ◌+◌, drop, length}
use Rattle.asm_lines.specs.Placing.{placing_lines}
use Rattle.asm_lines.proofs.placing.placing_lines.Given as goal

abbrev pub invariant-loop-at : goal.invariant-loop-at
invariant-loop-at l = record {
  whole : l.placing.items ++ placing_lines l.text (drop l.at l.tokens) ≡ placing_lines l.text l.tokens;
  inside : l.at ≤ length l.tokens + 1;
}

abbrev pub decreases-loop-at : goal.decreases-loop-at
decreases-loop-at l = length l.tokens - l.at
