use Rattle.std.proofs.Common.{◌≡◌, ◌++◌, ◌-◌, ◌≤◌, replicate}
use Rattle.rv32_asm.proofs.instructions.push_zeros.Given as goal

abbrev pub invariant-loop-left : goal.invariant-loop-left
invariant-loop-left l = record { added : l.words.items ≡ l.initial.words.items ++ replicate (l.count - l.left) 0; within : l.left ≤ l.count }

abbrev pub decreases-loop-left : goal.decreases-loop-left
decreases-loop-left l = l.left
