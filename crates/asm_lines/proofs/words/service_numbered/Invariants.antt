use Rattle.std.proofs.Common.{◌≡◌}
use Rattle.asm_lines.specs.Words.{service_numbered}
use Rattle.asm_lines.proofs.words.service_numbered.Given as goal

abbrev pub invariant-loop-number : goal.invariant-loop-number
invariant-loop-number l = service_numbered l.number l.name ≡ service_numbered l.last l.name

abbrev pub decreases-loop-number : goal.decreases-loop-number
decreases-loop-number l = l.number
