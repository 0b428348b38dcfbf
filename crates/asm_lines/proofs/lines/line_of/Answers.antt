use Rattle.std.proofs.Common.{rules}
use Rattle.asm_lines.proofs.lines.line_of.Goals as goal
use Rattle.asm_lines.proofs.lines.line_of.Goals.{in_default-via-then-pieces-lt2, in_default-via-else-pieces-lt2+in-Is+in-Named+in-Is-pieces-offset24, in_default-via-else-pieces-lt2+in-Is+in-Number-1, in_default-via-else-pieces-lt2+in-Dotted-1}

pub returns-in_ok-statement_of-in_default : goal.returns-in_ok-statement_of-in_default
returns-in_ok-statement_of-in_default c = elim c.in_default.branch [ in_default-via-then-pieces-lt2 w ↦ search rules | in_default-via-else-pieces-lt2+in-Is+in-Named+in-Is-pieces-offset24 w ↦ search rules | in_default-via-else-pieces-lt2+in-Is+in-Number-1 w ↦ search rules | in_default-via-else-pieces-lt2+in-Dotted-1 w ↦ search rules ]
