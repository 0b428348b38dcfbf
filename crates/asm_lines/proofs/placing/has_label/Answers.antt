use Rattle.std.proofs.Common.{arith}
use Rattle.asm_lines.proofs.PlacingLaws.{no_label}
use Rattle.asm_lines.proofs.placing.has_label.Goals as goal

pub returns-in_default-clause-label : goal.returns-in_default-clause-label
returns-in_default-clause-label c = λ text. no_label text c.args.pieces.now (omega (arith, c.in_default.len_below))
