use Rattle.std.proofs.Common.{◌≡◌, length}
use Rattle.asm_lines.specs.KeptForms.{are_values}
use Rattle.asm_lines.proofs.forms.are_values.Given as goal

abbrev pub invariant-loop-rest : goal.invariant-loop-rest
invariant-loop-rest l = are_values l.rest ≡ are_values l.pieces

abbrev pub decreases-loop-rest : goal.decreases-loop-rest
decreases-loop-rest l = length l.rest
