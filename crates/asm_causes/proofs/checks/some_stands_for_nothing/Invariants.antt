use Rattle.std.proofs.Common.{◌≡◌, drop, map}
use Rattle.std.specs.List.{list_any}
use Rattle.asm_lines.specs.Kept.{operand_said}
use Rattle.asm_places.specs.NamesView.{known_in}
use Rattle.asm_causes.specs.Causes.{stands_for_nothing}
use Rattle.asm_causes.proofs.checks.some_stands_for_nothing.Given as goal

abbrev pub invariant-loop-operand : goal.invariant-loop-operand
invariant-loop-operand l = list_any (stands_for_nothing (known_in l.names)) (map (operand_said l.text) (drop l.operand-index l.operands)) ≡ list_any (stands_for_nothing (known_in l.names)) (map (operand_said l.text) l.operands)
