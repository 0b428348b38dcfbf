use Rattle.std.proofs.Common.{◌≡◌, ◌++◌, ◌+◌, ◌≤◌, map, drop}
use Rattle.arrayvec.specs.ArrayVec.{array_vec_len}
use Rattle.rv32_listing.specs.Texts.{further}
use Rattle.rv32_listing.specs.Operands.{operand_text, room_for}
use Rattle.rv32_listing.proofs.pieces.push_further.Given as goal

-- what is appended, and what is left, are all operands
abbrev pub invariant-loop-operand : goal.invariant-loop-operand
invariant-loop-operand l =
    (array_vec_len l.line + room_for (drop l.operand-index l.operands) ≤ array_vec_len l.initial.line + room_for l.operands)
    × (l.line.items ++ further (map operand_text (drop l.operand-index l.operands)) ≡ l.initial.line.items ++ further (map operand_text l.operands))
