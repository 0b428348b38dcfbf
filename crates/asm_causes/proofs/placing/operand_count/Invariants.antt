use Rattle.std.proofs.Common.{◌≡◌, ◌≤◌, ◌+◌, ℕ, List, drop, length, map}
use Rattle.asm_lines.specs.Pieces.{piece_of, operands_among}
use Rattle.asm_causes.proofs.placing.operand_count.Given as goal

abbrev pub invariant-loop-token : goal.invariant-loop-token
invariant-loop-token l = record {
  counted : (text : List ℕ) → l.count + length (operands_among (map (piece_of text) (drop l.token-index l.tokens))) ≡ length (operands_among (map (piece_of text) l.tokens));
  within : l.count ≤ l.token-index;
}
