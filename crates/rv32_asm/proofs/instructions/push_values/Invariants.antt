use Rattle.std.proofs.Common.{◌≡◌, ◌++◌, drop, map}
use Rattle.asm_lines.specs.Pieces.{piece_of, operands_among}
use Rattle.asm_places.specs.NamesView.{known_in}
use Rattle.asm_places.specs.Operands.{value_of}
use Rattle.rv32_asm.proofs.instructions.push_values.Given as goal

abbrev pub invariant-loop-token : goal.invariant-loop-token
invariant-loop-token l = l.words.items ++ map (value_of (known_in l.names) l.places) (operands_among (map (piece_of l.text) (drop l.token-index l.tokens))) ≡ l.initial.words.items ++ map (value_of (known_in l.names) l.places) (operands_among (map (piece_of l.text) l.tokens))
