-- The operands of a statement as the code has them.
use Rattle.std.specs.Prelude.{ℕ, ◌+◌, List, [], ◌∷◌, decimal}
use Rattle.std.specs.Fmt.{signed_decimal}
use Rattle.rv32_listing.specs.Texts.{based, label, register}
use Rattle.rv32_listing.specs.declared.pieces.Operand.{Operand}
use Rattle.rv32_listing.specs.declared.pieces.Operand.TheVariants.{Register, Constant, Based, Label, Number}

-- an operand as it is written
abbrev pub operand_text : Operand → List ℕ
operand_text (Register number) = register number
operand_text (Constant imm) = signed_decimal imm
operand_text (Based imm rs1) = based imm rs1
operand_text (Label address) = label address
operand_text (Number number) = decimal number

-- the most bytes that an operand takes, with what stands before it
abbrev pub operand_room : Operand → ℕ
operand_room (Register number) = 6
operand_room (Constant imm) = 13
operand_room (Based imm rs1) = 19
operand_room (Label address) = 43
operand_room (Number number) = 12

abbrev pub room_for : List Operand → ℕ
room_for [] = 0
room_for (operand ∷ operands) = operand_room operand + room_for operands
