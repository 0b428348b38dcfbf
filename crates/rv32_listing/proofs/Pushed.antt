-- Bytes that are appended one piece after the other.
use Rattle.std.proofs.Common.{◌≡◌, ℕ, ◌+◌, ◌≤◌, ◌<◌, List, ◌∷◌, ◌++◌, length, map, drop, get_or, ap, ◌∙◌, arith, append_assoc}
use Rattle.std.proofs.lemmas.List.{drop_more}
use Rattle.rv32_listing.specs.Texts.{further}
use Rattle.rv32_listing.specs.Operands.{operand_text, operand_room, room_for}
use Rattle.rv32_listing.specs.declared.pieces.Operand.{Operand}
use Rattle.rv32_listing.specs.declared.pieces.Operand.TheVariants.{Register, Constant, Based, Label, Number}

-- two pieces are one
pub pushed : (line mid end a b : List ℕ) → mid ≡ line ++ a → end ≡ mid ++ b → end ≡ line ++ (a ++ b)
pushed line mid end a b p q = q ∙ (ap (λ l. l ++ b) p ∙ append_assoc line a b)

-- each operand has some room
pub some_room : (o : Operand) → 6 ≤ operand_room o
some_room (Register number) = omega arith
some_room (Constant imm) = omega arith
some_room (Based imm rs1) = omega arith
some_room (Label address) = omega arith
some_room (Number number) = omega arith

-- the next operand, and those behind it
pub room_more : (operands : List Operand) (i : ℕ) (d : Operand) → i < length operands
    → room_for (drop i operands) ≡ operand_room (get_or operands i d) + room_for (drop (i + 1) operands)
room_more operands i d h = ap room_for (drop_more operands i d h)

pub further_more : (operands : List Operand) (i : ℕ) (d : Operand) → i < length operands
    → further (map operand_text (drop i operands)) ≡ further (map operand_text (get_or operands i d ∷ drop (i + 1) operands))
further_more operands i d h = ap (λ l. further (map operand_text l)) (drop_more operands i d h)
