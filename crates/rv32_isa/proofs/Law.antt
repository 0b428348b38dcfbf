-- The law of the listing: decoding and encoding are inverse on its rows.
use Rattle.std.proofs.Common.{◌≡◌, ℕ, ◌+◌, ◌*◌, ◌%◌, ◌^◌, ◌<◌, ◌∙◌, ap, sym, subst, inl, inr, lit<, arith}
use Rattle.std.specs.Prelude.{Option, Some, IfSome, ◌==◌, if◌then◌else◌}
use Rattle.std.proofs.lemmas.Int.{ints}
use Rattle.std.proofs.lemmas.Bool.Decides.{eqb_tells}
use Rattle.rv32_isa.specs.Formats.{field, unsigned, r_format, i_format, s_format, b_format, u_format, j_format, i_immediate, s_immediate, b_immediate, u_immediate, j_immediate}
use Rattle.rv32_isa.specs.Listing.{encoded, IsInRange}
use Rattle.rv32_isa.specs.Decoded.{decoded, row, jump_row, fence_row, shift_left_row, branch_row, load_row, store_row, shift_right_row, immediate_row, base_row, alternate_row, multiply_row, register_row, system_row}
use Rattle.rv32_isa.specs.declared.Instr.{Instr}
use Rattle.rv32_isa.specs.declared.Instr.TheVariants.{Lui, Auipc, Jal, Jalr, Beq, Bne, Blt, Bge, Bltu, Bgeu, Lb, Lh, Lw, Lbu, Lhu, Sb, Sh, Sw, Addi, Slti, Sltiu, Xori, Ori, Andi, Slli, Srli, Srai, Add, Sub, Sll, Slt, Sltu, Xor, Srl, Sra, Or, And, Fence, Ecall, Ebreak, Mul, Mulh, Mulhsu, Mulhu, Div, Divu, Rem, Remu}
use Rattle.rv32_isa.proofs.Columns.{columns, AreColumns, decoded-r_format}
use Rattle.rv32_isa.proofs.Immediates.{i_back, s_back, b_back, u_back, j_back, shift_back, shift_fits, i_fills, b_fills, u_fills, j_fills}

-- ---- an instruction's word is decoded to it

r_row : (funct7 rs2 rs1 funct3 rd opcode : ℕ) → funct7 < 2 ^ 7 → rs2 < 2 ^ 5 → rs1 < 2 ^ 5 → funct3 < 2 ^ 3 → rd < 2 ^ 5 → opcode < 2 ^ 7 → decoded (r_format funct7 rs2 rs1 funct3 rd opcode) ≡ row funct7 rs2 rs1 funct3 rd opcode
r_row funct7 rs2 rs1 funct3 rd opcode a b c d e f =
    decoded-r_format funct7 rs2 rs1 funct3 rd opcode
    (record { funct7_fits = a; rs2_fits = b; rs1_fits = c; funct3_fits = d; rd_fits = e; opcode_fits = f })

pub decoded-encoded : (instr : Instr) → IsInRange instr → decoded (encoded instr) ≡ Some instr
decoded-encoded (Lui rd imm) r =
    r_row (field (unsigned imm) 13 7) (field (unsigned imm) 8 5) (field (unsigned imm) 3 5) (field (unsigned imm) 0 3) rd 0b0110111 (omega arith) (omega arith) (omega arith) (omega arith) r.0 (lit< tt) ∙ ap (λ v. Some (Lui rd v)) (u_back imm r.1)
decoded-encoded (Auipc rd imm) r =
    r_row (field (unsigned imm) 13 7) (field (unsigned imm) 8 5) (field (unsigned imm) 3 5) (field (unsigned imm) 0 3) rd 0b0010111 (omega arith) (omega arith) (omega arith) (omega arith) r.0 (lit< tt) ∙ ap (λ v. Some (Auipc rd v)) (u_back imm r.1)
decoded-encoded (Jal rd imm) r =
    r_row (field (unsigned imm) 20 1 * 2 ^ 6 + field (unsigned imm) 5 6) (field (unsigned imm) 1 4 * 2 + field (unsigned imm) 11 1) (field (unsigned imm) 15 5) (field (unsigned imm) 12 3) rd 0b1101111 (omega arith) (omega arith) (omega arith) (omega arith) r.0 (lit< tt) ∙ ap (λ v. Some (Jal rd v)) (j_back imm r.1)
decoded-encoded (Jalr rd rs1 imm) r =
    r_row (field (unsigned imm) 5 7) (field (unsigned imm) 0 5) rs1 0b000 rd 0b1100111 (omega arith) (omega arith) r.1 (lit< tt) r.0 (lit< tt) ∙ ap (λ v. Some (Jalr rd rs1 v)) (i_back imm r.2)
decoded-encoded (Beq rs1 rs2 imm) r =
    r_row (field (unsigned imm) 12 1 * 2 ^ 6 + field (unsigned imm) 5 6) rs2 rs1 0b000 (field (unsigned imm) 1 4 * 2 + field (unsigned imm) 11 1) 0b1100011 (omega arith) r.1 r.0 (lit< tt) (omega arith) (lit< tt) ∙ ap (λ v. Some (Beq rs1 rs2 v)) (b_back imm r.2)
decoded-encoded (Bne rs1 rs2 imm) r =
    r_row (field (unsigned imm) 12 1 * 2 ^ 6 + field (unsigned imm) 5 6) rs2 rs1 0b001 (field (unsigned imm) 1 4 * 2 + field (unsigned imm) 11 1) 0b1100011 (omega arith) r.1 r.0 (lit< tt) (omega arith) (lit< tt) ∙ ap (λ v. Some (Bne rs1 rs2 v)) (b_back imm r.2)
decoded-encoded (Blt rs1 rs2 imm) r =
    r_row (field (unsigned imm) 12 1 * 2 ^ 6 + field (unsigned imm) 5 6) rs2 rs1 0b100 (field (unsigned imm) 1 4 * 2 + field (unsigned imm) 11 1) 0b1100011 (omega arith) r.1 r.0 (lit< tt) (omega arith) (lit< tt) ∙ ap (λ v. Some (Blt rs1 rs2 v)) (b_back imm r.2)
decoded-encoded (Bge rs1 rs2 imm) r =
    r_row (field (unsigned imm) 12 1 * 2 ^ 6 + field (unsigned imm) 5 6) rs2 rs1 0b101 (field (unsigned imm) 1 4 * 2 + field (unsigned imm) 11 1) 0b1100011 (omega arith) r.1 r.0 (lit< tt) (omega arith) (lit< tt) ∙ ap (λ v. Some (Bge rs1 rs2 v)) (b_back imm r.2)
decoded-encoded (Bltu rs1 rs2 imm) r =
    r_row (field (unsigned imm) 12 1 * 2 ^ 6 + field (unsigned imm) 5 6) rs2 rs1 0b110 (field (unsigned imm) 1 4 * 2 + field (unsigned imm) 11 1) 0b1100011 (omega arith) r.1 r.0 (lit< tt) (omega arith) (lit< tt) ∙ ap (λ v. Some (Bltu rs1 rs2 v)) (b_back imm r.2)
decoded-encoded (Bgeu rs1 rs2 imm) r =
    r_row (field (unsigned imm) 12 1 * 2 ^ 6 + field (unsigned imm) 5 6) rs2 rs1 0b111 (field (unsigned imm) 1 4 * 2 + field (unsigned imm) 11 1) 0b1100011 (omega arith) r.1 r.0 (lit< tt) (omega arith) (lit< tt) ∙ ap (λ v. Some (Bgeu rs1 rs2 v)) (b_back imm r.2)
decoded-encoded (Lb rd rs1 imm) r =
    r_row (field (unsigned imm) 5 7) (field (unsigned imm) 0 5) rs1 0b000 rd 0b0000011 (omega arith) (omega arith) r.1 (lit< tt) r.0 (lit< tt) ∙ ap (λ v. Some (Lb rd rs1 v)) (i_back imm r.2)
decoded-encoded (Lh rd rs1 imm) r =
    r_row (field (unsigned imm) 5 7) (field (unsigned imm) 0 5) rs1 0b001 rd 0b0000011 (omega arith) (omega arith) r.1 (lit< tt) r.0 (lit< tt) ∙ ap (λ v. Some (Lh rd rs1 v)) (i_back imm r.2)
decoded-encoded (Lw rd rs1 imm) r =
    r_row (field (unsigned imm) 5 7) (field (unsigned imm) 0 5) rs1 0b010 rd 0b0000011 (omega arith) (omega arith) r.1 (lit< tt) r.0 (lit< tt) ∙ ap (λ v. Some (Lw rd rs1 v)) (i_back imm r.2)
decoded-encoded (Lbu rd rs1 imm) r =
    r_row (field (unsigned imm) 5 7) (field (unsigned imm) 0 5) rs1 0b100 rd 0b0000011 (omega arith) (omega arith) r.1 (lit< tt) r.0 (lit< tt) ∙ ap (λ v. Some (Lbu rd rs1 v)) (i_back imm r.2)
decoded-encoded (Lhu rd rs1 imm) r =
    r_row (field (unsigned imm) 5 7) (field (unsigned imm) 0 5) rs1 0b101 rd 0b0000011 (omega arith) (omega arith) r.1 (lit< tt) r.0 (lit< tt) ∙ ap (λ v. Some (Lhu rd rs1 v)) (i_back imm r.2)
decoded-encoded (Sb rs1 rs2 imm) r =
    r_row (field (unsigned imm) 5 7) rs2 rs1 0b000 (field (unsigned imm) 0 5) 0b0100011 (omega arith) r.1 r.0 (lit< tt) (omega arith) (lit< tt) ∙ ap (λ v. Some (Sb rs1 rs2 v)) (s_back imm r.2)
decoded-encoded (Sh rs1 rs2 imm) r =
    r_row (field (unsigned imm) 5 7) rs2 rs1 0b001 (field (unsigned imm) 0 5) 0b0100011 (omega arith) r.1 r.0 (lit< tt) (omega arith) (lit< tt) ∙ ap (λ v. Some (Sh rs1 rs2 v)) (s_back imm r.2)
decoded-encoded (Sw rs1 rs2 imm) r =
    r_row (field (unsigned imm) 5 7) rs2 rs1 0b010 (field (unsigned imm) 0 5) 0b0100011 (omega arith) r.1 r.0 (lit< tt) (omega arith) (lit< tt) ∙ ap (λ v. Some (Sw rs1 rs2 v)) (s_back imm r.2)
decoded-encoded (Addi rd rs1 imm) r =
    r_row (field (unsigned imm) 5 7) (field (unsigned imm) 0 5) rs1 0b000 rd 0b0010011 (omega arith) (omega arith) r.1 (lit< tt) r.0 (lit< tt) ∙ ap (λ v. Some (Addi rd rs1 v)) (i_back imm r.2)
decoded-encoded (Slti rd rs1 imm) r =
    r_row (field (unsigned imm) 5 7) (field (unsigned imm) 0 5) rs1 0b010 rd 0b0010011 (omega arith) (omega arith) r.1 (lit< tt) r.0 (lit< tt) ∙ ap (λ v. Some (Slti rd rs1 v)) (i_back imm r.2)
decoded-encoded (Sltiu rd rs1 imm) r =
    r_row (field (unsigned imm) 5 7) (field (unsigned imm) 0 5) rs1 0b011 rd 0b0010011 (omega arith) (omega arith) r.1 (lit< tt) r.0 (lit< tt) ∙ ap (λ v. Some (Sltiu rd rs1 v)) (i_back imm r.2)
decoded-encoded (Xori rd rs1 imm) r =
    r_row (field (unsigned imm) 5 7) (field (unsigned imm) 0 5) rs1 0b100 rd 0b0010011 (omega arith) (omega arith) r.1 (lit< tt) r.0 (lit< tt) ∙ ap (λ v. Some (Xori rd rs1 v)) (i_back imm r.2)
decoded-encoded (Ori rd rs1 imm) r =
    r_row (field (unsigned imm) 5 7) (field (unsigned imm) 0 5) rs1 0b110 rd 0b0010011 (omega arith) (omega arith) r.1 (lit< tt) r.0 (lit< tt) ∙ ap (λ v. Some (Ori rd rs1 v)) (i_back imm r.2)
decoded-encoded (Andi rd rs1 imm) r =
    r_row (field (unsigned imm) 5 7) (field (unsigned imm) 0 5) rs1 0b111 rd 0b0010011 (omega arith) (omega arith) r.1 (lit< tt) r.0 (lit< tt) ∙ ap (λ v. Some (Andi rd rs1 v)) (i_back imm r.2)
decoded-encoded (Slli rd rs1 imm) r =
    r_row 0b0000000 (unsigned imm) rs1 0b001 rd 0b0010011 (lit< tt) (shift_fits imm r.2) r.1 (lit< tt) r.0 (lit< tt) ∙ ap (λ v. Some (Slli rd rs1 v)) (shift_back imm r.2)
decoded-encoded (Srli rd rs1 imm) r =
    r_row 0b0000000 (unsigned imm) rs1 0b101 rd 0b0010011 (lit< tt) (shift_fits imm r.2) r.1 (lit< tt) r.0 (lit< tt) ∙ ap (λ v. Some (Srli rd rs1 v)) (shift_back imm r.2)
decoded-encoded (Srai rd rs1 imm) r =
    r_row 0b0100000 (unsigned imm) rs1 0b101 rd 0b0010011 (lit< tt) (shift_fits imm r.2) r.1 (lit< tt) r.0 (lit< tt) ∙ ap (λ v. Some (Srai rd rs1 v)) (shift_back imm r.2)
decoded-encoded (Add rd rs1 rs2) r = r_row 0b0000000 rs2 rs1 0b000 rd 0b0110011 (lit< tt) r.2 r.1 (lit< tt) r.0 (lit< tt)
decoded-encoded (Sub rd rs1 rs2) r = r_row 0b0100000 rs2 rs1 0b000 rd 0b0110011 (lit< tt) r.2 r.1 (lit< tt) r.0 (lit< tt)
decoded-encoded (Sll rd rs1 rs2) r = r_row 0b0000000 rs2 rs1 0b001 rd 0b0110011 (lit< tt) r.2 r.1 (lit< tt) r.0 (lit< tt)
decoded-encoded (Slt rd rs1 rs2) r = r_row 0b0000000 rs2 rs1 0b010 rd 0b0110011 (lit< tt) r.2 r.1 (lit< tt) r.0 (lit< tt)
decoded-encoded (Sltu rd rs1 rs2) r = r_row 0b0000000 rs2 rs1 0b011 rd 0b0110011 (lit< tt) r.2 r.1 (lit< tt) r.0 (lit< tt)
decoded-encoded (Xor rd rs1 rs2) r = r_row 0b0000000 rs2 rs1 0b100 rd 0b0110011 (lit< tt) r.2 r.1 (lit< tt) r.0 (lit< tt)
decoded-encoded (Srl rd rs1 rs2) r = r_row 0b0000000 rs2 rs1 0b101 rd 0b0110011 (lit< tt) r.2 r.1 (lit< tt) r.0 (lit< tt)
decoded-encoded (Sra rd rs1 rs2) r = r_row 0b0100000 rs2 rs1 0b101 rd 0b0110011 (lit< tt) r.2 r.1 (lit< tt) r.0 (lit< tt)
decoded-encoded (Or rd rs1 rs2) r = r_row 0b0000000 rs2 rs1 0b110 rd 0b0110011 (lit< tt) r.2 r.1 (lit< tt) r.0 (lit< tt)
decoded-encoded (And rd rs1 rs2) r = r_row 0b0000000 rs2 rs1 0b111 rd 0b0110011 (lit< tt) r.2 r.1 (lit< tt) r.0 (lit< tt)
decoded-encoded (Fence rd rs1 imm) r =
    r_row (field (unsigned imm) 5 7) (field (unsigned imm) 0 5) rs1 0b000 rd 0b0001111 (omega arith) (omega arith) r.1 (lit< tt) r.0 (lit< tt) ∙ ap (λ v. Some (Fence rd rs1 v)) (i_back imm r.2)
decoded-encoded Ecall r = r_row 0 0 0 0 0 0b1110011 (lit< tt) (lit< tt) (lit< tt) (lit< tt) (lit< tt) (lit< tt)
decoded-encoded Ebreak r = r_row 0 1 0 0 0 0b1110011 (lit< tt) (lit< tt) (lit< tt) (lit< tt) (lit< tt) (lit< tt)
decoded-encoded (Mul rd rs1 rs2) r = r_row 0b0000001 rs2 rs1 0b000 rd 0b0110011 (lit< tt) r.2 r.1 (lit< tt) r.0 (lit< tt)
decoded-encoded (Mulh rd rs1 rs2) r = r_row 0b0000001 rs2 rs1 0b001 rd 0b0110011 (lit< tt) r.2 r.1 (lit< tt) r.0 (lit< tt)
decoded-encoded (Mulhsu rd rs1 rs2) r = r_row 0b0000001 rs2 rs1 0b010 rd 0b0110011 (lit< tt) r.2 r.1 (lit< tt) r.0 (lit< tt)
decoded-encoded (Mulhu rd rs1 rs2) r = r_row 0b0000001 rs2 rs1 0b011 rd 0b0110011 (lit< tt) r.2 r.1 (lit< tt) r.0 (lit< tt)
decoded-encoded (Div rd rs1 rs2) r = r_row 0b0000001 rs2 rs1 0b100 rd 0b0110011 (lit< tt) r.2 r.1 (lit< tt) r.0 (lit< tt)
decoded-encoded (Divu rd rs1 rs2) r = r_row 0b0000001 rs2 rs1 0b101 rd 0b0110011 (lit< tt) r.2 r.1 (lit< tt) r.0 (lit< tt)
decoded-encoded (Rem rd rs1 rs2) r = r_row 0b0000001 rs2 rs1 0b110 rd 0b0110011 (lit< tt) r.2 r.1 (lit< tt) r.0 (lit< tt)
decoded-encoded (Remu rd rs1 rs2) r = r_row 0b0000001 rs2 rs1 0b111 rd 0b0110011 (lit< tt) r.2 r.1 (lit< tt) r.0 (lit< tt)

-- ---- a word is that of its instruction

-- where there is an instruction, it is in range and has this word
abbrev pub Holds : ℕ → Option Instr → Type 0
Holds word o = IfSome o (λ instr. IsInRange instr × (encoded instr ≡ word))

choose : (word a k : ℕ) (x y : Option Instr) → (a ≡ k → Holds word x) → Holds word y → Holds word (if a == k then x else y)
choose word a k x y this other =
    elim (eqb_tells a k) [
      | inl t ↦ subst (λ b. Holds word (if b then x else y)) (sym t.0) (this t.1)
      | inr t ↦ subst (λ b. Holds word (if b then x else y)) (sym t.0) other
    ]

i_same : (funct7 rs2 rs1 funct3 rd opcode : ℕ) → AreColumns funct7 rs2 rs1 funct3 rd opcode → i_format (i_immediate funct7 rs2) rs1 funct3 rd opcode ≡ r_format funct7 rs2 rs1 funct3 rd opcode
i_same funct7 rs2 rs1 funct3 rd opcode a = let f = i_fills funct7 rs2 a.funct7_fits a.rs2_fits in rw (f.high_same, f.low_same)

s_same : (funct7 rs2 rs1 funct3 rd opcode : ℕ) → AreColumns funct7 rs2 rs1 funct3 rd opcode → s_format (s_immediate funct7 rd) rs2 rs1 funct3 opcode ≡ r_format funct7 rs2 rs1 funct3 rd opcode
s_same funct7 rs2 rs1 funct3 rd opcode a = let f = i_fills funct7 rd a.funct7_fits a.rd_fits in rw (f.high_same, f.low_same)

b_same : (funct7 rs2 rs1 funct3 rd opcode : ℕ) → AreColumns funct7 rs2 rs1 funct3 rd opcode → b_format (b_immediate funct7 rd) rs2 rs1 funct3 opcode ≡ r_format funct7 rs2 rs1 funct3 rd opcode
b_same funct7 rs2 rs1 funct3 rd opcode a = let f = b_fills funct7 rd a.funct7_fits a.rd_fits in rw (f.high_same, f.low_same)

u_same : (funct7 rs2 rs1 funct3 rd opcode : ℕ) → AreColumns funct7 rs2 rs1 funct3 rd opcode → u_format (u_immediate funct7 rs2 rs1 funct3) rd opcode ≡ r_format funct7 rs2 rs1 funct3 rd opcode
u_same funct7 rs2 rs1 funct3 rd opcode a = let f = u_fills funct7 rs2 rs1 funct3 a.funct7_fits a.rs2_fits a.rs1_fits a.funct3_fits in rw (f.funct7_same, f.rs2_same, f.rs1_same, f.funct3_same)

j_same : (funct7 rs2 rs1 funct3 rd opcode : ℕ) → AreColumns funct7 rs2 rs1 funct3 rd opcode → j_format (j_immediate funct7 rs2 rs1 funct3) rd opcode ≡ r_format funct7 rs2 rs1 funct3 rd opcode
j_same funct7 rs2 rs1 funct3 rd opcode a = let f = j_fills funct7 rs2 rs1 funct3 a.funct7_fits a.rs2_fits a.rs1_fits a.funct3_fits in rw (f.funct7_same, f.rs2_same, f.rs1_same, f.funct3_same)

jump_law : (funct7 rs2 rs1 funct3 rd opcode : ℕ) → AreColumns funct7 rs2 rs1 funct3 rd opcode → opcode ≡ 0b1100111 → Holds (r_format funct7 rs2 rs1 funct3 rd opcode) (jump_row funct3 rd rs1 (i_immediate funct7 rs2))
jump_law funct7 rs2 rs1 funct3 rd opcode a o =
    choose (r_format funct7 rs2 rs1 funct3 rd opcode) funct3 0b000 _ _ (λ e. ((a.rd_fits, a.rs1_fits, (i_fills funct7 rs2 a.funct7_fits a.rs2_fits).range), ap (λ v. i_format (i_immediate funct7 rs2) rs1 v rd 0b1100111) (sym e) ∙ ap (λ v. i_format (i_immediate funct7 rs2) rs1 funct3 rd v) (sym o) ∙ i_same funct7 rs2 rs1 funct3 rd opcode a)) (
    tt)

fence_law : (funct7 rs2 rs1 funct3 rd opcode : ℕ) → AreColumns funct7 rs2 rs1 funct3 rd opcode → opcode ≡ 0b0001111 → Holds (r_format funct7 rs2 rs1 funct3 rd opcode) (fence_row funct3 rd rs1 (i_immediate funct7 rs2))
fence_law funct7 rs2 rs1 funct3 rd opcode a o =
    choose (r_format funct7 rs2 rs1 funct3 rd opcode) funct3 0b000 _ _ (λ e. ((a.rd_fits, a.rs1_fits, (i_fills funct7 rs2 a.funct7_fits a.rs2_fits).range), ap (λ v. i_format (i_immediate funct7 rs2) rs1 v rd 0b0001111) (sym e) ∙ ap (λ v. i_format (i_immediate funct7 rs2) rs1 funct3 rd v) (sym o) ∙ i_same funct7 rs2 rs1 funct3 rd opcode a)) (
    tt)

branch_law : (funct7 rs2 rs1 funct3 rd opcode : ℕ) → AreColumns funct7 rs2 rs1 funct3 rd opcode → opcode ≡ 0b1100011 → Holds (r_format funct7 rs2 rs1 funct3 rd opcode) (branch_row funct3 rs1 rs2 (b_immediate funct7 rd))
branch_law funct7 rs2 rs1 funct3 rd opcode a o =
    choose (r_format funct7 rs2 rs1 funct3 rd opcode) funct3 0b000 _ _ (λ e. ((a.rs1_fits, a.rs2_fits, (b_fills funct7 rd a.funct7_fits a.rd_fits).range), ap (λ v. b_format (b_immediate funct7 rd) rs2 rs1 v 0b1100011) (sym e) ∙ ap (λ v. b_format (b_immediate funct7 rd) rs2 rs1 funct3 v) (sym o) ∙ b_same funct7 rs2 rs1 funct3 rd opcode a)) (
    choose (r_format funct7 rs2 rs1 funct3 rd opcode) funct3 0b001 _ _ (λ e. ((a.rs1_fits, a.rs2_fits, (b_fills funct7 rd a.funct7_fits a.rd_fits).range), ap (λ v. b_format (b_immediate funct7 rd) rs2 rs1 v 0b1100011) (sym e) ∙ ap (λ v. b_format (b_immediate funct7 rd) rs2 rs1 funct3 v) (sym o) ∙ b_same funct7 rs2 rs1 funct3 rd opcode a)) (
    choose (r_format funct7 rs2 rs1 funct3 rd opcode) funct3 0b100 _ _ (λ e. ((a.rs1_fits, a.rs2_fits, (b_fills funct7 rd a.funct7_fits a.rd_fits).range), ap (λ v. b_format (b_immediate funct7 rd) rs2 rs1 v 0b1100011) (sym e) ∙ ap (λ v. b_format (b_immediate funct7 rd) rs2 rs1 funct3 v) (sym o) ∙ b_same funct7 rs2 rs1 funct3 rd opcode a)) (
    choose (r_format funct7 rs2 rs1 funct3 rd opcode) funct3 0b101 _ _ (λ e. ((a.rs1_fits, a.rs2_fits, (b_fills funct7 rd a.funct7_fits a.rd_fits).range), ap (λ v. b_format (b_immediate funct7 rd) rs2 rs1 v 0b1100011) (sym e) ∙ ap (λ v. b_format (b_immediate funct7 rd) rs2 rs1 funct3 v) (sym o) ∙ b_same funct7 rs2 rs1 funct3 rd opcode a)) (
    choose (r_format funct7 rs2 rs1 funct3 rd opcode) funct3 0b110 _ _ (λ e. ((a.rs1_fits, a.rs2_fits, (b_fills funct7 rd a.funct7_fits a.rd_fits).range), ap (λ v. b_format (b_immediate funct7 rd) rs2 rs1 v 0b1100011) (sym e) ∙ ap (λ v. b_format (b_immediate funct7 rd) rs2 rs1 funct3 v) (sym o) ∙ b_same funct7 rs2 rs1 funct3 rd opcode a)) (
    choose (r_format funct7 rs2 rs1 funct3 rd opcode) funct3 0b111 _ _ (λ e. ((a.rs1_fits, a.rs2_fits, (b_fills funct7 rd a.funct7_fits a.rd_fits).range), ap (λ v. b_format (b_immediate funct7 rd) rs2 rs1 v 0b1100011) (sym e) ∙ ap (λ v. b_format (b_immediate funct7 rd) rs2 rs1 funct3 v) (sym o) ∙ b_same funct7 rs2 rs1 funct3 rd opcode a)) (
    tt))))))

load_law : (funct7 rs2 rs1 funct3 rd opcode : ℕ) → AreColumns funct7 rs2 rs1 funct3 rd opcode → opcode ≡ 0b0000011 → Holds (r_format funct7 rs2 rs1 funct3 rd opcode) (load_row funct3 rd rs1 (i_immediate funct7 rs2))
load_law funct7 rs2 rs1 funct3 rd opcode a o =
    choose (r_format funct7 rs2 rs1 funct3 rd opcode) funct3 0b000 _ _ (λ e. ((a.rd_fits, a.rs1_fits, (i_fills funct7 rs2 a.funct7_fits a.rs2_fits).range), ap (λ v. i_format (i_immediate funct7 rs2) rs1 v rd 0b0000011) (sym e) ∙ ap (λ v. i_format (i_immediate funct7 rs2) rs1 funct3 rd v) (sym o) ∙ i_same funct7 rs2 rs1 funct3 rd opcode a)) (
    choose (r_format funct7 rs2 rs1 funct3 rd opcode) funct3 0b001 _ _ (λ e. ((a.rd_fits, a.rs1_fits, (i_fills funct7 rs2 a.funct7_fits a.rs2_fits).range), ap (λ v. i_format (i_immediate funct7 rs2) rs1 v rd 0b0000011) (sym e) ∙ ap (λ v. i_format (i_immediate funct7 rs2) rs1 funct3 rd v) (sym o) ∙ i_same funct7 rs2 rs1 funct3 rd opcode a)) (
    choose (r_format funct7 rs2 rs1 funct3 rd opcode) funct3 0b010 _ _ (λ e. ((a.rd_fits, a.rs1_fits, (i_fills funct7 rs2 a.funct7_fits a.rs2_fits).range), ap (λ v. i_format (i_immediate funct7 rs2) rs1 v rd 0b0000011) (sym e) ∙ ap (λ v. i_format (i_immediate funct7 rs2) rs1 funct3 rd v) (sym o) ∙ i_same funct7 rs2 rs1 funct3 rd opcode a)) (
    choose (r_format funct7 rs2 rs1 funct3 rd opcode) funct3 0b100 _ _ (λ e. ((a.rd_fits, a.rs1_fits, (i_fills funct7 rs2 a.funct7_fits a.rs2_fits).range), ap (λ v. i_format (i_immediate funct7 rs2) rs1 v rd 0b0000011) (sym e) ∙ ap (λ v. i_format (i_immediate funct7 rs2) rs1 funct3 rd v) (sym o) ∙ i_same funct7 rs2 rs1 funct3 rd opcode a)) (
    choose (r_format funct7 rs2 rs1 funct3 rd opcode) funct3 0b101 _ _ (λ e. ((a.rd_fits, a.rs1_fits, (i_fills funct7 rs2 a.funct7_fits a.rs2_fits).range), ap (λ v. i_format (i_immediate funct7 rs2) rs1 v rd 0b0000011) (sym e) ∙ ap (λ v. i_format (i_immediate funct7 rs2) rs1 funct3 rd v) (sym o) ∙ i_same funct7 rs2 rs1 funct3 rd opcode a)) (
    tt)))))

store_law : (funct7 rs2 rs1 funct3 rd opcode : ℕ) → AreColumns funct7 rs2 rs1 funct3 rd opcode → opcode ≡ 0b0100011 → Holds (r_format funct7 rs2 rs1 funct3 rd opcode) (store_row funct3 rs1 rs2 (s_immediate funct7 rd))
store_law funct7 rs2 rs1 funct3 rd opcode a o =
    choose (r_format funct7 rs2 rs1 funct3 rd opcode) funct3 0b000 _ _ (λ e. ((a.rs1_fits, a.rs2_fits, (i_fills funct7 rd a.funct7_fits a.rd_fits).range), ap (λ v. s_format (s_immediate funct7 rd) rs2 rs1 v 0b0100011) (sym e) ∙ ap (λ v. s_format (s_immediate funct7 rd) rs2 rs1 funct3 v) (sym o) ∙ s_same funct7 rs2 rs1 funct3 rd opcode a)) (
    choose (r_format funct7 rs2 rs1 funct3 rd opcode) funct3 0b001 _ _ (λ e. ((a.rs1_fits, a.rs2_fits, (i_fills funct7 rd a.funct7_fits a.rd_fits).range), ap (λ v. s_format (s_immediate funct7 rd) rs2 rs1 v 0b0100011) (sym e) ∙ ap (λ v. s_format (s_immediate funct7 rd) rs2 rs1 funct3 v) (sym o) ∙ s_same funct7 rs2 rs1 funct3 rd opcode a)) (
    choose (r_format funct7 rs2 rs1 funct3 rd opcode) funct3 0b010 _ _ (λ e. ((a.rs1_fits, a.rs2_fits, (i_fills funct7 rd a.funct7_fits a.rd_fits).range), ap (λ v. s_format (s_immediate funct7 rd) rs2 rs1 v 0b0100011) (sym e) ∙ ap (λ v. s_format (s_immediate funct7 rd) rs2 rs1 funct3 v) (sym o) ∙ s_same funct7 rs2 rs1 funct3 rd opcode a)) (
    tt)))

shift_left_law : (funct7 rs2 rs1 funct3 rd opcode : ℕ) → AreColumns funct7 rs2 rs1 funct3 rd opcode → opcode ≡ 0b0010011 → funct3 ≡ 0b001 → Holds (r_format funct7 rs2 rs1 funct3 rd opcode) (shift_left_row funct7 rd rs1 rs2)
shift_left_law funct7 rs2 rs1 funct3 rd opcode a o e =
    choose (r_format funct7 rs2 rs1 funct3 rd opcode) funct7 0b0000000 _ _ (λ e7. ((a.rd_fits, a.rs1_fits, (omega (arith, ints), omega (arith, ints))), rw (e7, e, o))) (
    tt)

shift_right_law : (funct7 rs2 rs1 funct3 rd opcode : ℕ) → AreColumns funct7 rs2 rs1 funct3 rd opcode → opcode ≡ 0b0010011 → funct3 ≡ 0b101 → Holds (r_format funct7 rs2 rs1 funct3 rd opcode) (shift_right_row funct7 rd rs1 rs2)
shift_right_law funct7 rs2 rs1 funct3 rd opcode a o e =
    choose (r_format funct7 rs2 rs1 funct3 rd opcode) funct7 0b0000000 _ _ (λ e7. ((a.rd_fits, a.rs1_fits, (omega (arith, ints), omega (arith, ints))), rw (e7, e, o))) (
    choose (r_format funct7 rs2 rs1 funct3 rd opcode) funct7 0b0100000 _ _ (λ e7. ((a.rd_fits, a.rs1_fits, (omega (arith, ints), omega (arith, ints))), rw (e7, e, o))) (
    tt))

immediate_law : (funct7 rs2 rs1 funct3 rd opcode : ℕ) → AreColumns funct7 rs2 rs1 funct3 rd opcode → opcode ≡ 0b0010011 → Holds (r_format funct7 rs2 rs1 funct3 rd opcode) (immediate_row funct7 funct3 rd rs1 rs2 (i_immediate funct7 rs2))
immediate_law funct7 rs2 rs1 funct3 rd opcode a o =
    choose (r_format funct7 rs2 rs1 funct3 rd opcode) funct3 0b000 _ _ (λ e. ((a.rd_fits, a.rs1_fits, (i_fills funct7 rs2 a.funct7_fits a.rs2_fits).range), ap (λ v. i_format (i_immediate funct7 rs2) rs1 v rd 0b0010011) (sym e) ∙ ap (λ v. i_format (i_immediate funct7 rs2) rs1 funct3 rd v) (sym o) ∙ i_same funct7 rs2 rs1 funct3 rd opcode a)) (
    choose (r_format funct7 rs2 rs1 funct3 rd opcode) funct3 0b001 _ _ (λ e. shift_left_law funct7 rs2 rs1 funct3 rd opcode a o e) (
    choose (r_format funct7 rs2 rs1 funct3 rd opcode) funct3 0b010 _ _ (λ e. ((a.rd_fits, a.rs1_fits, (i_fills funct7 rs2 a.funct7_fits a.rs2_fits).range), ap (λ v. i_format (i_immediate funct7 rs2) rs1 v rd 0b0010011) (sym e) ∙ ap (λ v. i_format (i_immediate funct7 rs2) rs1 funct3 rd v) (sym o) ∙ i_same funct7 rs2 rs1 funct3 rd opcode a)) (
    choose (r_format funct7 rs2 rs1 funct3 rd opcode) funct3 0b011 _ _ (λ e. ((a.rd_fits, a.rs1_fits, (i_fills funct7 rs2 a.funct7_fits a.rs2_fits).range), ap (λ v. i_format (i_immediate funct7 rs2) rs1 v rd 0b0010011) (sym e) ∙ ap (λ v. i_format (i_immediate funct7 rs2) rs1 funct3 rd v) (sym o) ∙ i_same funct7 rs2 rs1 funct3 rd opcode a)) (
    choose (r_format funct7 rs2 rs1 funct3 rd opcode) funct3 0b100 _ _ (λ e. ((a.rd_fits, a.rs1_fits, (i_fills funct7 rs2 a.funct7_fits a.rs2_fits).range), ap (λ v. i_format (i_immediate funct7 rs2) rs1 v rd 0b0010011) (sym e) ∙ ap (λ v. i_format (i_immediate funct7 rs2) rs1 funct3 rd v) (sym o) ∙ i_same funct7 rs2 rs1 funct3 rd opcode a)) (
    choose (r_format funct7 rs2 rs1 funct3 rd opcode) funct3 0b101 _ _ (λ e. shift_right_law funct7 rs2 rs1 funct3 rd opcode a o e) (
    choose (r_format funct7 rs2 rs1 funct3 rd opcode) funct3 0b110 _ _ (λ e. ((a.rd_fits, a.rs1_fits, (i_fills funct7 rs2 a.funct7_fits a.rs2_fits).range), ap (λ v. i_format (i_immediate funct7 rs2) rs1 v rd 0b0010011) (sym e) ∙ ap (λ v. i_format (i_immediate funct7 rs2) rs1 funct3 rd v) (sym o) ∙ i_same funct7 rs2 rs1 funct3 rd opcode a)) (
    choose (r_format funct7 rs2 rs1 funct3 rd opcode) funct3 0b111 _ _ (λ e. ((a.rd_fits, a.rs1_fits, (i_fills funct7 rs2 a.funct7_fits a.rs2_fits).range), ap (λ v. i_format (i_immediate funct7 rs2) rs1 v rd 0b0010011) (sym e) ∙ ap (λ v. i_format (i_immediate funct7 rs2) rs1 funct3 rd v) (sym o) ∙ i_same funct7 rs2 rs1 funct3 rd opcode a)) (
    tt))))))))

base_law : (funct7 rs2 rs1 funct3 rd opcode : ℕ) → AreColumns funct7 rs2 rs1 funct3 rd opcode → opcode ≡ 0b0110011 → funct7 ≡ 0b0000000 → Holds (r_format funct7 rs2 rs1 funct3 rd opcode) (base_row funct3 rd rs1 rs2)
base_law funct7 rs2 rs1 funct3 rd opcode a o e7 =
    choose (r_format funct7 rs2 rs1 funct3 rd opcode) funct3 0b000 _ _ (λ e. ((a.rd_fits, a.rs1_fits, a.rs2_fits), rw (e7, e, o))) (
    choose (r_format funct7 rs2 rs1 funct3 rd opcode) funct3 0b001 _ _ (λ e. ((a.rd_fits, a.rs1_fits, a.rs2_fits), rw (e7, e, o))) (
    choose (r_format funct7 rs2 rs1 funct3 rd opcode) funct3 0b010 _ _ (λ e. ((a.rd_fits, a.rs1_fits, a.rs2_fits), rw (e7, e, o))) (
    choose (r_format funct7 rs2 rs1 funct3 rd opcode) funct3 0b011 _ _ (λ e. ((a.rd_fits, a.rs1_fits, a.rs2_fits), rw (e7, e, o))) (
    choose (r_format funct7 rs2 rs1 funct3 rd opcode) funct3 0b100 _ _ (λ e. ((a.rd_fits, a.rs1_fits, a.rs2_fits), rw (e7, e, o))) (
    choose (r_format funct7 rs2 rs1 funct3 rd opcode) funct3 0b101 _ _ (λ e. ((a.rd_fits, a.rs1_fits, a.rs2_fits), rw (e7, e, o))) (
    choose (r_format funct7 rs2 rs1 funct3 rd opcode) funct3 0b110 _ _ (λ e. ((a.rd_fits, a.rs1_fits, a.rs2_fits), rw (e7, e, o))) (
    choose (r_format funct7 rs2 rs1 funct3 rd opcode) funct3 0b111 _ _ (λ e. ((a.rd_fits, a.rs1_fits, a.rs2_fits), rw (e7, e, o))) (
    tt))))))))

multiply_law : (funct7 rs2 rs1 funct3 rd opcode : ℕ) → AreColumns funct7 rs2 rs1 funct3 rd opcode → opcode ≡ 0b0110011 → funct7 ≡ 0b0000001 → Holds (r_format funct7 rs2 rs1 funct3 rd opcode) (multiply_row funct3 rd rs1 rs2)
multiply_law funct7 rs2 rs1 funct3 rd opcode a o e7 =
    choose (r_format funct7 rs2 rs1 funct3 rd opcode) funct3 0b000 _ _ (λ e. ((a.rd_fits, a.rs1_fits, a.rs2_fits), rw (e7, e, o))) (
    choose (r_format funct7 rs2 rs1 funct3 rd opcode) funct3 0b001 _ _ (λ e. ((a.rd_fits, a.rs1_fits, a.rs2_fits), rw (e7, e, o))) (
    choose (r_format funct7 rs2 rs1 funct3 rd opcode) funct3 0b010 _ _ (λ e. ((a.rd_fits, a.rs1_fits, a.rs2_fits), rw (e7, e, o))) (
    choose (r_format funct7 rs2 rs1 funct3 rd opcode) funct3 0b011 _ _ (λ e. ((a.rd_fits, a.rs1_fits, a.rs2_fits), rw (e7, e, o))) (
    choose (r_format funct7 rs2 rs1 funct3 rd opcode) funct3 0b100 _ _ (λ e. ((a.rd_fits, a.rs1_fits, a.rs2_fits), rw (e7, e, o))) (
    choose (r_format funct7 rs2 rs1 funct3 rd opcode) funct3 0b101 _ _ (λ e. ((a.rd_fits, a.rs1_fits, a.rs2_fits), rw (e7, e, o))) (
    choose (r_format funct7 rs2 rs1 funct3 rd opcode) funct3 0b110 _ _ (λ e. ((a.rd_fits, a.rs1_fits, a.rs2_fits), rw (e7, e, o))) (
    choose (r_format funct7 rs2 rs1 funct3 rd opcode) funct3 0b111 _ _ (λ e. ((a.rd_fits, a.rs1_fits, a.rs2_fits), rw (e7, e, o))) (
    tt))))))))

alternate_law : (funct7 rs2 rs1 funct3 rd opcode : ℕ) → AreColumns funct7 rs2 rs1 funct3 rd opcode → opcode ≡ 0b0110011 → funct7 ≡ 0b0100000 → Holds (r_format funct7 rs2 rs1 funct3 rd opcode) (alternate_row funct3 rd rs1 rs2)
alternate_law funct7 rs2 rs1 funct3 rd opcode a o e7 =
    choose (r_format funct7 rs2 rs1 funct3 rd opcode) funct3 0b000 _ _ (λ e. ((a.rd_fits, a.rs1_fits, a.rs2_fits), rw (e7, e, o))) (
    choose (r_format funct7 rs2 rs1 funct3 rd opcode) funct3 0b101 _ _ (λ e. ((a.rd_fits, a.rs1_fits, a.rs2_fits), rw (e7, e, o))) (
    tt))

register_law : (funct7 rs2 rs1 funct3 rd opcode : ℕ) → AreColumns funct7 rs2 rs1 funct3 rd opcode → opcode ≡ 0b0110011 → Holds (r_format funct7 rs2 rs1 funct3 rd opcode) (register_row funct7 funct3 rd rs1 rs2)
register_law funct7 rs2 rs1 funct3 rd opcode a o =
    choose (r_format funct7 rs2 rs1 funct3 rd opcode) funct7 0b0000000 _ _ (λ e. base_law funct7 rs2 rs1 funct3 rd opcode a o e) (
    choose (r_format funct7 rs2 rs1 funct3 rd opcode) funct7 0b0000001 _ _ (λ e. multiply_law funct7 rs2 rs1 funct3 rd opcode a o e) (
    choose (r_format funct7 rs2 rs1 funct3 rd opcode) funct7 0b0100000 _ _ (λ e. alternate_law funct7 rs2 rs1 funct3 rd opcode a o e) tt))

system_law : (funct7 rs2 rs1 funct3 rd opcode : ℕ) → AreColumns funct7 rs2 rs1 funct3 rd opcode → opcode ≡ 0b1110011 → Holds (r_format funct7 rs2 rs1 funct3 rd opcode) (system_row funct7 rs2 rs1 funct3 rd)
system_law funct7 rs2 rs1 funct3 rd opcode a o =
    choose (r_format funct7 rs2 rs1 funct3 rd opcode) (funct7 + rs1 + funct3 + rd) 0 _ _
    (λ e.
    let e7 : funct7 ≡ 0 = omega arith in
    let e1 : rs1 ≡ 0 = omega arith in
    let e3 : funct3 ≡ 0 = omega arith in
    let ed : rd ≡ 0 = omega arith in
    choose (r_format funct7 rs2 rs1 funct3 rd opcode) rs2 0 _ _ (λ e2. (tt, rw (e7, e2, e1, e3, ed, o))) (
    choose (r_format funct7 rs2 rs1 funct3 rd opcode) rs2 1 _ _ (λ e2. (tt, rw (e7, e2, e1, e3, ed, o))) tt))
    tt

row_law : (funct7 rs2 rs1 funct3 rd opcode : ℕ) → AreColumns funct7 rs2 rs1 funct3 rd opcode → Holds (r_format funct7 rs2 rs1 funct3 rd opcode) (row funct7 rs2 rs1 funct3 rd opcode)
row_law funct7 rs2 rs1 funct3 rd opcode a =
    choose (r_format funct7 rs2 rs1 funct3 rd opcode) opcode 0b0110111 _ _ (λ o. ((a.rd_fits, (u_fills funct7 rs2 rs1 funct3 a.funct7_fits a.rs2_fits a.rs1_fits a.funct3_fits).range), ap (λ v. u_format (u_immediate funct7 rs2 rs1 funct3) rd v) (sym o) ∙ u_same funct7 rs2 rs1 funct3 rd opcode a)) (
    choose (r_format funct7 rs2 rs1 funct3 rd opcode) opcode 0b0010111 _ _ (λ o. ((a.rd_fits, (u_fills funct7 rs2 rs1 funct3 a.funct7_fits a.rs2_fits a.rs1_fits a.funct3_fits).range), ap (λ v. u_format (u_immediate funct7 rs2 rs1 funct3) rd v) (sym o) ∙ u_same funct7 rs2 rs1 funct3 rd opcode a)) (
    choose (r_format funct7 rs2 rs1 funct3 rd opcode) opcode 0b1101111 _ _ (λ o. ((a.rd_fits, (j_fills funct7 rs2 rs1 funct3 a.funct7_fits a.rs2_fits a.rs1_fits a.funct3_fits).range), ap (λ v. j_format (j_immediate funct7 rs2 rs1 funct3) rd v) (sym o) ∙ j_same funct7 rs2 rs1 funct3 rd opcode a)) (
    choose (r_format funct7 rs2 rs1 funct3 rd opcode) opcode 0b1100111 _ _ (λ o. jump_law funct7 rs2 rs1 funct3 rd opcode a o) (
    choose (r_format funct7 rs2 rs1 funct3 rd opcode) opcode 0b1100011 _ _ (λ o. branch_law funct7 rs2 rs1 funct3 rd opcode a o) (
    choose (r_format funct7 rs2 rs1 funct3 rd opcode) opcode 0b0000011 _ _ (λ o. load_law funct7 rs2 rs1 funct3 rd opcode a o) (
    choose (r_format funct7 rs2 rs1 funct3 rd opcode) opcode 0b0100011 _ _ (λ o. store_law funct7 rs2 rs1 funct3 rd opcode a o) (
    choose (r_format funct7 rs2 rs1 funct3 rd opcode) opcode 0b0010011 _ _ (λ o. immediate_law funct7 rs2 rs1 funct3 rd opcode a o) (
    choose (r_format funct7 rs2 rs1 funct3 rd opcode) opcode 0b0110011 _ _ (λ o. register_law funct7 rs2 rs1 funct3 rd opcode a o) (
    choose (r_format funct7 rs2 rs1 funct3 rd opcode) opcode 0b0001111 _ _ (λ o. fence_law funct7 rs2 rs1 funct3 rd opcode a o) (
    choose (r_format funct7 rs2 rs1 funct3 rd opcode) opcode 0b1110011 _ _ (λ o. system_law funct7 rs2 rs1 funct3 rd opcode a o) (
    tt)))))))))))

pub encoded-decoded : (word : ℕ) → word < 2 ^ 32 → Holds word (decoded word)
unfolding decoded
encoded-decoded word fits =
    subst (λ w. Holds w (decoded word)) (columns word fits)
    (row_law (field word 25 7) (field word 20 5) (field word 15 5) (field word 12 3) (field word 7 5) (word % 2 ^ 7)
    (record { funct7_fits = omega arith; rs2_fits = omega arith; rs1_fits = omega arith; funct3_fits = omega arith; rd_fits = omega arith; opcode_fits = omega arith }))

-- a word that means an instruction is its word
pub word_of : (word : ℕ) (instr : Instr) → word < 2 ^ 32 → decoded word ≡ Some instr → encoded instr ≡ word
word_of word instr fits means = let held : Holds word (Some instr) = subst (Holds word) means (encoded-decoded word fits) in held.1
