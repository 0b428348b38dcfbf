-- The instruction of a word: the row of the listing that it is in, found by its opcode, then funct3, then funct7.
use Rattle.std.specs.Prelude.{ℕ, ◌+◌, ◌%◌, ◌^◌, ℤ, pos, Option, Some, None, if◌then◌else◌, ◌==◌}
use Rattle.rv32_isa.specs.Formats.{field, i_immediate, s_immediate, b_immediate, u_immediate, j_immediate}
use Rattle.rv32_isa.specs.declared.Instr.{Instr}
use Rattle.rv32_isa.specs.declared.Instr.TheVariants.{Lui, Auipc, Jal, Jalr, Beq, Bne, Blt, Bge, Bltu, Bgeu, Lb, Lh, Lw, Lbu, Lhu, Sb, Sh, Sw, Addi, Slti, Sltiu, Xori, Ori, Andi, Slli, Srli, Srai, Add, Sub, Sll, Slt, Sltu, Xor, Srl, Sra, Or, And, Fence, Ecall, Ebreak, Mul, Mulh, Mulhsu, Mulhu, Div, Divu, Rem, Remu}

-- the rows of one opcode
abbrev pub jump_row : (funct3 rd rs1 : ℕ) (imm : ℤ) → Option Instr
jump_row funct3 rd rs1 imm = if funct3 == 0b000 then Some (Jalr rd rs1 imm) else None

abbrev pub fence_row : (funct3 rd rs1 : ℕ) (imm : ℤ) → Option Instr
fence_row funct3 rd rs1 imm = if funct3 == 0b000 then Some (Fence rd rs1 imm) else None

abbrev pub shift_left_row : (funct7 rd rs1 rs2 : ℕ) → Option Instr
shift_left_row funct7 rd rs1 rs2 = if funct7 == 0b0000000 then Some (Slli rd rs1 (pos rs2)) else None

abbrev pub branch_row : (funct3 rs1 rs2 : ℕ) (imm : ℤ) → Option Instr
branch_row funct3 rs1 rs2 imm =
    if funct3 == 0b000 then Some (Beq rs1 rs2 imm)
    else (if funct3 == 0b001 then Some (Bne rs1 rs2 imm)
    else (if funct3 == 0b100 then Some (Blt rs1 rs2 imm)
    else (if funct3 == 0b101 then Some (Bge rs1 rs2 imm)
    else (if funct3 == 0b110 then Some (Bltu rs1 rs2 imm)
    else (if funct3 == 0b111 then Some (Bgeu rs1 rs2 imm)
    else None)))))

abbrev pub load_row : (funct3 rd rs1 : ℕ) (imm : ℤ) → Option Instr
load_row funct3 rd rs1 imm =
    if funct3 == 0b000 then Some (Lb rd rs1 imm)
    else (if funct3 == 0b001 then Some (Lh rd rs1 imm)
    else (if funct3 == 0b010 then Some (Lw rd rs1 imm)
    else (if funct3 == 0b100 then Some (Lbu rd rs1 imm)
    else (if funct3 == 0b101 then Some (Lhu rd rs1 imm)
    else None))))

abbrev pub store_row : (funct3 rs1 rs2 : ℕ) (imm : ℤ) → Option Instr
store_row funct3 rs1 rs2 imm =
    if funct3 == 0b000 then Some (Sb rs1 rs2 imm)
    else (if funct3 == 0b001 then Some (Sh rs1 rs2 imm)
    else (if funct3 == 0b010 then Some (Sw rs1 rs2 imm)
    else None))

abbrev pub shift_right_row : (funct7 rd rs1 rs2 : ℕ) → Option Instr
shift_right_row funct7 rd rs1 rs2 =
    if funct7 == 0b0000000 then Some (Srli rd rs1 (pos rs2))
    else (if funct7 == 0b0100000 then Some (Srai rd rs1 (pos rs2))
    else None)

abbrev pub immediate_row : (funct7 funct3 rd rs1 rs2 : ℕ) (imm : ℤ) → Option Instr
immediate_row funct7 funct3 rd rs1 rs2 imm =
    if funct3 == 0b000 then Some (Addi rd rs1 imm)
    else (if funct3 == 0b001 then shift_left_row funct7 rd rs1 rs2
    else (if funct3 == 0b010 then Some (Slti rd rs1 imm)
    else (if funct3 == 0b011 then Some (Sltiu rd rs1 imm)
    else (if funct3 == 0b100 then Some (Xori rd rs1 imm)
    else (if funct3 == 0b101 then shift_right_row funct7 rd rs1 rs2
    else (if funct3 == 0b110 then Some (Ori rd rs1 imm)
    else (if funct3 == 0b111 then Some (Andi rd rs1 imm)
    else None)))))))

abbrev pub base_row : (funct3 rd rs1 rs2 : ℕ) → Option Instr
base_row funct3 rd rs1 rs2 =
    if funct3 == 0b000 then Some (Add rd rs1 rs2)
    else (if funct3 == 0b001 then Some (Sll rd rs1 rs2)
    else (if funct3 == 0b010 then Some (Slt rd rs1 rs2)
    else (if funct3 == 0b011 then Some (Sltu rd rs1 rs2)
    else (if funct3 == 0b100 then Some (Xor rd rs1 rs2)
    else (if funct3 == 0b101 then Some (Srl rd rs1 rs2)
    else (if funct3 == 0b110 then Some (Or rd rs1 rs2)
    else (if funct3 == 0b111 then Some (And rd rs1 rs2)
    else None)))))))

abbrev pub alternate_row : (funct3 rd rs1 rs2 : ℕ) → Option Instr
alternate_row funct3 rd rs1 rs2 =
    if funct3 == 0b000 then Some (Sub rd rs1 rs2)
    else (if funct3 == 0b101 then Some (Sra rd rs1 rs2)
    else None)

abbrev pub multiply_row : (funct3 rd rs1 rs2 : ℕ) → Option Instr
multiply_row funct3 rd rs1 rs2 =
    if funct3 == 0b000 then Some (Mul rd rs1 rs2)
    else (if funct3 == 0b001 then Some (Mulh rd rs1 rs2)
    else (if funct3 == 0b010 then Some (Mulhsu rd rs1 rs2)
    else (if funct3 == 0b011 then Some (Mulhu rd rs1 rs2)
    else (if funct3 == 0b100 then Some (Div rd rs1 rs2)
    else (if funct3 == 0b101 then Some (Divu rd rs1 rs2)
    else (if funct3 == 0b110 then Some (Rem rd rs1 rs2)
    else (if funct3 == 0b111 then Some (Remu rd rs1 rs2)
    else None)))))))

abbrev pub register_row : (funct7 funct3 rd rs1 rs2 : ℕ) → Option Instr
register_row funct7 funct3 rd rs1 rs2 =
    if funct7 == 0b0000000 then base_row funct3 rd rs1 rs2
    else (if funct7 == 0b0000001 then multiply_row funct3 rd rs1 rs2
    else (if funct7 == 0b0100000 then alternate_row funct3 rd rs1 rs2
    else None))

-- all columns but rs2 are 0
abbrev pub system_row : (funct7 rs2 rs1 funct3 rd : ℕ) → Option Instr
system_row funct7 rs2 rs1 funct3 rd =
    if funct7 + rs1 + funct3 + rd == 0
    then (if rs2 == 0 then Some Ecall else (if rs2 == 1 then Some Ebreak else None))
    else None

-- the row of these columns
abbrev pub row : (funct7 rs2 rs1 funct3 rd opcode : ℕ) → Option Instr
row funct7 rs2 rs1 funct3 rd opcode =
    if opcode == 0b0110111 then Some (Lui rd (u_immediate funct7 rs2 rs1 funct3))
    else (if opcode == 0b0010111 then Some (Auipc rd (u_immediate funct7 rs2 rs1 funct3))
    else (if opcode == 0b1101111 then Some (Jal rd (j_immediate funct7 rs2 rs1 funct3))
    else (if opcode == 0b1100111 then jump_row funct3 rd rs1 (i_immediate funct7 rs2)
    else (if opcode == 0b1100011 then branch_row funct3 rs1 rs2 (b_immediate funct7 rd)
    else (if opcode == 0b0000011 then load_row funct3 rd rs1 (i_immediate funct7 rs2)
    else (if opcode == 0b0100011 then store_row funct3 rs1 rs2 (s_immediate funct7 rd)
    else (if opcode == 0b0010011 then immediate_row funct7 funct3 rd rs1 rs2 (i_immediate funct7 rs2)
    else (if opcode == 0b0110011 then register_row funct7 funct3 rd rs1 rs2
    else (if opcode == 0b0001111 then fence_row funct3 rd rs1 (i_immediate funct7 rs2)
    else (if opcode == 0b1110011 then system_row funct7 rs2 rs1 funct3 rd
    else None))))))))))

-- the instruction whose word this is, or None where the word has no row
unfoldable pub decoded : ℕ → Option Instr
decoded word =
    row (field word 25 7) (field word 20 5) (field word 15 5) (field word 12 3) (field word 7 5) (word % 2 ^ 7)
