-- The instruction formats (RISC-V Unprivileged ISA, "Base Instruction Formats" and "Immediate Encoding Variants").
use Rattle.std.specs.Prelude.{ℕ, ◌+◌, ◌-◌, ◌*◌, ◌/◌, ◌%◌, ◌^◌, suc, ℤ, pos, negsuc, nat_lt, if◌then◌else◌}
use Rattle.std.specs.Int.{cast_unsigned, w32}

-- so many bits of a word, from bit `low` on
abbrev pub field : ℕ → ℕ → ℕ → ℕ
field word low width = (word / 2 ^ low) % 2 ^ width

-- a number of so many bits as a signed number in two's complement
abbrev pub signed : ℕ → ℕ → ℤ
signed bits n = if nat_lt n (2 ^ (bits - 1)) then pos n else negsuc (2 ^ bits - suc n)

-- a signed number modulo 2 ^ 32
abbrev pub unsigned : ℤ → ℕ
unsigned imm = cast_unsigned w32 imm

-- the six columns of a word: all of the R format, and the places that the others share
abbrev pub r_format : (funct7 rs2 rs1 funct3 rd opcode : ℕ) → ℕ
r_format funct7 rs2 rs1 funct3 rd opcode =
    funct7 * 2 ^ 25 + rs2 * 2 ^ 20 + rs1 * 2 ^ 15 + funct3 * 2 ^ 12 + rd * 2 ^ 7 + opcode

-- imm[11:5] imm[4:0] rs1 funct3 rd opcode
abbrev pub i_format : (imm : ℤ) (rs1 funct3 rd opcode : ℕ) → ℕ
i_format imm rs1 funct3 rd opcode =
    let u = unsigned imm in r_format (field u 5 7) (field u 0 5) rs1 funct3 rd opcode

-- imm[11:5] rs2 rs1 funct3 imm[4:0] opcode
abbrev pub s_format : (imm : ℤ) (rs2 rs1 funct3 opcode : ℕ) → ℕ
s_format imm rs2 rs1 funct3 opcode =
    let u = unsigned imm in r_format (field u 5 7) rs2 rs1 funct3 (field u 0 5) opcode

-- imm[12] imm[10:5] rs2 rs1 funct3 imm[4:1] imm[11] opcode
abbrev pub b_format : (imm : ℤ) (rs2 rs1 funct3 opcode : ℕ) → ℕ
b_format imm rs2 rs1 funct3 opcode =
    let u = unsigned imm in
    r_format (field u 12 1 * 2 ^ 6 + field u 5 6) rs2 rs1 funct3 (field u 1 4 * 2 + field u 11 1) opcode

-- imm[31:25] imm[24:20] imm[19:15] imm[14:12] rd opcode, where imm is the number in these 20 bits
abbrev pub u_format : (imm : ℤ) (rd opcode : ℕ) → ℕ
u_format imm rd opcode =
    let u = unsigned imm in r_format (field u 13 7) (field u 8 5) (field u 3 5) (field u 0 3) rd opcode

-- imm[20] imm[10:5] imm[4:1] imm[11] imm[19:15] imm[14:12] rd opcode
abbrev pub j_format : (imm : ℤ) (rd opcode : ℕ) → ℕ
j_format imm rd opcode =
    let u = unsigned imm in
    r_format (field u 20 1 * 2 ^ 6 + field u 5 6) (field u 1 4 * 2 + field u 11 1) (field u 15 5) (field u 12 3) rd opcode

-- the immediate of each format, from the columns that hold it
abbrev pub i_immediate : (funct7 rs2 : ℕ) → ℤ
i_immediate funct7 rs2 = signed 12 (funct7 * 2 ^ 5 + rs2)

abbrev pub s_immediate : (funct7 rd : ℕ) → ℤ
s_immediate funct7 rd = signed 12 (funct7 * 2 ^ 5 + rd)

abbrev pub b_immediate : (funct7 rd : ℕ) → ℤ
b_immediate funct7 rd =
    signed 13 (funct7 / 2 ^ 6 * 2 ^ 12 + rd % 2 * 2 ^ 11 + funct7 % 2 ^ 6 * 2 ^ 5 + rd / 2 * 2)

abbrev pub u_immediate : (funct7 rs2 rs1 funct3 : ℕ) → ℤ
u_immediate funct7 rs2 rs1 funct3 = pos (funct7 * 2 ^ 13 + rs2 * 2 ^ 8 + rs1 * 2 ^ 3 + funct3)

abbrev pub j_immediate : (funct7 rs2 rs1 funct3 : ℕ) → ℤ
j_immediate funct7 rs2 rs1 funct3 =
    signed 21
    (funct7 / 2 ^ 6 * 2 ^ 20 + rs1 * 2 ^ 15 + funct3 * 2 ^ 12 + rs2 % 2 * 2 ^ 11 + funct7 % 2 ^ 6 * 2 ^ 5 + rs2 / 2 * 2)
