-- A word and its six columns.
use Rattle.std.proofs.Common.{◌≡◌, ℕ, ◌%◌, ◌^◌, ◌<◌, arith}
use Rattle.rv32_isa.specs.Formats.{field, r_format}
use Rattle.rv32_isa.specs.Decoded.{decoded, row}

-- the columns of a word give the word again
pub columns : (word : ℕ) → word < 2 ^ 32 → r_format (field word 25 7) (field word 20 5) (field word 15 5) (field word 12 3) (field word 7 5) (word % 2 ^ 7) ≡ word
columns word fits = omega arith

-- each column is as wide as its field
pub record AreColumns (funct7 rs2 rs1 funct3 rd opcode : ℕ) : Type 0 where
  pub funct7_fits : funct7 < 2 ^ 7
  pub rs2_fits : rs2 < 2 ^ 5
  pub rs1_fits : rs1 < 2 ^ 5
  pub funct3_fits : funct3 < 2 ^ 3
  pub rd_fits : rd < 2 ^ 5
  pub opcode_fits : opcode < 2 ^ 7

-- the row of a word is that of its columns
pub decoded-r_format : (funct7 rs2 rs1 funct3 rd opcode : ℕ) → AreColumns funct7 rs2 rs1 funct3 rd opcode → decoded (r_format funct7 rs2 rs1 funct3 rd opcode) ≡ row funct7 rs2 rs1 funct3 rd opcode
unfolding decoded
decoded-r_format funct7 rs2 rs1 funct3 rd opcode fits =
    let word : ℕ = r_format funct7 rs2 rs1 funct3 rd opcode in
    let a : field word 25 7 ≡ funct7 = omega arith in
    let b : field word 20 5 ≡ rs2 = omega arith in
    let c : field word 15 5 ≡ rs1 = omega arith in
    let d : field word 12 3 ≡ funct3 = omega arith in
    let e : field word 7 5 ≡ rd = omega arith in
    let f : word % 2 ^ 7 ≡ opcode = omega arith in
    rw (a, b, c, d, e, f)
