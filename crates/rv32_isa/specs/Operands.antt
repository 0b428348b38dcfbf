-- The registers that an instruction reads, and the one that it writes (RISC-V Unprivileged ISA, "RV32/64G Instruction Set Listings").
use Rattle.std.specs.Prelude.{ℕ, List, [], ◌∷◌}
use Rattle.rv32_isa.specs.declared.Instr.{Instr}
use Rattle.rv32_isa.specs.declared.Instr.TheVariants.{Lui, Auipc, Jal, Jalr, Beq, Bne, Blt, Bge, Bltu, Bgeu, Lb, Lh, Lw, Lbu, Lhu, Sb, Sh, Sw, Addi, Slti, Sltiu, Xori, Ori, Andi, Slli, Srli, Srai, Add, Sub, Sll, Slt, Sltu, Xor, Srl, Sra, Or, And, Fence, Ecall, Ebreak, Mul, Mulh, Mulhsu, Mulhu, Div, Divu, Rem, Remu}

-- the registers that an instruction other than ECALL reads
abbrev pub reads : Instr → List ℕ
reads (Lui rd imm) = []
reads (Auipc rd imm) = []
reads (Jal rd imm) = []
reads (Jalr rd rs1 imm) = rs1 ∷ []
reads (Beq rs1 rs2 imm) = rs1 ∷ rs2 ∷ []
reads (Bne rs1 rs2 imm) = rs1 ∷ rs2 ∷ []
reads (Blt rs1 rs2 imm) = rs1 ∷ rs2 ∷ []
reads (Bge rs1 rs2 imm) = rs1 ∷ rs2 ∷ []
reads (Bltu rs1 rs2 imm) = rs1 ∷ rs2 ∷ []
reads (Bgeu rs1 rs2 imm) = rs1 ∷ rs2 ∷ []
reads (Lb rd rs1 imm) = rs1 ∷ []
reads (Lh rd rs1 imm) = rs1 ∷ []
reads (Lw rd rs1 imm) = rs1 ∷ []
reads (Lbu rd rs1 imm) = rs1 ∷ []
reads (Lhu rd rs1 imm) = rs1 ∷ []
reads (Sb rs1 rs2 imm) = rs1 ∷ rs2 ∷ []
reads (Sh rs1 rs2 imm) = rs1 ∷ rs2 ∷ []
reads (Sw rs1 rs2 imm) = rs1 ∷ rs2 ∷ []
reads (Addi rd rs1 imm) = rs1 ∷ []
reads (Slti rd rs1 imm) = rs1 ∷ []
reads (Sltiu rd rs1 imm) = rs1 ∷ []
reads (Xori rd rs1 imm) = rs1 ∷ []
reads (Ori rd rs1 imm) = rs1 ∷ []
reads (Andi rd rs1 imm) = rs1 ∷ []
reads (Slli rd rs1 imm) = rs1 ∷ []
reads (Srli rd rs1 imm) = rs1 ∷ []
reads (Srai rd rs1 imm) = rs1 ∷ []
reads (Add rd rs1 rs2) = rs1 ∷ rs2 ∷ []
reads (Sub rd rs1 rs2) = rs1 ∷ rs2 ∷ []
reads (Sll rd rs1 rs2) = rs1 ∷ rs2 ∷ []
reads (Slt rd rs1 rs2) = rs1 ∷ rs2 ∷ []
reads (Sltu rd rs1 rs2) = rs1 ∷ rs2 ∷ []
reads (Xor rd rs1 rs2) = rs1 ∷ rs2 ∷ []
reads (Srl rd rs1 rs2) = rs1 ∷ rs2 ∷ []
reads (Sra rd rs1 rs2) = rs1 ∷ rs2 ∷ []
reads (Or rd rs1 rs2) = rs1 ∷ rs2 ∷ []
reads (And rd rs1 rs2) = rs1 ∷ rs2 ∷ []
reads (Fence rd rs1 imm) = []
reads Ecall = []
reads Ebreak = []
reads (Mul rd rs1 rs2) = rs1 ∷ rs2 ∷ []
reads (Mulh rd rs1 rs2) = rs1 ∷ rs2 ∷ []
reads (Mulhsu rd rs1 rs2) = rs1 ∷ rs2 ∷ []
reads (Mulhu rd rs1 rs2) = rs1 ∷ rs2 ∷ []
reads (Div rd rs1 rs2) = rs1 ∷ rs2 ∷ []
reads (Divu rd rs1 rs2) = rs1 ∷ rs2 ∷ []
reads (Rem rd rs1 rs2) = rs1 ∷ rs2 ∷ []
reads (Remu rd rs1 rs2) = rs1 ∷ rs2 ∷ []

-- the register that an instruction writes; x0 where it writes none
abbrev pub writes : Instr → ℕ
writes (Lui rd imm) = rd
writes (Auipc rd imm) = rd
writes (Jal rd imm) = rd
writes (Jalr rd rs1 imm) = rd
writes (Beq rs1 rs2 imm) = 0
writes (Bne rs1 rs2 imm) = 0
writes (Blt rs1 rs2 imm) = 0
writes (Bge rs1 rs2 imm) = 0
writes (Bltu rs1 rs2 imm) = 0
writes (Bgeu rs1 rs2 imm) = 0
writes (Lb rd rs1 imm) = rd
writes (Lh rd rs1 imm) = rd
writes (Lw rd rs1 imm) = rd
writes (Lbu rd rs1 imm) = rd
writes (Lhu rd rs1 imm) = rd
writes (Sb rs1 rs2 imm) = 0
writes (Sh rs1 rs2 imm) = 0
writes (Sw rs1 rs2 imm) = 0
writes (Addi rd rs1 imm) = rd
writes (Slti rd rs1 imm) = rd
writes (Sltiu rd rs1 imm) = rd
writes (Xori rd rs1 imm) = rd
writes (Ori rd rs1 imm) = rd
writes (Andi rd rs1 imm) = rd
writes (Slli rd rs1 imm) = rd
writes (Srli rd rs1 imm) = rd
writes (Srai rd rs1 imm) = rd
writes (Add rd rs1 rs2) = rd
writes (Sub rd rs1 rs2) = rd
writes (Sll rd rs1 rs2) = rd
writes (Slt rd rs1 rs2) = rd
writes (Sltu rd rs1 rs2) = rd
writes (Xor rd rs1 rs2) = rd
writes (Srl rd rs1 rs2) = rd
writes (Sra rd rs1 rs2) = rd
writes (Or rd rs1 rs2) = rd
writes (And rd rs1 rs2) = rd
writes (Fence rd rs1 imm) = 0
writes Ecall = 0
writes Ebreak = 0
writes (Mul rd rs1 rs2) = rd
writes (Mulh rd rs1 rs2) = rd
writes (Mulhsu rd rs1 rs2) = rd
writes (Mulhu rd rs1 rs2) = rd
writes (Div rd rs1 rs2) = rd
writes (Divu rd rs1 rs2) = rd
writes (Rem rd rs1 rs2) = rd
writes (Remu rd rs1 rs2) = rd
