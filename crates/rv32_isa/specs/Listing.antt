-- The instructions and their words (RISC-V Unprivileged ISA, "RV32/64G Instruction Set Listings").
use Rattle.std.specs.Prelude.{ℕ, ◌%◌, ◌<◌, ◌≡◌, ℤ, pos, negsuc, ◌≤ℤ◌}
use Rattle.rv32_isa.specs.Formats.{unsigned, r_format, i_format, s_format, b_format, u_format, j_format}
use Rattle.rv32_isa.specs.declared.Instr.{Instr}
use Rattle.rv32_isa.specs.declared.Instr.TheVariants.{Lui, Auipc, Jal, Jalr, Beq, Bne, Blt, Bge, Bltu, Bgeu, Lb, Lh, Lw, Lbu, Lhu, Sb, Sh, Sw, Addi, Slti, Sltiu, Xori, Ori, Andi, Slli, Srli, Srai, Add, Sub, Sll, Slt, Sltu, Xor, Srl, Sra, Or, And, Fence, Ecall, Ebreak, Mul, Mulh, Mulhsu, Mulhu, Div, Divu, Rem, Remu}

-- The listing: the word of each instruction, its columns in the manual's order.
abbrev pub encoded : Instr → ℕ
encoded (Lui rd imm) = u_format imm rd 0b0110111
encoded (Auipc rd imm) = u_format imm rd 0b0010111
encoded (Jal rd imm) = j_format imm rd 0b1101111
encoded (Jalr rd rs1 imm) = i_format imm rs1 0b000 rd 0b1100111
encoded (Beq rs1 rs2 imm) = b_format imm rs2 rs1 0b000 0b1100011
encoded (Bne rs1 rs2 imm) = b_format imm rs2 rs1 0b001 0b1100011
encoded (Blt rs1 rs2 imm) = b_format imm rs2 rs1 0b100 0b1100011
encoded (Bge rs1 rs2 imm) = b_format imm rs2 rs1 0b101 0b1100011
encoded (Bltu rs1 rs2 imm) = b_format imm rs2 rs1 0b110 0b1100011
encoded (Bgeu rs1 rs2 imm) = b_format imm rs2 rs1 0b111 0b1100011
encoded (Lb rd rs1 imm) = i_format imm rs1 0b000 rd 0b0000011
encoded (Lh rd rs1 imm) = i_format imm rs1 0b001 rd 0b0000011
encoded (Lw rd rs1 imm) = i_format imm rs1 0b010 rd 0b0000011
encoded (Lbu rd rs1 imm) = i_format imm rs1 0b100 rd 0b0000011
encoded (Lhu rd rs1 imm) = i_format imm rs1 0b101 rd 0b0000011
encoded (Sb rs1 rs2 imm) = s_format imm rs2 rs1 0b000 0b0100011
encoded (Sh rs1 rs2 imm) = s_format imm rs2 rs1 0b001 0b0100011
encoded (Sw rs1 rs2 imm) = s_format imm rs2 rs1 0b010 0b0100011
encoded (Addi rd rs1 imm) = i_format imm rs1 0b000 rd 0b0010011
encoded (Slti rd rs1 imm) = i_format imm rs1 0b010 rd 0b0010011
encoded (Sltiu rd rs1 imm) = i_format imm rs1 0b011 rd 0b0010011
encoded (Xori rd rs1 imm) = i_format imm rs1 0b100 rd 0b0010011
encoded (Ori rd rs1 imm) = i_format imm rs1 0b110 rd 0b0010011
encoded (Andi rd rs1 imm) = i_format imm rs1 0b111 rd 0b0010011
encoded (Slli rd rs1 imm) = r_format 0b0000000 (unsigned imm) rs1 0b001 rd 0b0010011
encoded (Srli rd rs1 imm) = r_format 0b0000000 (unsigned imm) rs1 0b101 rd 0b0010011
encoded (Srai rd rs1 imm) = r_format 0b0100000 (unsigned imm) rs1 0b101 rd 0b0010011
encoded (Add rd rs1 rs2) = r_format 0b0000000 rs2 rs1 0b000 rd 0b0110011
encoded (Sub rd rs1 rs2) = r_format 0b0100000 rs2 rs1 0b000 rd 0b0110011
encoded (Sll rd rs1 rs2) = r_format 0b0000000 rs2 rs1 0b001 rd 0b0110011
encoded (Slt rd rs1 rs2) = r_format 0b0000000 rs2 rs1 0b010 rd 0b0110011
encoded (Sltu rd rs1 rs2) = r_format 0b0000000 rs2 rs1 0b011 rd 0b0110011
encoded (Xor rd rs1 rs2) = r_format 0b0000000 rs2 rs1 0b100 rd 0b0110011
encoded (Srl rd rs1 rs2) = r_format 0b0000000 rs2 rs1 0b101 rd 0b0110011
encoded (Sra rd rs1 rs2) = r_format 0b0100000 rs2 rs1 0b101 rd 0b0110011
encoded (Or rd rs1 rs2) = r_format 0b0000000 rs2 rs1 0b110 rd 0b0110011
encoded (And rd rs1 rs2) = r_format 0b0000000 rs2 rs1 0b111 rd 0b0110011
encoded (Fence rd rs1 imm) = i_format imm rs1 0b000 rd 0b0001111
encoded Ecall = r_format 0b0000000 0 0 0b000 0 0b1110011
encoded Ebreak = r_format 0b0000000 1 0 0b000 0 0b1110011
encoded (Mul rd rs1 rs2) = r_format 0b0000001 rs2 rs1 0b000 rd 0b0110011
encoded (Mulh rd rs1 rs2) = r_format 0b0000001 rs2 rs1 0b001 rd 0b0110011
encoded (Mulhsu rd rs1 rs2) = r_format 0b0000001 rs2 rs1 0b010 rd 0b0110011
encoded (Mulhu rd rs1 rs2) = r_format 0b0000001 rs2 rs1 0b011 rd 0b0110011
encoded (Div rd rs1 rs2) = r_format 0b0000001 rs2 rs1 0b100 rd 0b0110011
encoded (Divu rd rs1 rs2) = r_format 0b0000001 rs2 rs1 0b101 rd 0b0110011
encoded (Rem rd rs1 rs2) = r_format 0b0000001 rs2 rs1 0b110 rd 0b0110011
encoded (Remu rd rs1 rs2) = r_format 0b0000001 rs2 rs1 0b111 rd 0b0110011

-- a register number, and the immediates that each format can hold
abbrev pub IsRegister : ℕ → Type 0
IsRegister r = r < 32

abbrev pub IsImmediate12 : ℤ → Type 0
IsImmediate12 imm = (negsuc 2047 ≤ℤ imm) × (imm ≤ℤ pos 2047)

abbrev pub IsBranchOffset : ℤ → Type 0
IsBranchOffset imm = (negsuc 4095 ≤ℤ imm) × (imm ≤ℤ pos 4094) × (unsigned imm % 2 ≡ 0)

abbrev pub IsJumpOffset : ℤ → Type 0
IsJumpOffset imm = (negsuc 1048575 ≤ℤ imm) × (imm ≤ℤ pos 1048574) × (unsigned imm % 2 ≡ 0)

abbrev pub IsUpper : ℤ → Type 0
IsUpper imm = (pos 0 ≤ℤ imm) × (imm ≤ℤ pos 1048575)

abbrev pub IsShift : ℤ → Type 0
IsShift imm = (pos 0 ≤ℤ imm) × (imm ≤ℤ pos 31)

-- its registers and its immediate are in range
abbrev pub IsInRange : Instr → Type 0
IsInRange (Lui rd imm) = IsRegister rd × IsUpper imm
IsInRange (Auipc rd imm) = IsRegister rd × IsUpper imm
IsInRange (Jal rd imm) = IsRegister rd × IsJumpOffset imm
IsInRange (Jalr rd rs1 imm) = IsRegister rd × IsRegister rs1 × IsImmediate12 imm
IsInRange (Beq rs1 rs2 imm) = IsRegister rs1 × IsRegister rs2 × IsBranchOffset imm
IsInRange (Bne rs1 rs2 imm) = IsRegister rs1 × IsRegister rs2 × IsBranchOffset imm
IsInRange (Blt rs1 rs2 imm) = IsRegister rs1 × IsRegister rs2 × IsBranchOffset imm
IsInRange (Bge rs1 rs2 imm) = IsRegister rs1 × IsRegister rs2 × IsBranchOffset imm
IsInRange (Bltu rs1 rs2 imm) = IsRegister rs1 × IsRegister rs2 × IsBranchOffset imm
IsInRange (Bgeu rs1 rs2 imm) = IsRegister rs1 × IsRegister rs2 × IsBranchOffset imm
IsInRange (Lb rd rs1 imm) = IsRegister rd × IsRegister rs1 × IsImmediate12 imm
IsInRange (Lh rd rs1 imm) = IsRegister rd × IsRegister rs1 × IsImmediate12 imm
IsInRange (Lw rd rs1 imm) = IsRegister rd × IsRegister rs1 × IsImmediate12 imm
IsInRange (Lbu rd rs1 imm) = IsRegister rd × IsRegister rs1 × IsImmediate12 imm
IsInRange (Lhu rd rs1 imm) = IsRegister rd × IsRegister rs1 × IsImmediate12 imm
IsInRange (Sb rs1 rs2 imm) = IsRegister rs1 × IsRegister rs2 × IsImmediate12 imm
IsInRange (Sh rs1 rs2 imm) = IsRegister rs1 × IsRegister rs2 × IsImmediate12 imm
IsInRange (Sw rs1 rs2 imm) = IsRegister rs1 × IsRegister rs2 × IsImmediate12 imm
IsInRange (Addi rd rs1 imm) = IsRegister rd × IsRegister rs1 × IsImmediate12 imm
IsInRange (Slti rd rs1 imm) = IsRegister rd × IsRegister rs1 × IsImmediate12 imm
IsInRange (Sltiu rd rs1 imm) = IsRegister rd × IsRegister rs1 × IsImmediate12 imm
IsInRange (Xori rd rs1 imm) = IsRegister rd × IsRegister rs1 × IsImmediate12 imm
IsInRange (Ori rd rs1 imm) = IsRegister rd × IsRegister rs1 × IsImmediate12 imm
IsInRange (Andi rd rs1 imm) = IsRegister rd × IsRegister rs1 × IsImmediate12 imm
IsInRange (Slli rd rs1 imm) = IsRegister rd × IsRegister rs1 × IsShift imm
IsInRange (Srli rd rs1 imm) = IsRegister rd × IsRegister rs1 × IsShift imm
IsInRange (Srai rd rs1 imm) = IsRegister rd × IsRegister rs1 × IsShift imm
IsInRange (Add rd rs1 rs2) = IsRegister rd × IsRegister rs1 × IsRegister rs2
IsInRange (Sub rd rs1 rs2) = IsRegister rd × IsRegister rs1 × IsRegister rs2
IsInRange (Sll rd rs1 rs2) = IsRegister rd × IsRegister rs1 × IsRegister rs2
IsInRange (Slt rd rs1 rs2) = IsRegister rd × IsRegister rs1 × IsRegister rs2
IsInRange (Sltu rd rs1 rs2) = IsRegister rd × IsRegister rs1 × IsRegister rs2
IsInRange (Xor rd rs1 rs2) = IsRegister rd × IsRegister rs1 × IsRegister rs2
IsInRange (Srl rd rs1 rs2) = IsRegister rd × IsRegister rs1 × IsRegister rs2
IsInRange (Sra rd rs1 rs2) = IsRegister rd × IsRegister rs1 × IsRegister rs2
IsInRange (Or rd rs1 rs2) = IsRegister rd × IsRegister rs1 × IsRegister rs2
IsInRange (And rd rs1 rs2) = IsRegister rd × IsRegister rs1 × IsRegister rs2
IsInRange (Fence rd rs1 imm) = IsRegister rd × IsRegister rs1 × IsImmediate12 imm
IsInRange Ecall = Unit {0}
IsInRange Ebreak = Unit {0}
IsInRange (Mul rd rs1 rs2) = IsRegister rd × IsRegister rs1 × IsRegister rs2
IsInRange (Mulh rd rs1 rs2) = IsRegister rd × IsRegister rs1 × IsRegister rs2
IsInRange (Mulhsu rd rs1 rs2) = IsRegister rd × IsRegister rs1 × IsRegister rs2
IsInRange (Mulhu rd rs1 rs2) = IsRegister rd × IsRegister rs1 × IsRegister rs2
IsInRange (Div rd rs1 rs2) = IsRegister rd × IsRegister rs1 × IsRegister rs2
IsInRange (Divu rd rs1 rs2) = IsRegister rd × IsRegister rs1 × IsRegister rs2
IsInRange (Rem rd rs1 rs2) = IsRegister rd × IsRegister rs1 × IsRegister rs2
IsInRange (Remu rd rs1 rs2) = IsRegister rd × IsRegister rs1 × IsRegister rs2

-- an operation on registers
abbrev pub IsRegisterForm : Instr → Type 0
IsRegisterForm (Add _ _ _) = Unit {0}
IsRegisterForm (Sub _ _ _) = Unit {0}
IsRegisterForm (Sll _ _ _) = Unit {0}
IsRegisterForm (Slt _ _ _) = Unit {0}
IsRegisterForm (Sltu _ _ _) = Unit {0}
IsRegisterForm (Xor _ _ _) = Unit {0}
IsRegisterForm (Srl _ _ _) = Unit {0}
IsRegisterForm (Sra _ _ _) = Unit {0}
IsRegisterForm (Or _ _ _) = Unit {0}
IsRegisterForm (And _ _ _) = Unit {0}
IsRegisterForm (Mul _ _ _) = Unit {0}
IsRegisterForm (Mulh _ _ _) = Unit {0}
IsRegisterForm (Mulhsu _ _ _) = Unit {0}
IsRegisterForm (Mulhu _ _ _) = Unit {0}
IsRegisterForm (Div _ _ _) = Unit {0}
IsRegisterForm (Divu _ _ _) = Unit {0}
IsRegisterForm (Rem _ _ _) = Unit {0}
IsRegisterForm (Remu _ _ _) = Unit {0}
IsRegisterForm _ = ⊥

-- an operation with an immediate, or on registers
abbrev pub IsOperationForm : Instr → Type 0
IsOperationForm (Addi _ _ _) = Unit {0}
IsOperationForm (Slti _ _ _) = Unit {0}
IsOperationForm (Sltiu _ _ _) = Unit {0}
IsOperationForm (Xori _ _ _) = Unit {0}
IsOperationForm (Ori _ _ _) = Unit {0}
IsOperationForm (Andi _ _ _) = Unit {0}
IsOperationForm (Slli _ _ _) = Unit {0}
IsOperationForm (Srli _ _ _) = Unit {0}
IsOperationForm (Srai _ _ _) = Unit {0}
IsOperationForm instr = IsRegisterForm instr
