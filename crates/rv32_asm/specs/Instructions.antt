-- The instructions that a statement gives.
use Rattle.std.specs.Prelude.{ℕ, ℤ, pos, negsuc, ◌+◌, ◌-◌, ◌/◌, ◌%◌, ◌^◌, List, [], ◌∷◌, map, replicate, Option, Some, None, unwrap_or, if◌then◌else◌, nat_lt}
use Rattle.std.specs.Option.{option_to_list}
use Rattle.rv32_isa.specs.declared.Instr.{Instr}
use Rattle.rv32_isa.specs.declared.Instr.TheVariants as instr
use Rattle.rv32_isa.specs.Listing.{encoded}
use Rattle.asm_places.specs.Names.{Names, meaning}
use Rattle.asm_places.specs.Operands.{constant_of, value_of, word_of, fits_low, place_at}
use Rattle.asm_causes.specs.Causes.{distance}
use Rattle.asm_causes.specs.Places.{space_size}
use Rattle.asm_lines.specs.Language.{Operand, Statement, Words, Space, Registers, Immediate, Shift, Store, Branch, Upper, Jump, Alone, LoadConstant, LoadValue, CallService}
use Rattle.rv32_isa.specs.declared.mnemonics.RegisterOp.{RegisterOp}
use Rattle.rv32_isa.specs.declared.mnemonics.RegisterOp.TheVariants.{Add, Sub, Sll, Slt, Sltu, Xor, Srl, Sra, Or, And, Mul, Mulh, Mulhsu, Mulhu, Div, Divu, Rem, Remu}
use Rattle.rv32_isa.specs.declared.mnemonics.ImmediateOp.{ImmediateOp}
use Rattle.rv32_isa.specs.declared.mnemonics.ImmediateOp.TheVariants.{Addi, Slti, Sltiu, Xori, Ori, Andi, Jalr, Lb, Lh, Lw, Lbu, Lhu}
use Rattle.rv32_isa.specs.declared.mnemonics.ShiftOp.{ShiftOp}
use Rattle.rv32_isa.specs.declared.mnemonics.ShiftOp.TheVariants.{Slli, Srli, Srai}
use Rattle.rv32_isa.specs.declared.mnemonics.StoreOp.{StoreOp}
use Rattle.rv32_isa.specs.declared.mnemonics.StoreOp.TheVariants.{Sb, Sh, Sw}
use Rattle.rv32_isa.specs.declared.mnemonics.BranchOp.{BranchOp}
use Rattle.rv32_isa.specs.declared.mnemonics.BranchOp.TheVariants.{Beq, Bne, Blt, Bge, Bltu, Bgeu}
use Rattle.rv32_isa.specs.declared.mnemonics.UpperOp.{UpperOp}
use Rattle.rv32_isa.specs.declared.mnemonics.UpperOp.TheVariants.{Lui, Auipc}
use Rattle.rv32_isa.specs.declared.mnemonics.AloneOp.{AloneOp}
use Rattle.rv32_isa.specs.declared.mnemonics.AloneOp.TheVariants.{Fence, Ecall, Ebreak}
use Rattle.asm_places.specs.Place.{Place}
use Rattle.asm_places.specs.declared.places.Meaning.{Meaning}
use Rattle.asm_places.specs.declared.places.Meaning.TheVariants.{Label}

-- rd, rs1, rs2
abbrev pub of_registers : RegisterOp → (rd rs1 rs2 : ℕ) → Instr
of_registers Add rd rs1 rs2 = instr.Add rd rs1 rs2
of_registers Sub rd rs1 rs2 = instr.Sub rd rs1 rs2
of_registers Sll rd rs1 rs2 = instr.Sll rd rs1 rs2
of_registers Slt rd rs1 rs2 = instr.Slt rd rs1 rs2
of_registers Sltu rd rs1 rs2 = instr.Sltu rd rs1 rs2
of_registers Xor rd rs1 rs2 = instr.Xor rd rs1 rs2
of_registers Srl rd rs1 rs2 = instr.Srl rd rs1 rs2
of_registers Sra rd rs1 rs2 = instr.Sra rd rs1 rs2
of_registers Or rd rs1 rs2 = instr.Or rd rs1 rs2
of_registers And rd rs1 rs2 = instr.And rd rs1 rs2
of_registers Mul rd rs1 rs2 = instr.Mul rd rs1 rs2
of_registers Mulh rd rs1 rs2 = instr.Mulh rd rs1 rs2
of_registers Mulhsu rd rs1 rs2 = instr.Mulhsu rd rs1 rs2
of_registers Mulhu rd rs1 rs2 = instr.Mulhu rd rs1 rs2
of_registers Div rd rs1 rs2 = instr.Div rd rs1 rs2
of_registers Divu rd rs1 rs2 = instr.Divu rd rs1 rs2
of_registers Rem rd rs1 rs2 = instr.Rem rd rs1 rs2
of_registers Remu rd rs1 rs2 = instr.Remu rd rs1 rs2

-- rd, rs1, constant
abbrev pub of_immediate : ImmediateOp → (rd rs1 : ℕ) → ℤ → Instr
of_immediate Addi rd rs1 imm = instr.Addi rd rs1 imm
of_immediate Slti rd rs1 imm = instr.Slti rd rs1 imm
of_immediate Sltiu rd rs1 imm = instr.Sltiu rd rs1 imm
of_immediate Xori rd rs1 imm = instr.Xori rd rs1 imm
of_immediate Ori rd rs1 imm = instr.Ori rd rs1 imm
of_immediate Andi rd rs1 imm = instr.Andi rd rs1 imm
of_immediate Jalr rd rs1 imm = instr.Jalr rd rs1 imm
of_immediate Lb rd rs1 imm = instr.Lb rd rs1 imm
of_immediate Lh rd rs1 imm = instr.Lh rd rs1 imm
of_immediate Lw rd rs1 imm = instr.Lw rd rs1 imm
of_immediate Lbu rd rs1 imm = instr.Lbu rd rs1 imm
of_immediate Lhu rd rs1 imm = instr.Lhu rd rs1 imm

-- rd, rs1, constant
abbrev pub of_shift : ShiftOp → (rd rs1 : ℕ) → ℤ → Instr
of_shift Slli rd rs1 imm = instr.Slli rd rs1 imm
of_shift Srli rd rs1 imm = instr.Srli rd rs1 imm
of_shift Srai rd rs1 imm = instr.Srai rd rs1 imm

-- rs1, rs2, constant
abbrev pub of_store : StoreOp → (rs1 rs2 : ℕ) → ℤ → Instr
of_store Sb rs1 rs2 imm = instr.Sb rs1 rs2 imm
of_store Sh rs1 rs2 imm = instr.Sh rs1 rs2 imm
of_store Sw rs1 rs2 imm = instr.Sw rs1 rs2 imm

-- rs1, rs2, distance
abbrev pub of_branch : BranchOp → (rs1 rs2 : ℕ) → ℤ → Instr
of_branch Beq rs1 rs2 imm = instr.Beq rs1 rs2 imm
of_branch Bne rs1 rs2 imm = instr.Bne rs1 rs2 imm
of_branch Blt rs1 rs2 imm = instr.Blt rs1 rs2 imm
of_branch Bge rs1 rs2 imm = instr.Bge rs1 rs2 imm
of_branch Bltu rs1 rs2 imm = instr.Bltu rs1 rs2 imm
of_branch Bgeu rs1 rs2 imm = instr.Bgeu rs1 rs2 imm

-- rd, constant
abbrev pub of_upper : UpperOp → ℕ → ℤ → Instr
of_upper Lui rd imm = instr.Lui rd imm
of_upper Auipc rd imm = instr.Auipc rd imm

-- `fence` is 0x0ff0000f: all accesses before all behind
abbrev pub of_alone : AloneOp → Instr
of_alone Fence = instr.Fence 0 0 (pos 255)
of_alone Ecall = instr.Ecall
of_alone Ebreak = instr.Ebreak

-- the low 12 bits of a word as a signed number
abbrev pub low_part : ℕ → ℤ
low_part value = if nat_lt (value % 4096) 2048 then pos (value % 4096) else negsuc (4095 - value % 4096)

-- the upper 20 bits of the word without its low part: one more where the low part is negative
abbrev pub high_part : ℕ → ℕ
high_part value = (value / 4096 + value / 2048 % 2) % 2 ^ 20

-- a word to a register
abbrev pub load_word : ℕ → ℕ → List Instr
load_word rd value = instr.Lui rd (pos (high_part value)) ∷ instr.Addi rd rd (low_part value) ∷ []

-- `li`: one instruction where 12 bits hold the constant, else as `la`
abbrev pub load_constant : ℕ → ℤ → List Instr
load_constant rd value = if fits_low value then instr.Addi rd 0 value ∷ [] else load_word rd (word_of value)

-- the number of a register, and of a constant
abbrev pub register_of : Option ℕ → ℕ
register_of r = unwrap_or r 0

abbrev pub constant : Names → Operand → ℤ
constant names o = unwrap_or (constant_of names o) (pos 0)

-- the distance to what a name stands for
abbrev pub distance_to : List Place → Place → Option Meaning → ℤ
distance_to places from (Some (Label line)) = distance from (place_at places line)
distance_to places from _ = pos 0

abbrev pub target_distance : Names → List Place → Place → List ℕ → ℤ
target_distance names places from name = distance_to places from (meaning names name)

-- the instruction that a statement gives alone, where its line begins here
abbrev pub instruction : Names → List Place → Place → Statement → Option Instr
instruction names places from (Registers op d s t) = Some (of_registers op (register_of d) (register_of s) (register_of t))
instruction names places from (Immediate op d s c) = Some (of_immediate op (register_of d) (register_of s) (constant names c))
instruction names places from (Shift op d s c) = Some (of_shift op (register_of d) (register_of s) (constant names c))
instruction names places from (Store op t s c) = Some (of_store op (register_of s) (register_of t) (constant names c))
instruction names places from (Branch op s t target) = Some (of_branch op (register_of s) (register_of t) (target_distance names places from target))
instruction names places from (Upper op d c) = Some (of_upper op (register_of d) (constant names c))
instruction names places from (Jump d target) = Some (instr.Jal (register_of d) (target_distance names places from target))
instruction names places from (Alone op) = Some (of_alone op)
instruction names places from _ = None

-- the instructions that a statement gives, where its line begins here
abbrev pub instructions : Names → List Place → Place → Statement → List Instr
instructions names places from (LoadConstant d c) = load_constant (register_of d) (constant names c)
instructions names places from (LoadValue d v) = load_word (register_of d) (value_of names places v)
instructions names places from (CallService number) = instr.Addi 17 0 (pos number) ∷ instr.Ecall ∷ []
instructions names places from statement = option_to_list (instruction names places from statement)

-- the words that a statement gives
abbrev pub words : Names → List Place → Place → Statement → List ℕ
words names places from (Words values) = map (value_of names places) values
words names places from (Space c) = replicate (space_size (constant_of names c) / 4) 0
words names places from statement = map encoded (instructions names places from statement)
