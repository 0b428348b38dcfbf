-- The form of an instruction's line: what of the assembler's table it begins with, and its operands.
use Rattle.std.specs.Prelude.{ℕ, ◌==◌, if◌then◌else◌}
use Rattle.rv32_isa.specs.declared.Instr.{Instr}
use Rattle.rv32_isa.specs.declared.Instr.TheVariants.{Lui, Auipc, Jal, Jalr, Beq, Bne, Blt, Bge, Bltu, Bgeu, Lb, Lh, Lw, Lbu, Lhu, Sb, Sh, Sw, Addi, Slti, Sltiu, Xori, Ori, Andi, Slli, Srli, Srai, Add, Sub, Sll, Slt, Sltu, Xor, Srl, Sra, Or, And, Fence, Ecall, Ebreak, Mul, Mulh, Mulhsu, Mulhu, Div, Divu, Rem, Remu}
use Rattle.rv32_isa.specs.declared.mnemonics.RegisterOp.TheVariants as register
use Rattle.rv32_isa.specs.declared.mnemonics.ImmediateOp.TheVariants as immediate
use Rattle.rv32_isa.specs.declared.mnemonics.ShiftOp.TheVariants as shift
use Rattle.rv32_isa.specs.declared.mnemonics.StoreOp.TheVariants as store
use Rattle.rv32_isa.specs.declared.mnemonics.BranchOp.TheVariants as branch
use Rattle.rv32_isa.specs.declared.mnemonics.UpperOp.TheVariants as upper
use Rattle.rv32_isa.specs.declared.mnemonics.AloneOp.TheVariants as alone
use Rattle.rv32_listing.specs.declared.forms.Form.{Form}
use Rattle.rv32_listing.specs.declared.forms.Form.TheVariants.{Registers, Immediate, Load, Shift, Store, Branch, Upper, Jump, Alone, Unwritten}

-- of the FENCE instructions, the one whose word `fence` gives
abbrev pub fence_form : ℕ → Form
fence_form word = if word == 0x0ff0000f then Alone alone.Fence else Unwritten

-- the form of the instruction that a word is
abbrev pub form_of : ℕ → Instr → Form
form_of word (Lui rd imm) = Upper upper.Lui rd imm
form_of word (Auipc rd imm) = Upper upper.Auipc rd imm
form_of word (Jal rd imm) = Jump rd imm
form_of word (Jalr rd rs1 imm) = Load immediate.Jalr rd rs1 imm
form_of word (Beq rs1 rs2 imm) = Branch branch.Beq rs1 rs2 imm
form_of word (Bne rs1 rs2 imm) = Branch branch.Bne rs1 rs2 imm
form_of word (Blt rs1 rs2 imm) = Branch branch.Blt rs1 rs2 imm
form_of word (Bge rs1 rs2 imm) = Branch branch.Bge rs1 rs2 imm
form_of word (Bltu rs1 rs2 imm) = Branch branch.Bltu rs1 rs2 imm
form_of word (Bgeu rs1 rs2 imm) = Branch branch.Bgeu rs1 rs2 imm
form_of word (Lb rd rs1 imm) = Load immediate.Lb rd rs1 imm
form_of word (Lh rd rs1 imm) = Load immediate.Lh rd rs1 imm
form_of word (Lw rd rs1 imm) = Load immediate.Lw rd rs1 imm
form_of word (Lbu rd rs1 imm) = Load immediate.Lbu rd rs1 imm
form_of word (Lhu rd rs1 imm) = Load immediate.Lhu rd rs1 imm
form_of word (Sb rs1 rs2 imm) = Store store.Sb rs1 rs2 imm
form_of word (Sh rs1 rs2 imm) = Store store.Sh rs1 rs2 imm
form_of word (Sw rs1 rs2 imm) = Store store.Sw rs1 rs2 imm
form_of word (Addi rd rs1 imm) = Immediate immediate.Addi rd rs1 imm
form_of word (Slti rd rs1 imm) = Immediate immediate.Slti rd rs1 imm
form_of word (Sltiu rd rs1 imm) = Immediate immediate.Sltiu rd rs1 imm
form_of word (Xori rd rs1 imm) = Immediate immediate.Xori rd rs1 imm
form_of word (Ori rd rs1 imm) = Immediate immediate.Ori rd rs1 imm
form_of word (Andi rd rs1 imm) = Immediate immediate.Andi rd rs1 imm
form_of word (Slli rd rs1 imm) = Shift shift.Slli rd rs1 imm
form_of word (Srli rd rs1 imm) = Shift shift.Srli rd rs1 imm
form_of word (Srai rd rs1 imm) = Shift shift.Srai rd rs1 imm
form_of word (Add rd rs1 rs2) = Registers register.Add rd rs1 rs2
form_of word (Sub rd rs1 rs2) = Registers register.Sub rd rs1 rs2
form_of word (Sll rd rs1 rs2) = Registers register.Sll rd rs1 rs2
form_of word (Slt rd rs1 rs2) = Registers register.Slt rd rs1 rs2
form_of word (Sltu rd rs1 rs2) = Registers register.Sltu rd rs1 rs2
form_of word (Xor rd rs1 rs2) = Registers register.Xor rd rs1 rs2
form_of word (Srl rd rs1 rs2) = Registers register.Srl rd rs1 rs2
form_of word (Sra rd rs1 rs2) = Registers register.Sra rd rs1 rs2
form_of word (Or rd rs1 rs2) = Registers register.Or rd rs1 rs2
form_of word (And rd rs1 rs2) = Registers register.And rd rs1 rs2
form_of word (Fence rd rs1 imm) = fence_form word
form_of word Ecall = Alone alone.Ecall
form_of word Ebreak = Alone alone.Ebreak
form_of word (Mul rd rs1 rs2) = Registers register.Mul rd rs1 rs2
form_of word (Mulh rd rs1 rs2) = Registers register.Mulh rd rs1 rs2
form_of word (Mulhsu rd rs1 rs2) = Registers register.Mulhsu rd rs1 rs2
form_of word (Mulhu rd rs1 rs2) = Registers register.Mulhu rd rs1 rs2
form_of word (Div rd rs1 rs2) = Registers register.Div rd rs1 rs2
form_of word (Divu rd rs1 rs2) = Registers register.Divu rd rs1 rs2
form_of word (Rem rd rs1 rs2) = Registers register.Rem rd rs1 rs2
form_of word (Remu rd rs1 rs2) = Registers register.Remu rd rs1 rs2
