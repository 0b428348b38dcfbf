-- What a line may begin with: the mnemonics of the instructions, the pseudo-instructions and the directives, with the form of
-- the operands that follow.
use Rattle.std.specs.Prelude.{ℕ, List, [], ◌∷◌, codes, Option}
use Rattle.asm_lines.specs.Tables.{entry}
use Rattle.kern_base.specs.declared.kinds.Kind.TheVariants.{Sem as KindSem, Queue as KindQueue, Flags as KindFlags}
use Rattle.rv32_isa.specs.Mnemonics.{register_mnemonic, immediate_mnemonic, shift_mnemonic, store_mnemonic, branch_mnemonic, upper_mnemonic, alone_mnemonic, jump_mnemonic}
use Rattle.rv32_isa.specs.declared.mnemonics.RegisterOp.TheVariants.{Add, Sub, Sll, Slt, Sltu, Xor, Srl, Sra, Or, And, Mul, Mulh, Mulhsu, Mulhu, Div, Divu, Rem, Remu}
use Rattle.rv32_isa.specs.declared.mnemonics.ImmediateOp.TheVariants.{Addi, Slti, Sltiu, Xori, Ori, Andi, Jalr, Lb, Lh, Lw, Lbu, Lhu}
use Rattle.rv32_isa.specs.declared.mnemonics.ShiftOp.TheVariants.{Slli, Srli, Srai}
use Rattle.rv32_isa.specs.declared.mnemonics.StoreOp.TheVariants.{Sb, Sh, Sw}
use Rattle.rv32_isa.specs.declared.mnemonics.BranchOp.TheVariants.{Beq, Bne, Blt, Bge, Bltu, Bgeu}
use Rattle.rv32_isa.specs.declared.mnemonics.UpperOp.TheVariants.{Lui, Auipc}
use Rattle.rv32_isa.specs.declared.mnemonics.AloneOp.TheVariants.{Fence, Ecall, Ebreak}
use Rattle.asm_lines.specs.declared.mnemonics.Pseudo.TheVariants.{Nop, Mv, Not, Neg, Seqz, Snez, Beqz, Bnez, J, Call, Jr, Ret, Li, La, Os}
use Rattle.asm_lines.specs.declared.mnemonics.Section.TheVariants.{Code as InCode, Ram as InRam}
use Rattle.asm_lines.specs.declared.mnemonics.Head.{Head}
use Rattle.asm_lines.specs.declared.mnemonics.Head.TheVariants.{Registers, Immediate, Load, Shift, Store, Branch, Upper, Jump, Alone, Pseudo, Section, Word, Space, Equ, Task, Object, Mutex, Timer, Vector, Config, Inject}

-- the table of mnemonics, pseudo-instructions and directives
abbrev pub heads : List (List ℕ × Head)
heads =
    (register_mnemonic Add, Registers Add) ∷
    (register_mnemonic Sub, Registers Sub) ∷
    (register_mnemonic Sll, Registers Sll) ∷
    (register_mnemonic Slt, Registers Slt) ∷
    (register_mnemonic Sltu, Registers Sltu) ∷
    (register_mnemonic Xor, Registers Xor) ∷
    (register_mnemonic Srl, Registers Srl) ∷
    (register_mnemonic Sra, Registers Sra) ∷
    (register_mnemonic Or, Registers Or) ∷
    (register_mnemonic And, Registers And) ∷
    (register_mnemonic Mul, Registers Mul) ∷
    (register_mnemonic Mulh, Registers Mulh) ∷
    (register_mnemonic Mulhsu, Registers Mulhsu) ∷
    (register_mnemonic Mulhu, Registers Mulhu) ∷
    (register_mnemonic Div, Registers Div) ∷
    (register_mnemonic Divu, Registers Divu) ∷
    (register_mnemonic Rem, Registers Rem) ∷
    (register_mnemonic Remu, Registers Remu) ∷
    (immediate_mnemonic Addi, Immediate Addi) ∷
    (immediate_mnemonic Slti, Immediate Slti) ∷
    (immediate_mnemonic Sltiu, Immediate Sltiu) ∷
    (immediate_mnemonic Xori, Immediate Xori) ∷
    (immediate_mnemonic Ori, Immediate Ori) ∷
    (immediate_mnemonic Andi, Immediate Andi) ∷
    (immediate_mnemonic Jalr, Load Jalr) ∷
    (immediate_mnemonic Lb, Load Lb) ∷
    (immediate_mnemonic Lh, Load Lh) ∷
    (immediate_mnemonic Lw, Load Lw) ∷
    (immediate_mnemonic Lbu, Load Lbu) ∷
    (immediate_mnemonic Lhu, Load Lhu) ∷
    (shift_mnemonic Slli, Shift Slli) ∷
    (shift_mnemonic Srli, Shift Srli) ∷
    (shift_mnemonic Srai, Shift Srai) ∷
    (store_mnemonic Sb, Store Sb) ∷
    (store_mnemonic Sh, Store Sh) ∷
    (store_mnemonic Sw, Store Sw) ∷
    (branch_mnemonic Beq, Branch Beq) ∷
    (branch_mnemonic Bne, Branch Bne) ∷
    (branch_mnemonic Blt, Branch Blt) ∷
    (branch_mnemonic Bge, Branch Bge) ∷
    (branch_mnemonic Bltu, Branch Bltu) ∷
    (branch_mnemonic Bgeu, Branch Bgeu) ∷
    (upper_mnemonic Lui, Upper Lui) ∷
    (upper_mnemonic Auipc, Upper Auipc) ∷
    (jump_mnemonic, Jump) ∷
    (alone_mnemonic Fence, Alone Fence) ∷
    (alone_mnemonic Ecall, Alone Ecall) ∷
    (alone_mnemonic Ebreak, Alone Ebreak) ∷
    (codes "nop", Pseudo Nop) ∷
    (codes "mv", Pseudo Mv) ∷
    (codes "not", Pseudo Not) ∷
    (codes "neg", Pseudo Neg) ∷
    (codes "seqz", Pseudo Seqz) ∷
    (codes "snez", Pseudo Snez) ∷
    (codes "beqz", Pseudo Beqz) ∷
    (codes "bnez", Pseudo Bnez) ∷
    (codes "j", Pseudo J) ∷
    (codes "call", Pseudo Call) ∷
    (codes "jr", Pseudo Jr) ∷
    (codes "ret", Pseudo Ret) ∷
    (codes "li", Pseudo Li) ∷
    (codes "la", Pseudo La) ∷
    (codes "os", Pseudo Os) ∷
    (codes ".code", Section InCode) ∷
    (codes ".ram", Section InRam) ∷
    (codes ".word", Word) ∷
    (codes ".space", Space) ∷
    (codes ".equ", Equ) ∷
    (codes ".task", Task) ∷
    (codes ".sem", Object KindSem) ∷
    (codes ".queue", Object KindQueue) ∷
    (codes ".flags", Object KindFlags) ∷
    (codes ".mutex", Mutex) ∷
    (codes ".timer", Timer) ∷
    (codes ".vector", Vector) ∷
    (codes ".config", Config) ∷
    (codes ".inject", Inject) ∷ []

-- what a line begins with that begins with this name or directive
abbrev pub head_of : List ℕ → Option Head
head_of name = entry name heads
