-- The mnemonics of the instructions, by the operands that they take.
use Rattle.std.specs.Prelude.{ℕ, List, codes}
use Rattle.rv32_isa.specs.declared.mnemonics.RegisterOp.{RegisterOp}
use Rattle.rv32_isa.specs.declared.mnemonics.ImmediateOp.{ImmediateOp}
use Rattle.rv32_isa.specs.declared.mnemonics.ShiftOp.{ShiftOp}
use Rattle.rv32_isa.specs.declared.mnemonics.StoreOp.{StoreOp}
use Rattle.rv32_isa.specs.declared.mnemonics.BranchOp.{BranchOp}
use Rattle.rv32_isa.specs.declared.mnemonics.UpperOp.{UpperOp}
use Rattle.rv32_isa.specs.declared.mnemonics.AloneOp.{AloneOp}
use Rattle.rv32_isa.specs.declared.mnemonics.RegisterOp.TheVariants.{Add, Sub, Sll, Slt, Sltu, Xor, Srl, Sra, Or, And, Mul, Mulh, Mulhsu, Mulhu, Div, Divu, Rem, Remu}
use Rattle.rv32_isa.specs.declared.mnemonics.ImmediateOp.TheVariants.{Addi, Slti, Sltiu, Xori, Ori, Andi, Jalr, Lb, Lh, Lw, Lbu, Lhu}
use Rattle.rv32_isa.specs.declared.mnemonics.ShiftOp.TheVariants.{Slli, Srli, Srai}
use Rattle.rv32_isa.specs.declared.mnemonics.StoreOp.TheVariants.{Sb, Sh, Sw}
use Rattle.rv32_isa.specs.declared.mnemonics.BranchOp.TheVariants.{Beq, Bne, Blt, Bge, Bltu, Bgeu}
use Rattle.rv32_isa.specs.declared.mnemonics.UpperOp.TheVariants.{Lui, Auipc}
use Rattle.rv32_isa.specs.declared.mnemonics.AloneOp.TheVariants.{Fence, Ecall, Ebreak}

-- The mnemonics of the instructions (RISC-V Unprivileged ISA, "RV32/64G Instruction Set Listings"), each written once.

-- of the instructions on three registers
abbrev pub register_mnemonic : RegisterOp → List ℕ
register_mnemonic Add = codes "add"
register_mnemonic Sub = codes "sub"
register_mnemonic Sll = codes "sll"
register_mnemonic Slt = codes "slt"
register_mnemonic Sltu = codes "sltu"
register_mnemonic Xor = codes "xor"
register_mnemonic Srl = codes "srl"
register_mnemonic Sra = codes "sra"
register_mnemonic Or = codes "or"
register_mnemonic And = codes "and"
register_mnemonic Mul = codes "mul"
register_mnemonic Mulh = codes "mulh"
register_mnemonic Mulhsu = codes "mulhsu"
register_mnemonic Mulhu = codes "mulhu"
register_mnemonic Div = codes "div"
register_mnemonic Divu = codes "divu"
register_mnemonic Rem = codes "rem"
register_mnemonic Remu = codes "remu"

-- on two registers and an immediate
abbrev pub immediate_mnemonic : ImmediateOp → List ℕ
immediate_mnemonic Addi = codes "addi"
immediate_mnemonic Slti = codes "slti"
immediate_mnemonic Sltiu = codes "sltiu"
immediate_mnemonic Xori = codes "xori"
immediate_mnemonic Ori = codes "ori"
immediate_mnemonic Andi = codes "andi"
immediate_mnemonic Jalr = codes "jalr"
immediate_mnemonic Lb = codes "lb"
immediate_mnemonic Lh = codes "lh"
immediate_mnemonic Lw = codes "lw"
immediate_mnemonic Lbu = codes "lbu"
immediate_mnemonic Lhu = codes "lhu"

-- of the shifts by an immediate
abbrev pub shift_mnemonic : ShiftOp → List ℕ
shift_mnemonic Slli = codes "slli"
shift_mnemonic Srli = codes "srli"
shift_mnemonic Srai = codes "srai"

-- of the stores
abbrev pub store_mnemonic : StoreOp → List ℕ
store_mnemonic Sb = codes "sb"
store_mnemonic Sh = codes "sh"
store_mnemonic Sw = codes "sw"

-- of the conditional branches
abbrev pub branch_mnemonic : BranchOp → List ℕ
branch_mnemonic Beq = codes "beq"
branch_mnemonic Bne = codes "bne"
branch_mnemonic Blt = codes "blt"
branch_mnemonic Bge = codes "bge"
branch_mnemonic Bltu = codes "bltu"
branch_mnemonic Bgeu = codes "bgeu"

-- on a register and the upper 20 bits
abbrev pub upper_mnemonic : UpperOp → List ℕ
upper_mnemonic Lui = codes "lui"
upper_mnemonic Auipc = codes "auipc"

-- without operands
abbrev pub alone_mnemonic : AloneOp → List ℕ
alone_mnemonic Fence = codes "fence"
alone_mnemonic Ecall = codes "ecall"
alone_mnemonic Ebreak = codes "ebreak"

-- of the jump to a label
abbrev pub jump_mnemonic : List ℕ
jump_mnemonic = codes "jal"
