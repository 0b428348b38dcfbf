-- One instruction (RISC-V Unprivileged ISA, "RV32I Base Integer Instruction Set" and "M Extension for Integer
-- Multiplication and Division"), over whole numbers modulo 2 ^ 32.
use Rattle.std.specs.Prelude.{ℕ, ◌-◌, ◌*◌, ◌/◌, ◌%◌, ◌^◌, ◌≡◌, ℤ, Bool, not, ◌==◌, if◌then◌else◌, Option, Some, None, List, slice_get, bit_and, bit_or, bit_xor}
use Rattle.rv32_isa.specs.Formats.{unsigned}
use Rattle.rv32_isa.specs.Decoded.{decoded}
use Rattle.rv32_isa.specs.declared.Instr.{Instr}
use Rattle.rv32_isa.specs.declared.Instr.TheVariants.{Lui, Auipc, Jal, Jalr, Beq, Bne, Blt, Bge, Bltu, Bgeu, Lb, Lh, Lw, Lbu, Lhu, Sb, Sh, Sw, Addi, Slti, Sltiu, Xori, Ori, Andi, Slli, Srli, Srai, Add, Sub, Sll, Slt, Sltu, Xor, Srl, Sra, Or, And, Fence, Ecall, Ebreak, Mul, Mulh, Mulhsu, Mulhu, Div, Divu, Rem, Remu}
use Rattle.rv32_exec.specs.Registers.{Registers, read, written}
use Rattle.rv32_exec.specs.Memory.{allowed, loaded, stored}
use Rattle.rv32_exec.specs.Words.{sum, difference, flag, less, less_signed, extended, long, shifted_left, shifted_right, shifted_right_signed, low_product, high_product, quotient, remainder, quotient_signed, remainder_signed}
use Rattle.rv32_exec.specs.declared.Stepped.{Stepped}
use Rattle.rv32_exec.specs.declared.Stepped.TheVariants.{Next, Call, Trap, Stored}
use Rattle.rv32_exec.specs.declared.TrapKind.{TrapKind}
use Rattle.rv32_exec.specs.declared.TrapKind.TheVariants.{Illegal, Break, Jump, Fetch, Load, Store}

-- the registers and the memory after it, and what came of it
pub record Execution : Type 0 where
  pub registers : Registers
  pub memory : List ℕ
  pub did : Stepped

-- these registers, this memory and this outcome are those of e
pub record IsExecution (regs : Registers) (ram : List ℕ) (outcome : Stepped) (e : Execution) : Type 0 where
  pub registers : regs ≡ e.registers
  pub memory : ram ≡ e.memory
  pub did : outcome ≡ e.did

-- the same of an instruction that leaves the memory alone
pub record Outcome : Type 0 where
  pub registers : Registers
  pub did : Stepped

pub record IsOutcome (regs : Registers) (outcome : Stepped) (o : Outcome) : Type 0 where
  pub registers : regs ≡ o.registers
  pub did : outcome ≡ o.did

abbrev pub keeps : List ℕ → Outcome → Execution
keeps memory o = record { registers = o.registers; memory = memory; did = o.did }

-- a trap changes nothing
abbrev pub traps : TrapKind → Registers → Outcome
traps kind regs = record { registers = regs; did = Trap kind regs.pc }

-- on to the next word
abbrev pub goes_on : Stepped → List ℕ → Registers → Outcome
goes_on did x regs = record { registers = record { pc = sum regs.pc 4; x = x }; did = did }

-- a value into a register, and on
abbrev pub computes : (rd value : ℕ) → Registers → Outcome
computes rd value regs = goes_on Next (written regs.x rd value) regs

-- a jump to an address
abbrev pub jumps : (target : ℕ) → List ℕ → Registers → Outcome
jumps target x regs =
    if target % 4 == 0 then record { registers = record { pc = target; x = x }; did = Next } else traps Jump regs

-- a jump that writes the address of the next word into a register
abbrev pub links : (rd target : ℕ) → Registers → Outcome
links rd target regs = jumps target (written regs.x rd (sum regs.pc 4)) regs

-- a jump where the test holds
abbrev pub branches : Bool → ℤ → Registers → Outcome
branches taken imm regs =
    if taken then jumps (sum regs.pc (unsigned imm)) regs.x regs else goes_on Next regs.x regs

-- so many bytes from the memory into a register, with zeros above them or with their sign copied
abbrev pub loads : (width rd addr : ℕ) → Registers → List ℕ → Outcome
loads width rd addr regs memory =
    if allowed addr width then computes rd (loaded memory addr width) regs else traps Load regs

abbrev pub loads_signed : (width rd addr : ℕ) → Registers → List ℕ → Outcome
loads_signed width rd addr regs memory =
    if allowed addr width then computes rd (extended (8 * width) (loaded memory addr width)) regs
    else traps Load regs

-- the low bytes of a word into the memory
abbrev pub stores : (width addr word : ℕ) → Registers → List ℕ → Execution
stores width addr word regs memory =
    let value = word % 2 ^ (8 * width) in
    if allowed addr width
    then keeps (stored memory addr width value) (goes_on (Stored addr width value) regs.x regs)
    else keeps memory (traps Store regs)

-- what each instruction does
abbrev pub acts : Instr → Registers → List ℕ → Execution
acts (Lui rd imm) regs memory = keeps memory (computes rd (unsigned imm * 2 ^ 12) regs)
acts (Auipc rd imm) regs memory = keeps memory (computes rd (sum regs.pc (unsigned imm * 2 ^ 12)) regs)
acts (Jal rd imm) regs memory = keeps memory (links rd (sum regs.pc (unsigned imm)) regs)
acts (Jalr rd rs1 imm) regs memory =
    let target = sum (read regs rs1) (unsigned imm) in keeps memory (links rd (target - target % 2) regs)
acts (Beq rs1 rs2 imm) regs memory = keeps memory (branches (read regs rs1 == read regs rs2) imm regs)
acts (Bne rs1 rs2 imm) regs memory = keeps memory (branches (not (read regs rs1 == read regs rs2)) imm regs)
acts (Blt rs1 rs2 imm) regs memory = keeps memory (branches (less_signed (read regs rs1) (read regs rs2)) imm regs)
acts (Bge rs1 rs2 imm) regs memory = keeps memory (branches (not (less_signed (read regs rs1) (read regs rs2))) imm regs)
acts (Bltu rs1 rs2 imm) regs memory = keeps memory (branches (less (read regs rs1) (read regs rs2)) imm regs)
acts (Bgeu rs1 rs2 imm) regs memory = keeps memory (branches (not (less (read regs rs1) (read regs rs2))) imm regs)
acts (Lb rd rs1 imm) regs memory = keeps memory (loads_signed 1 rd (sum (read regs rs1) (unsigned imm)) regs memory)
acts (Lh rd rs1 imm) regs memory = keeps memory (loads_signed 2 rd (sum (read regs rs1) (unsigned imm)) regs memory)
acts (Lw rd rs1 imm) regs memory = keeps memory (loads 4 rd (sum (read regs rs1) (unsigned imm)) regs memory)
acts (Lbu rd rs1 imm) regs memory = keeps memory (loads 1 rd (sum (read regs rs1) (unsigned imm)) regs memory)
acts (Lhu rd rs1 imm) regs memory = keeps memory (loads 2 rd (sum (read regs rs1) (unsigned imm)) regs memory)
acts (Sb rs1 rs2 imm) regs memory = stores 1 (sum (read regs rs1) (unsigned imm)) (read regs rs2) regs memory
acts (Sh rs1 rs2 imm) regs memory = stores 2 (sum (read regs rs1) (unsigned imm)) (read regs rs2) regs memory
acts (Sw rs1 rs2 imm) regs memory = stores 4 (sum (read regs rs1) (unsigned imm)) (read regs rs2) regs memory
acts (Addi rd rs1 imm) regs memory = keeps memory (computes rd (sum (read regs rs1) (unsigned imm)) regs)
acts (Slti rd rs1 imm) regs memory = keeps memory (computes rd (flag (less_signed (read regs rs1) (unsigned imm))) regs)
acts (Sltiu rd rs1 imm) regs memory = keeps memory (computes rd (flag (less (read regs rs1) (unsigned imm))) regs)
acts (Xori rd rs1 imm) regs memory = keeps memory (computes rd (bit_xor (read regs rs1) (unsigned imm)) regs)
acts (Ori rd rs1 imm) regs memory = keeps memory (computes rd (bit_or (read regs rs1) (unsigned imm)) regs)
acts (Andi rd rs1 imm) regs memory = keeps memory (computes rd (bit_and (read regs rs1) (unsigned imm)) regs)
acts (Slli rd rs1 imm) regs memory = keeps memory (computes rd (shifted_left (read regs rs1) (unsigned imm)) regs)
acts (Srli rd rs1 imm) regs memory = keeps memory (computes rd (shifted_right (read regs rs1) (unsigned imm)) regs)
acts (Srai rd rs1 imm) regs memory = keeps memory (computes rd (shifted_right_signed (read regs rs1) (unsigned imm)) regs)
acts (Add rd rs1 rs2) regs memory = keeps memory (computes rd (sum (read regs rs1) (read regs rs2)) regs)
acts (Sub rd rs1 rs2) regs memory = keeps memory (computes rd (difference (read regs rs1) (read regs rs2)) regs)
acts (Sll rd rs1 rs2) regs memory = keeps memory (computes rd (shifted_left (read regs rs1) (read regs rs2)) regs)
acts (Slt rd rs1 rs2) regs memory = keeps memory (computes rd (flag (less_signed (read regs rs1) (read regs rs2))) regs)
acts (Sltu rd rs1 rs2) regs memory = keeps memory (computes rd (flag (less (read regs rs1) (read regs rs2))) regs)
acts (Xor rd rs1 rs2) regs memory = keeps memory (computes rd (bit_xor (read regs rs1) (read regs rs2)) regs)
acts (Srl rd rs1 rs2) regs memory = keeps memory (computes rd (shifted_right (read regs rs1) (read regs rs2)) regs)
acts (Sra rd rs1 rs2) regs memory = keeps memory (computes rd (shifted_right_signed (read regs rs1) (read regs rs2)) regs)
acts (Or rd rs1 rs2) regs memory = keeps memory (computes rd (bit_or (read regs rs1) (read regs rs2)) regs)
acts (And rd rs1 rs2) regs memory = keeps memory (computes rd (bit_and (read regs rs1) (read regs rs2)) regs)
acts (Fence rd rs1 imm) regs memory = keeps memory (goes_on Next regs.x regs)
acts Ecall regs memory = keeps memory (goes_on Call regs.x regs)
acts Ebreak regs memory = keeps memory (traps Break regs)
acts (Mul rd rs1 rs2) regs memory = keeps memory (computes rd (low_product (read regs rs1) (read regs rs2)) regs)
acts (Mulh rd rs1 rs2) regs memory = keeps memory (computes rd (high_product (long (read regs rs1)) (long (read regs rs2))) regs)
acts (Mulhsu rd rs1 rs2) regs memory = keeps memory (computes rd (high_product (long (read regs rs1)) (read regs rs2)) regs)
acts (Mulhu rd rs1 rs2) regs memory = keeps memory (computes rd (high_product (read regs rs1) (read regs rs2)) regs)
acts (Div rd rs1 rs2) regs memory = keeps memory (computes rd (quotient_signed (read regs rs1) (read regs rs2)) regs)
acts (Divu rd rs1 rs2) regs memory = keeps memory (computes rd (quotient (read regs rs1) (read regs rs2)) regs)
acts (Rem rd rs1 rs2) regs memory = keeps memory (computes rd (remainder_signed (read regs rs1) (read regs rs2)) regs)
acts (Remu rd rs1 rs2) regs memory = keeps memory (computes rd (remainder (read regs rs1) (read regs rs2)) regs)

-- the instruction of a word, if it is one
abbrev pub obeys : Option Instr → Registers → List ℕ → Execution
obeys None regs memory = keeps memory (traps Illegal regs)
obeys (Some instr) regs memory = acts instr regs memory

-- the word that pc is the address of: the words of the code lie at the addresses 0, 4, 8 ..
abbrev pub fetched : List ℕ → ℕ → Option ℕ
fetched code pc = if pc % 4 == 0 then slice_get code (pc / 4) else None

-- what a fetched word does
abbrev pub runs : Option ℕ → Registers → List ℕ → Execution
runs None regs memory = keeps memory (traps Fetch regs)
runs (Some word) regs memory = obeys (decoded word) regs memory

-- one instruction of the code
abbrev pub exec : List ℕ → Registers → List ℕ → Execution
exec code regs memory = runs (fetched code regs.pc) regs memory
