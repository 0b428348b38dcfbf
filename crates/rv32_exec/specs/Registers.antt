-- The registers of a hart (RISC-V Unprivileged ISA, "Programmers' Model for Base Integer ISA").
use Rattle.std.specs.Prelude.{ℕ, zero, suc, ◌<◌, ◌^◌, ◌≡◌, List, length, replicate, slice_index, slice_set}

-- the address of the next instruction, and x0 to x31
pub record Registers : Type 0 where
  pub pc : ℕ
  pub x : List ℕ

-- registers that are all 0
abbrev pub no_registers : Registers
no_registers = record { pc = 0; x = replicate 32 0 }

-- x0 reads 0
abbrev pub read : Registers → ℕ → ℕ
read regs zero = 0
read regs (suc r) = slice_index regs.x (suc r)

-- and drops what is written to it
abbrev pub written : List ℕ → ℕ → ℕ → List ℕ
written x zero value = x
written x (suc r) value = slice_set x (suc r) value

-- what the registers of a hart always are: 32 words, and pc a word
pub record IsRegisters (regs : Registers) : Type 0 where
  pub pc : regs.pc < 2 ^ 32
  pub count : length regs.x ≡ 32
  pub words : (r : ℕ) → slice_index regs.x r < 2 ^ 32
