-- What an instruction keeps: registers and a memory of words stay registers and a memory of words, and as many.
use Rattle.std.specs.Prelude.{ℕ, ◌^◌, ◌<◌, ◌≡◌, List, length, slice_index}
use Rattle.rv32_exec.specs.Registers.{Registers}
use Rattle.rv32_exec.specs.Exec.{Execution, exec}

-- each number of a list is below 2 ^ 32
abbrev pub AreWords : List ℕ → Type 0
AreWords xs = (i : ℕ) → slice_index xs i < 2 ^ 32

-- The registers and the memory that an execution leaves hold words, as many as there were; and pc is a word where it was one.
pub record IsKept (old : Registers) (before : List ℕ) (e : Execution) : Type 0 where
  pub pc : old.pc < 2 ^ 32 → e.registers.pc < 2 ^ 32
  pub words : AreWords e.registers.x
  pub memory_words : AreWords e.memory
  pub count : length e.registers.x ≡ length old.x
  pub memory_count : length e.memory ≡ length before

-- An instruction keeps registers and a memory of words.
abbrev pub InstructionKeepsWords : Type 0
InstructionKeepsWords = (code : List ℕ) (regs : Registers) (memory : List ℕ) → AreWords regs.x → AreWords memory → IsKept regs memory (exec code regs memory)
