-- What an instruction changes, by what came of it: an instruction that traps changes nothing, a store changes the bytes that
-- it tells, and no other instruction changes the memory.
use Rattle.std.specs.Prelude.{◌≡◌, ◌⊎◌, ◌<◌, ◌≤◌, ◌+◌, ◌*◌, ◌^◌, ℕ, true, List}
use Rattle.rv32_exec.specs.Registers.{Registers}
use Rattle.rv32_exec.specs.Memory.{IsMemory, IsWidth, allowed, loaded, ram_end, ram_start, stored}
use Rattle.rv32_exec.specs.Exec.{exec}
use Rattle.rv32_exec.specs.declared.Stepped.{Stepped}
use Rattle.rv32_exec.specs.declared.Stepped.TheVariants.{Next, Call, Trap, Stored}

-- the byte at an address of RAM
abbrev pub byte_at : List ℕ → ℕ → ℕ
byte_at memory address = loaded memory address 1

-- these registers and this memory are as they were, and the address is that of the instruction
pub record IsUntouched (old new : Registers) (before after : List ℕ) (pc : ℕ) : Type 0 where
  pub registers : new ≡ old
  pub memory : after ≡ before
  pub at : pc ≡ old.pc

-- A store of a number of so many bytes: they lie in RAM at a multiple of their count, and the memory after it has the number
-- there.
pub record IsStored (addr width value : ℕ) (before after : List ℕ) : Type 0 where
  pub size : IsWidth width
  pub place : allowed addr width ≡ true
  pub fits : value < 2 ^ (8 * width)
  pub memory : after ≡ stored before addr width value

-- what an outcome says of the registers and the memory
abbrev pub Changes : Stepped → Registers → Registers → List ℕ → List ℕ → Type 0
Changes Next old new before after = after ≡ before
Changes Call old new before after = after ≡ before
Changes (Trap kind pc) old new before after = IsUntouched old new before after pc
Changes (Stored addr width value) old new before after = IsStored addr width value before after

-- An instruction changes what its outcome says.
abbrev pub InstructionChangesWhatItTells : Type 0
InstructionChangesWhatItTells = (code : List ℕ) (regs : Registers) (memory : List ℕ) → let e = exec code regs memory in Changes e.did regs e.registers memory e.memory

-- The bytes of a memory in which a number of so many bytes was stored: the number stands there, and every other byte of RAM
-- is as it was.
pub record HasStoredBytes (addr width value : ℕ) (before after : List ℕ) : Type 0 where
  pub from : ram_start ≤ addr
  pub to : addr + width ≤ ram_end
  pub number : loaded after addr width ≡ value
  pub others : (address : ℕ) → ram_start ≤ address → address < ram_end → (address < addr) ⊎ (addr + width ≤ address) → byte_at after address ≡ byte_at before address

-- A store changes the bytes of its own width, and no other.
abbrev pub StoreChangesItsOwnBytes : Type 0
StoreChangesItsOwnBytes = (addr width value : ℕ) (before after : List ℕ) → IsMemory before → IsStored addr width value before after → HasStoredBytes addr width value before after
