-- How large a loaded executable is.
use Rattle.std.specs.Prelude.{ℕ, ◌≤◌, List, length}
use Rattle.elf_reader.specs.Executable.{ElfRecord}

-- it is a front of the bytes, and its words have room in the code and in RAM
pub record IsWithin (bytes : List ℕ) (app : ElfRecord) : Type 0 where
  pub used : app.used ≤ length bytes
  pub code : length app.code ≤ 16384
  pub ram : length app.ram ≤ 65536
