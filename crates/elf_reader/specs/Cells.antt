-- The code and RAM as one row of cells, while an executable is loaded: 65,536 of code, and 262,144 of RAM behind them.
use Rattle.std.specs.Prelude.{ℕ, ◌+◌, ◌-◌, nat_le, nat_lt, if◌then◌else◌, List, get_or, ◌&&◌, Option, Some, None, unwrap_or}
use Rattle.elf_reader.specs.Memory.{file_byte, holds}
use Rattle.elf_reader.specs.declared.tables.Segment.{Segment}

-- the cell of an address, and the address of a cell
abbrev pub place_of : ℕ → ℕ
place_of a = if nat_lt a 1048576 then a else a - 983040

abbrev pub address_of : ℕ → ℕ
address_of i = if nat_lt i 65536 then i else i + 983040

-- what a cell has, once the first bytes of a segment stand from a cell on
abbrev pub filled : List ℕ → Segment → ℕ → ℕ → List (Option ℕ) → ℕ → Option ℕ
filled bytes s first count cells i =
    if nat_le first i && nat_lt i (first + count) then Some (file_byte bytes s (i - first)) else get_or cells i None

-- what a cell has, once a segment is loaded
abbrev pub laid : List ℕ → Segment → List (Option ℕ) → ℕ → Option ℕ
laid bytes s cells i = if holds (address_of i) s then Some (file_byte bytes s (address_of i - s.vaddr)) else get_or cells i None

-- the byte in a cell, 0 in an empty one
abbrev pub cell_byte : List (Option ℕ) → ℕ → ℕ
cell_byte cells i = unwrap_or (get_or cells i None) 0
