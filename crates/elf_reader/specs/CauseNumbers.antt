-- The numbers of the causes.
use Rattle.std.specs.Prelude.{ℕ}
use Rattle.elf_reader.specs.declared.causes.ElfCause.{ElfCause}
use Rattle.elf_reader.specs.declared.causes.ElfCause.TheVariants.{Header, Range, Place, Overlap, SymbolTable}

-- the number of a cause
abbrev pub cause_number : ElfCause → ℕ
cause_number Header = 1
cause_number Range = 2
cause_number Place = 3
cause_number Overlap = 4
cause_number SymbolTable = 5
