-- An ELF32 executable, loaded; or why it is refused.
use Rattle.std.specs.Prelude.{ℕ, ◌≡◌, nat_lt, if◌then◌else◌, List, [], length, not, Result, Ok, Err, ◌⊎◌}
use Rattle.std.specs.List.{list_all}
use Rattle.app_image.specs.declared.records.Symbol.{Symbol}
use Rattle.elf_reader.specs.Tables.{segments, sections, is_header, text_place}
use Rattle.elf_reader.specs.Memory.{is_placed, some_overlap, code_words, ram_words}
use Rattle.elf_reader.specs.Symbols.{symbols, has_bad_table}
use Rattle.elf_reader.specs.declared.tables.Segment.{Segment}
use Rattle.elf_reader.specs.declared.tables.Section.{Section}
use Rattle.elf_reader.specs.declared.causes.ElfCause.TheVariants.{Header, Range, Place, Overlap, SymbolTable}
use Rattle.elf_reader.specs.declared.causes.ElfError.{ElfError}
use Rattle.elf_reader.specs.declared.causes.ElfError.TheVariants.{NoMemory, Bad}

-- the words of the code and of RAM, the symbols, and how many bytes are the executable's
pub record ElfRecord : Type 0 where
  pub code : List ℕ
  pub ram : List ℕ
  pub symbols : List Symbol
  pub used : ℕ

-- what some segments and sections of the bytes give
abbrev pub gathered : List ℕ → List Segment → List Section → ℕ → ElfRecord
gathered bytes ps ss used = record {
  code = code_words bytes ps;
  ram = ram_words bytes ps;
  symbols = symbols bytes ss;
  used = used;
}

-- what the bytes hold
abbrev pub loaded : List ℕ → ElfRecord
loaded bytes = gathered bytes (segments bytes) (sections bytes) (text_place bytes)

-- what reading the bytes gives: the executable, or the first cause that holds
abbrev pub executable_in : List ℕ → Result ElfRecord ElfError
executable_in bytes =
    if not (is_header bytes) then Err (Bad Header)
    else (if nat_lt (length bytes) (text_place bytes) then Err (Bad Range)
    else (if not (list_all is_placed (segments bytes)) then Err (Bad Place)
    else (if some_overlap [] (segments bytes) then Err (Bad Overlap)
    else (if has_bad_table bytes (sections bytes) then Err (Bad SymbolTable) else Ok (loaded bytes)))))

-- want of memory is free
abbrev pub OrNoMemory : {T : Type 0} → Result T ElfError → Result T ElfError → Type 0
OrNoMemory result answer = (result ≡ Err NoMemory) ⊎ (result ≡ answer)
