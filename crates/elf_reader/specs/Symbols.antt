-- The symbols of an executable.
use Rattle.std.specs.Prelude.{ℕ, ◌+◌, ◌/◌, ◌%◌, ◌==◌, fold, if◌then◌else◌, List, [], ◌∷◌, ◌++◌, length, drop, slice_index, slice_get, Bool, true, ◌&&◌, ◌||◌, not, Option, Some, None, is_none, unwrap_or}
use Rattle.std.specs.List.{list_any, position_from}
use Rattle.std.specs.Str.{bytes_eq}
use Rattle.app_image.specs.Fields.{half_at, word_at, rows}
use Rattle.app_image.specs.Names.{is_free_name}
use Rattle.app_image.specs.declared.records.Symbol.{Symbol}
use Rattle.elf_reader.specs.Tables.{part, has_bytes}
use Rattle.elf_reader.specs.declared.tables.Section.{Section}
use Rattle.elf_reader.specs.declared.tables.Entry.{Entry}

-- the bytes of a section
abbrev pub content : List ℕ → Section → List ℕ
content bytes s = part bytes s.offset s.size

-- the entry of a symbol table at a place
abbrev pub entry_at : List ℕ → ℕ → Entry
entry_at table at = record {
  name = word_at table at;
  value = word_at table (at + 4);
  info = slice_index table (at + 12);
  section = half_at table (at + 14);
}

-- the entries of a symbol table: 16 bytes each
abbrev pub entries : List ℕ → List Entry
entries table = rows (entry_at table) 16 (length table / 16) 0

-- a symbol table
abbrev pub is_table : Section → Bool
is_table s = s.kind == 2

-- where the name that begins at a place of the strings ends: the bytes to the first zero
abbrev pub name_end : List ℕ → ℕ → Option ℕ
name_end strings at = position_from (λ b. b == 0) 0 (drop at strings)

-- some name of a table has no end in the strings
abbrev pub has_endless_name : List ℕ → List ℕ → Bool
has_endless_name strings table = list_any (λ e. is_none (name_end strings e.name)) (entries table)

-- a table's strings are no section that has bytes, or some name has no end there
abbrev pub has_bad_strings : List ℕ → Section → Option Section → Bool
has_bad_strings bytes s None = true
has_bad_strings bytes s (Some strings) = not (has_bytes strings) || has_endless_name (content bytes strings) (content bytes s)

-- the entries have another size than 16, the table is no whole number of them, or it has bad strings
abbrev pub is_bad_table : List ℕ → List Section → Section → Bool
is_bad_table bytes ss s =
    not (s.entsize == 16) || (not (s.size % 16 == 0) || has_bad_strings bytes s (slice_get ss s.link))

abbrev pub has_bad_table : List ℕ → List Section → Bool
has_bad_table bytes ss = list_any (λ s. is_table s && is_bad_table bytes ss s) ss

-- a symbol that other files see, global or weak, and that is defined
abbrev pub is_shared : Entry → Bool
is_shared e = ((e.info / 16 == 1) || (e.info / 16 == 2)) && not (e.section == 0)

-- the symbol of an entry: its name stands in the strings, which begin at a place of the bytes
abbrev pub symbol_of : List ℕ → ℕ → Entry → Symbol
symbol_of strings offset e = record {
  start = offset + e.name;
  len = unwrap_or (name_end strings e.name) 0;
  value = e.value;
}

-- the name of a symbol
abbrev pub name_of : List ℕ → Symbol → List ℕ
name_of bytes x = part bytes x.start x.len

-- some of the symbols has this name
abbrev pub is_known : List ℕ → List Symbol → List ℕ → Bool
is_known bytes xs name = list_any (λ x. bytes_eq name (name_of bytes x)) xs

-- the symbols, and another one behind them if none of them has its name
abbrev pub add_symbol : List ℕ → List Symbol → Symbol → List Symbol
add_symbol bytes xs x = if is_known bytes xs (name_of bytes x) then xs else xs ++ x ∷ []

-- the symbols with that of an entry, if it is shared and its name is free
abbrev pub add_entry : List ℕ → List ℕ → ℕ → List Symbol → Entry → List Symbol
add_entry bytes strings offset xs e =
    let x = symbol_of strings offset e in
    if is_shared e && is_free_name (name_of bytes x) then add_symbol bytes xs x else xs

-- the symbols with those of a table whose strings are known
abbrev pub add_entries : List ℕ → List Symbol → Section → Option Section → List Symbol
add_entries bytes xs s None = xs
add_entries bytes xs s (Some strings) = fold (add_entry bytes (content bytes strings) strings.offset) xs (entries (content bytes s))

-- the symbols with those of a section, if it is a table
abbrev pub add_section : List ℕ → List Section → List Symbol → Section → List Symbol
add_section bytes ss xs s = if is_table s then add_entries bytes xs s (slice_get ss s.link) else xs

-- the symbols of all tables, of several with one name the first
abbrev pub symbols : List ℕ → List Section → List Symbol
symbols bytes ss = fold (add_section bytes ss) [] ss
