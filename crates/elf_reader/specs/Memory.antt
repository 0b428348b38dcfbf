-- What the segments of an executable put into memory: which byte each address has.
use Rattle.std.specs.Prelude.{ℕ, ◌+◌, ◌-◌, ◌*◌, ◌/◌, ◌==◌, nat_le, nat_lt, max, fold, if◌then◌else◌, List, [], ◌∷◌, ◌++◌, slice_index, Bool, false, ◌&&◌, ◌||◌, not, Option, Some, None, unwrap_or}
use Rattle.std.specs.List.{list_any}
use Rattle.app_image.specs.Fields.{rows}
use Rattle.elf_reader.specs.declared.tables.Segment.{Segment}

-- a segment that is loaded: type 1, and some bytes in memory
abbrev pub is_loaded : Segment → Bool
is_loaded s = (s.kind == 1) && nat_lt 0 s.memsz

-- wholly in the code, at addresses 0 to 65,535
abbrev pub is_in_code : Segment → Bool
is_in_code s = nat_le (s.vaddr + s.memsz) 65536

-- wholly in RAM, at addresses 1,048,576 to 1,310,719
abbrev pub is_in_ram : Segment → Bool
is_in_ram s = nat_le 1048576 s.vaddr && nat_le (s.vaddr + s.memsz) 1310720

-- a segment that is loaded has its place in the code or in RAM, and no more bytes in the file than in memory
abbrev pub is_placed : Segment → Bool
is_placed s = not (is_loaded s) || (nat_le s.filesz s.memsz && (is_in_code s || is_in_ram s))

-- a loaded segment holds an address
abbrev pub holds : ℕ → Segment → Bool
holds a s = is_loaded s && (nat_le s.vaddr a && nat_lt a (s.vaddr + s.memsz))

-- the byte of a segment at a distance from its start: one of the file, and 0 past these
abbrev pub file_byte : List ℕ → Segment → ℕ → ℕ
file_byte bytes s distance = if nat_lt distance s.filesz then slice_index bytes (s.offset + distance) else 0

-- the byte that the segment holding an address gives, where one does
abbrev pub held : List ℕ → List Segment → ℕ → Option ℕ
held bytes [] a = None
held bytes (s ∷ ss) a = if holds a s then Some (file_byte bytes s (a - s.vaddr)) else held bytes ss a

-- some segment holds an address
abbrev pub is_held : List Segment → ℕ → Bool
is_held ss a = list_any (holds a) ss

-- the addresses of a segment
abbrev pub addresses : Segment → List ℕ
addresses s = rows (λ a. a) 1 (if is_loaded s then s.memsz else 0) s.vaddr

-- some address is held by two segments, or by one of them and one of some earlier ones
abbrev pub some_overlap : List Segment → List Segment → Bool
some_overlap earlier [] = false
some_overlap earlier (s ∷ ss) = list_any (is_held earlier) (addresses s) || some_overlap (earlier ++ s ∷ []) ss

-- the byte at an address: that of the segment which holds it, or 0
abbrev pub loaded_byte : List ℕ → List Segment → ℕ → ℕ
loaded_byte bytes ss a = unwrap_or (held bytes ss a) 0

-- the word of four bytes, the lowest first
abbrev pub word_of : (ℕ → ℕ) → ℕ → ℕ
word_of byte a = byte a + 256 * byte (a + 1) + 65536 * byte (a + 2) + 16777216 * byte (a + 3)

-- how many bytes of the code, and of RAM, a segment reaches to
abbrev pub code_end : Segment → ℕ
code_end s = if is_loaded s && is_in_code s then s.vaddr + s.memsz else 0

abbrev pub ram_end : Segment → ℕ
ram_end s = if is_loaded s && is_in_ram s then (s.vaddr + s.memsz) - 1048576 else 0

-- how many words hold so many bytes
abbrev pub words_for : ℕ → ℕ
words_for n = (n + 3) / 4

-- the words of the code, from address 0 to the greatest end of a segment there, and those of RAM
abbrev pub code_words : List ℕ → List Segment → List ℕ
code_words bytes ss = rows (word_of (loaded_byte bytes ss)) 4 (words_for (fold (λ e s. max e (code_end s)) 0 ss)) 0

abbrev pub ram_words : List ℕ → List Segment → List ℕ
ram_words bytes ss = rows (word_of (loaded_byte bytes ss)) 4 (words_for (fold (λ e s. max e (ram_end s)) 0 ss)) 1048576
