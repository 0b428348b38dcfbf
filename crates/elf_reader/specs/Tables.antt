-- The header of an ELF32 executable and its tables. Numbers have their lowest byte first.
-- `bytes` are all the bytes, of which the executable is a front.
use Rattle.std.specs.Prelude.{ℕ, ◌+◌, ◌*◌, ◌==◌, nat_le, max, fold, if◌then◌else◌, List, length, take, drop, slice_index, Bool, ◌&&◌, ◌||◌, not}
use Rattle.app_image.specs.Fields.{half_at, word_at, rows}
use Rattle.elf_reader.specs.declared.tables.Segment.{Segment}
use Rattle.elf_reader.specs.declared.tables.Section.{Section}

-- so many bytes from a place on, as far as there are any
abbrev pub part : List ℕ → ℕ → ℕ → List ℕ
part bytes start count = take count (drop start bytes)

-- the program header at a place
abbrev pub segment_at : List ℕ → ℕ → Segment
segment_at bytes at = record {
  kind = word_at bytes at;
  offset = word_at bytes (at + 4);
  vaddr = word_at bytes (at + 8);
  filesz = word_at bytes (at + 16);
  memsz = word_at bytes (at + 20);
}

-- the section header at a place
abbrev pub section_at : List ℕ → ℕ → Section
section_at bytes at = record {
  kind = word_at bytes (at + 4);
  offset = word_at bytes (at + 16);
  size = word_at bytes (at + 20);
  link = word_at bytes (at + 24);
  entsize = word_at bytes (at + 36);
}

-- the program headers: 32 bytes each, as many as bytes 44 and 45 say, from the place in bytes 28 to 31 on
abbrev pub segments : List ℕ → List Segment
segments bytes = rows (segment_at bytes) 32 (half_at bytes 44) (word_at bytes 28)

-- the section headers: 40 bytes each, as many as bytes 48 and 49 say, from the place in bytes 32 to 35 on
abbrev pub sections : List ℕ → List Section
sections bytes = rows (section_at bytes) 40 (half_at bytes 48) (word_at bytes 32)

-- 32 bit, lowest byte first, version 1; an executable file for RISC-V; entries of the known sizes, where there are some
abbrev pub is_header : List ℕ → Bool
is_header bytes =
    nat_le 52 (length bytes)
    && ((slice_index bytes 4 == 1) && ((slice_index bytes 5 == 1) && ((slice_index bytes 6 == 1)
    && ((half_at bytes 16 == 2) && ((half_at bytes 18 == 243) && ((word_at bytes 20 == 1)
    && (((half_at bytes 44 == 0) || (half_at bytes 42 == 32)) && ((half_at bytes 48 == 0) || (half_at bytes 46 == 40)))))))))

-- a section that has bytes in the file: its type is neither 0, of no section, nor 8, of one without bytes
abbrev pub has_bytes : Section → Bool
has_bytes s = not (s.kind == 0) && not (s.kind == 8)

-- where the bytes of a segment, and those of a section that has some, end in the file
abbrev pub segment_end : Segment → ℕ
segment_end s = s.offset + s.filesz

abbrev pub section_end : Section → ℕ
section_end s = if has_bytes s then s.offset + s.size else 0

-- where the header and the two tables end
abbrev pub tables_end : List ℕ → ℕ
tables_end bytes = max 52 (max (word_at bytes 28 + 32 * half_at bytes 44) (word_at bytes 32 + 40 * half_at bytes 48))

-- where the executable ends and the text behind it begins: the greatest end of the header, the tables, the segments and the
-- sections
abbrev pub end_of_all : ℕ → List Segment → List Section → ℕ
end_of_all end ps ss = fold (λ e s. max e (section_end s)) (fold (λ e p. max e (segment_end p)) end ps) ss

abbrev pub text_place : List ℕ → ℕ
text_place bytes = end_of_all (tables_end bytes) (segments bytes) (sections bytes)
