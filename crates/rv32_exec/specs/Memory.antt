-- RAM: 65,536 words from the address 0x100000 on, little-endian.
use Rattle.std.specs.Prelude.{ℕ, ◌+◌, ◌-◌, ◌*◌, ◌/◌, ◌%◌, ◌^◌, Bool, ◌⊎◌, ◌==◌, ◌≡◌, ◌<◌, ◌&&◌, nat_le, List, ◌++◌, replicate, length, slice_index, slice_set}
use Rattle.rv32_isa.specs.Formats.{field}

-- the first address, and the first one after it
abbrev pub ram_start : ℕ
ram_start = 0x100000

abbrev pub ram_end : ℕ
ram_end = 0x140000

-- how many words
abbrev pub ram_words : ℕ
ram_words = 65536

-- the initial words, then zeros
abbrev pub filled : List ℕ → List ℕ
filled initial = initial ++ replicate (ram_words - length initial) 0

-- so many bytes may be read or written at the address: it is a multiple of them, and they lie wholly in RAM
abbrev pub allowed : (addr width : ℕ) → Bool
allowed addr width = addr % width == 0 && nat_le ram_start addr && nat_le (addr + width) ram_end

-- the widths of an access in bytes, and those of less than a word
abbrev pub IsPartWidth : ℕ → Type 0
IsPartWidth width = (width ≡ 1) ⊎ (width ≡ 2)

abbrev pub IsWidth : ℕ → Type 0
IsWidth width = (width ≡ 4) ⊎ IsPartWidth width

-- the word that holds the address
abbrev pub word_at : List ℕ → ℕ → ℕ
word_at memory addr = slice_index memory ((addr - ram_start) / 4)

-- the number in so many bytes from the address on
abbrev pub loaded : List ℕ → (addr width : ℕ) → ℕ
loaded memory addr width = field (word_at memory addr) (8 * (addr % 4)) (8 * width)

-- a word with the bits from `low` on replaced by a number of so many bits
abbrev pub replaced : (word low width value : ℕ) → ℕ
replaced word low width value = word - field word low width * 2 ^ low + value * 2 ^ low

-- the memory with a word in the place that holds the address
abbrev pub with_word : List ℕ → (addr word : ℕ) → List ℕ
with_word memory addr word = slice_set memory ((addr - ram_start) / 4) word

-- the memory with a number in so many bytes from the address on
abbrev pub stored : List ℕ → (addr width value : ℕ) → List ℕ
stored memory addr width value =
    with_word memory addr (replaced (word_at memory addr) (8 * (addr % 4)) (8 * width) value)

-- what the RAM always is: 65,536 words
pub record IsMemory (memory : List ℕ) : Type 0 where
  pub count : length memory ≡ ram_words
  pub words : (i : ℕ) → slice_index memory i < 2 ^ 32
