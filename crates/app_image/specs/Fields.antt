-- Numbers and rows of values in the bytes of a binary image.
use Rattle.std.specs.Prelude.{ℕ, zero, suc, ◌+◌, List, [], ◌∷◌, drop}
use Rattle.byteorder.specs.Endian.{little_number}

-- the number in the two or four bytes from a place on
unfoldable pub half_at : List ℕ → ℕ → ℕ
half_at bytes at = little_number 2 (drop at bytes)

unfoldable pub word_at : List ℕ → ℕ → ℕ
word_at bytes at = little_number 4 (drop at bytes)

-- so many values, each of so many bytes, from a place on
abbrev pub rows : {T : Type 0} → (ℕ → T) → ℕ → ℕ → ℕ → List T
rows f size zero at = []
rows f size (suc n) at = f at ∷ rows f size n (at + size)
