-- Numbers in a range, and the addresses that an image may name.
use Rattle.std.specs.Prelude.{ℕ, ◌≡◌, ◌<◌, ◌≤◌, ◌*◌, ◌%◌, ◌==◌, nat_lt, nat_le, Bool, ◌&&◌}

-- from the least to the greatest
abbrev pub is_between : ℕ → ℕ → ℕ → Bool
is_between least greatest n = nat_le least n && nat_le n greatest

-- the address of a code word, of so many
abbrev pub is_code_address : ℕ → ℕ → Bool
is_code_address words address = (address % 4 == 0) && nat_lt address (4 * words)

-- the bounds of a stack pointer, which is a multiple of 4: the start of RAM and its end
abbrev pub is_stack_pointer : ℕ → Bool
is_stack_pointer address = (address % 4 == 0) && is_between 1048576 1310720 address

pub record IsCodeAddress (words address : ℕ) : Type 0 where
  pub aligned : address % 4 ≡ 0
  pub inside : address < 4 * words

pub record IsStackPointer (address : ℕ) : Type 0 where
  pub aligned : address % 4 ≡ 0
  pub low : 1048576 ≤ address
  pub high : address ≤ 1310720
