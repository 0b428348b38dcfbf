-- The operations on words: whole numbers modulo 2 ^ 32.
use Rattle.std.specs.Prelude.{ℕ, ◌+◌, ◌-◌, ◌*◌, ◌/◌, ◌%◌, ◌^◌, Bool, ℤ, int_lt, int_div, int_rem, nat_lt, ◌==◌, if◌then◌else◌}
use Rattle.std.specs.Int.{cast_signed, cast_unsigned, w32, w64}
use Rattle.rv32_isa.specs.Formats.{unsigned}

abbrev pub sum : ℕ → ℕ → ℕ
sum a b = (a + b) % 2 ^ 32

abbrev pub difference : ℕ → ℕ → ℕ
difference a b = (a + (2 ^ 32 - b)) % 2 ^ 32

-- 1 for true, 0 for false
abbrev pub flag : Bool → ℕ
flag b = if b then 1 else 0

-- the number that a word stands for in two's complement
abbrev pub signed : ℕ → ℤ
signed a = cast_signed w32 a

-- a < b as unsigned and as signed numbers
abbrev pub less : ℕ → ℕ → Bool
less a b = nat_lt a b

abbrev pub less_signed : ℕ → ℕ → Bool
less_signed a b = int_lt (signed a) (signed b)

-- a number of so many bits with its sign copied up to 32 bits, and a word with its sign copied up to 64
abbrev pub extended : (bits number : ℕ) → ℕ
extended bits number = if nat_lt number (2 ^ (bits - 1)) then number else 2 ^ 32 - 2 ^ bits + number

abbrev pub long : ℕ → ℕ
long a = cast_unsigned w64 (signed a)

-- shifts by the low five bits of b
abbrev pub shifted_left : ℕ → ℕ → ℕ
shifted_left a b = (a * 2 ^ (b % 32)) % 2 ^ 32

abbrev pub shifted_right : ℕ → ℕ → ℕ
shifted_right a b = a / 2 ^ (b % 32)

abbrev pub shifted_right_signed : ℕ → ℕ → ℕ
shifted_right_signed a b = (long a / 2 ^ (b % 32)) % 2 ^ 32

-- the low word of a product, and the high word of a product modulo 2 ^ 64
abbrev pub low_product : ℕ → ℕ → ℕ
low_product a b = (a * b) % 2 ^ 32

abbrev pub high_product : ℕ → ℕ → ℕ
high_product a b = (a * b) % 2 ^ 64 / 2 ^ 32

-- unsigned division: by 0 the quotient has all bits set and the remainder is the dividend
abbrev pub quotient : ℕ → ℕ → ℕ
quotient a b = if b == 0 then 2 ^ 32 - 1 else a / b

abbrev pub remainder : ℕ → ℕ → ℕ
remainder a b = if b == 0 then a else a % b

-- signed division rounds toward zero; -2 ^ 31 divided by -1 is 2 ^ 31, which is that same word
abbrev pub quotient_signed : ℕ → ℕ → ℕ
quotient_signed a b = if b == 0 then 2 ^ 32 - 1 else unsigned (int_div (signed a) (signed b))

abbrev pub remainder_signed : ℕ → ℕ → ℕ
remainder_signed a b = if b == 0 then a else unsigned (int_rem (signed a) (signed b))
