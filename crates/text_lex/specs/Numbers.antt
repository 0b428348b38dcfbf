-- The numbers of a text.
use Rattle.std.specs.Prelude.{ℕ, ◌+◌, ◌-◌, ◌*◌, List, [], ◌∷◌, length, drop, Bool, false, ◌==◌, ◌&&◌, nat_lt, if◌then◌else◌, Option, None, Some}
use Rattle.std.specs.List.{take_while}
use Rattle.text_lex.specs.Bytes.{is_between, is_digit, is_hex_digit}

-- the value of a decimal or hexadecimal digit, and 0 for any other byte
abbrev pub digit_value : ℕ → ℕ
digit_value byte =
    if is_digit byte then byte - 48 else
    (if is_between 97 102 byte then byte - 87 else
    (if is_between 65 70 byte then byte - 55 else 0))

-- the value of digits in a base, behind a front of this value
abbrev pub value_of : ℕ → ℕ → List ℕ → ℕ
value_of base front [] = front
value_of base front (digit ∷ digits) = value_of base (front * base + digit_value digit) digits

-- a 0 before an x and a hexadecimal digit
abbrev pub begins_hex : ℕ → List ℕ → Bool
begins_hex byte (next ∷ digit ∷ rest) = byte == 48 && (next == 120 && is_hex_digit digit)
begins_hex byte _ = false

-- digits without a sign: their value, and how many bytes follow the first
pub record Numeral : Type 0 where
  pub value : ℕ
  pub further : ℕ

abbrev pub hex_numeral : List ℕ → Numeral
hex_numeral digits = record { value = value_of 16 0 digits; further = 1 + length digits }

abbrev pub decimal_numeral : ℕ → List ℕ → Numeral
decimal_numeral byte digits = record { value = value_of 10 0 (byte ∷ digits); further = length digits }

-- the longest number without a sign, from this digit on
abbrev pub numeral : ℕ → List ℕ → Numeral
numeral byte rest =
    if begins_hex byte rest then hex_numeral (take_while is_hex_digit (drop 1 rest))
    else decimal_numeral byte (take_while is_digit rest)

-- a value of at most 2^32 - 1, or none
abbrev pub word_of : ℕ → Option ℕ
word_of value = if nat_lt 4294967295 value then None else Some value
