-- The words of a listing, and how a statement is put together.
use Rattle.std.specs.Prelude.{ℕ, ℤ, ◌+◌, ◌/◌, ◌%◌, ◌^◌, nat_lt, if◌then◌else◌, List, [], ◌∷◌, ◌++◌, map, codes, decimal}
use Rattle.std.specs.Fmt.{signed_decimal}

-- a hexadecimal digit: 0 to 9, a to f
abbrev pub hex_digit : ℕ → ℕ
hex_digit n = if nat_lt n 10 then 48 + n else 87 + n

-- a word as eight hexadecimal digits
abbrev pub hex_word : ℕ → List ℕ
hex_word word = map (λ place. hex_digit (word / 16 ^ place % 16)) (7 ∷ 6 ∷ 5 ∷ 4 ∷ 3 ∷ 2 ∷ 1 ∷ 0 ∷ [])

-- a word as a number of a case text
abbrev pub hexadecimal : ℕ → List ℕ
hexadecimal word = codes "0x" ++ hex_word word

-- the label of the code word at an address: more than 16 bytes, so no task and no object has this name
abbrev pub label : ℕ → List ℕ
label address = codes "code_word_at_address_" ++ decimal address

-- a register by its number
abbrev pub register : ℕ → List ℕ
register number = codes "x" ++ decimal number

-- a place in memory: a constant before a register
abbrev pub based : ℤ → ℕ → List ℕ
based imm rs1 = signed_decimal imm ++ (codes "(" ++ (register rs1 ++ codes ")"))

-- further operands, each behind a comma
abbrev pub further : List (List ℕ) → List ℕ
further [] = []
further (operand ∷ operands) = codes ", " ++ (operand ++ further operands)

-- a statement: what it begins with, and its operands
abbrev pub statement : List ℕ → List (List ℕ) → List ℕ
statement first [] = first
statement first (operand ∷ operands) = first ++ (codes " " ++ (operand ++ further operands))

-- words of data
abbrev pub word_statement : ℕ → List ℕ
word_statement word = statement (codes ".word") (hexadecimal word ∷ [])
