-- Why no place lies past 2 ^ 64: a line gives at most 2 ^ 34 bytes, since its numbers and the constants of names are below 2 ^ 32.
use Rattle.std.specs.Prelude.{ℕ, ℤ, pos, ◌≤◌, ◌≤ℤ◌, ◌*◌, ◌^◌, List, IfSome}
use Rattle.std.specs.List.{AllByRecursion}
use Rattle.asm_lines.specs.Language.{Operand, Number, Named, Statement, Space, Equ, Line}
use Rattle.asm_places.specs.Names.{Names}
use Rattle.asm_places.specs.declared.places.Meaning.{Meaning}
use Rattle.asm_places.specs.declared.places.Meaning.TheVariants.{Label, Constant}
use Rattle.asm_places.specs.Place.{Place}

-- a number that a word holds, or a negative one
abbrev pub IsSmall : ℤ → Type 0
IsSmall value = value ≤ℤ pos 4294967295

abbrev pub HasSmallNumber : Operand → Type 0
HasSmallNumber (Number value) = IsSmall value
HasSmallNumber (Named name) = Unit {0}

-- the numbers of a statement that count bytes
abbrev pub HasSmallNumbers : Statement → Type 0
HasSmallNumbers (Space size) = HasSmallNumber size
HasSmallNumbers (Equ name value) = IsSmall value
HasSmallNumbers _ = Unit {0}

abbrev pub HaveSmallNumbers : List Line → Type 0
HaveSmallNumbers lines = AllByRecursion (λ l. HasSmallNumbers l.statement) lines

abbrev pub IsSmallMeaning : Meaning → Type 0
IsSmallMeaning (Label line) = Unit {0}
IsSmallMeaning (Constant value) = IsSmall value

-- the constants of names
abbrev pub AreSmall : Names → Type 0
AreSmall names = (name : List ℕ) → IfSome (names name) (λ d. IsSmallMeaning d.meaning)

-- the most bytes of a line
abbrev pub most_bytes : ℕ
most_bytes = 2 ^ 34

-- a place behind so many lines at most
pub record IsBehind (lines : ℕ) (p : Place) : Type 0 where
  pub code : p.code ≤ lines * most_bytes
  pub ram : p.ram ≤ lines * most_bytes
