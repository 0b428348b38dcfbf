-- The operands of statements by what may stand there, and their values.
use Rattle.std.specs.Prelude.{ℕ, ℤ, pos, negsuc, ◌+◌, ◌%◌, ◌^◌, List, [], ◌∷◌, slice_index_or, Bool, ◌&&◌, int_le, Option, Some, None}
use Rattle.std.specs.Int.{cast_unsigned, w64}
use Rattle.asm_lines.specs.Language.{Operand, Number, Named, Statement, Words, Space, Task, Object, Vector, Setting, Registers, Immediate, Shift, Store, Branch, Upper, Jump, LoadConstant, LoadValue}
use Rattle.asm_places.specs.Names.{Names, meaning}
use Rattle.asm_lines.specs.declared.mnemonics.Section.{Section}
use Rattle.asm_lines.specs.declared.mnemonics.Section.TheVariants.{Nowhere, Code, Ram}
use Rattle.asm_places.specs.Place.{Place}
use Rattle.asm_places.specs.declared.places.Meaning.{Meaning}
use Rattle.asm_places.specs.declared.places.Meaning.TheVariants.{Label, Constant}

-- where a register is wanted
abbrev pub registers_in : Statement → List (Option ℕ)
registers_in (Registers op d s t) = d ∷ s ∷ t ∷ []
registers_in (Immediate op d s c) = d ∷ s ∷ []
registers_in (Shift op d s c) = d ∷ s ∷ []
registers_in (Store op t s c) = t ∷ s ∷ []
registers_in (Branch op s t target) = s ∷ t ∷ []
registers_in (Upper op d c) = d ∷ []
registers_in (Jump d target) = d ∷ []
registers_in (LoadConstant d c) = d ∷ []
registers_in (LoadValue d v) = d ∷ []
registers_in _ = []

-- where a constant is wanted
abbrev pub constant_in : Statement → Option Operand
constant_in (Space c) = Some c
constant_in (Immediate op d s c) = Some c
constant_in (Shift op d s c) = Some c
constant_in (Store op t s c) = Some c
constant_in (Upper op d c) = Some c
constant_in (LoadConstant d c) = Some c
constant_in _ = None

-- where a label is wanted
abbrev pub target_in : Statement → Option (List ℕ)
target_in (Branch op s t target) = Some target
target_in (Jump d target) = Some target
target_in _ = None

-- where a value is wanted, a constant or a label
abbrev pub values_in : Statement → List Operand
values_in (Words values) = values
values_in (Task n values) = values
values_in (Object n kind values) = values
values_in (Vector values) = values
values_in (Setting key v) = v ∷ []
values_in (LoadValue d v) = v ∷ []
values_in _ = []

-- the number that a constant is
abbrev pub number_of : Option Meaning → Option ℤ
number_of (Some (Constant value)) = Some value
number_of _ = None

-- the number that an operand is, if it is a constant
abbrev pub constant_of : Names → Operand → Option ℤ
constant_of names (Number value) = Some value
constant_of names (Named s) = number_of (meaning names s)

-- the bytes before a line in its section
abbrev pub offset_of : Place → Section → ℕ
offset_of p Nowhere = 0
offset_of p Code = p.code
offset_of p Ram = p.ram

-- the address of a section: code lies from 0 on, RAM from 0x100000 on
abbrev pub base_of : Section → ℕ
base_of Nowhere = 0
base_of Code = 0
base_of Ram = 1048576

-- the address where a line begins
abbrev pub address_of : Place → ℕ
address_of p = base_of p.section + offset_of p p.section

-- the place before the first line
abbrev pub no_place : Place
no_place = record { section = Nowhere; code = 0; ram = 0 }

-- where the line begins that so many lines stand before
abbrev pub place_at : List Place → ℕ → Place
place_at places line = slice_index_or places line no_place

-- a number modulo 2 ^ 32
abbrev pub word_of : ℤ → ℕ
word_of value = cast_unsigned w64 value % 2 ^ 32

-- the word that a meaning is: a constant, or the address of a label
abbrev pub word_for : List Place → Option Meaning → ℕ
word_for places None = 0
word_for places (Some (Constant value)) = word_of value
word_for places (Some (Label line)) = address_of (place_at places line) % 2 ^ 32

-- the word that an operand is
abbrev pub value_of : Names → List Place → Operand → ℕ
value_of names places (Number value) = word_of value
value_of names places (Named s) = word_for places (meaning names s)

-- from the least to the greatest
abbrev pub is_within : ℤ → ℤ → ℤ → Bool
is_within least greatest value = int_le least value && int_le value greatest

-- what 12 bits hold as a signed number
abbrev pub fits_low : ℤ → Bool
fits_low value = is_within (negsuc 2047) (pos 2047) value
