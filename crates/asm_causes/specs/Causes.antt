-- The causes of refusal: for each, whether a line has it.
use Rattle.std.specs.Prelude.{ℕ, ℤ, pos, negsuc, ◌%◌, ◌==◌, nat_lt, nat_le, nat_abs, ◌-ℤ◌, List, [], ◌∷◌, length, Bool, true, false, ◌&&◌, ◌||◌, not, is_some, is_none, Option, Some, None}
use Rattle.std.specs.List.{list_any}
use Rattle.std.specs.Option.{option_map_or}
use Rattle.asm_lines.specs.Language.{Operand, Number, Named, Statement, Unknown, Malformed, Words, Space, Equ, Task, Object, Vector, Setting, Registers, Immediate, Shift, Store, Branch, Upper, Jump, Alone, LoadConstant, LoadValue, CallService, Line}
use Rattle.asm_places.specs.Names.{Names, meaning}
use Rattle.asm_places.specs.Operands.{registers_in, constant_in, target_in, values_in, constant_of, offset_of, place_at, is_within, fits_low}
use Rattle.asm_lines.specs.declared.mnemonics.Section.{Section}
use Rattle.asm_lines.specs.declared.mnemonics.Section.TheVariants.{Nowhere, Code, Ram}
use Rattle.asm_places.specs.Counts.{Counts}
use Rattle.asm_places.specs.Place.{Place}
use Rattle.asm_places.specs.declared.places.Meaning.{Meaning}
use Rattle.asm_places.specs.declared.places.Meaning.TheVariants.{Label, Constant}
use Rattle.asm_places.specs.declared.places.Definition.{Definition}
use Rattle.asm_causes.specs.declared.causes.AsmCause.{AsmCause}
use Rattle.asm_causes.specs.declared.causes.AsmCause.TheVariants.{UnknownStatement, WrongForm, NoRegister, ConstantRange, DefinedTwice, Undefined, WrongKind, WrongSection, LongName, UnknownSetting, TooMany}

abbrev pub is_unknown : Statement → Bool
is_unknown Unknown = true
is_unknown _ = false

abbrev pub is_malformed : Statement → Bool
is_malformed Malformed = true
is_malformed _ = false

-- one of the 32 registers
abbrev pub is_register : Option ℕ → Bool
is_register None = false
is_register (Some number) = nat_lt number 32

-- a length of `.space`
abbrev pub is_length : ℤ → Bool
is_length (pos value) = value % 4 == 0
is_length (negsuc value) = false

-- the range of a statement's constant
abbrev pub constant_fits : Statement → ℤ → Bool
constant_fits (Space c) value = is_length value
constant_fits (Immediate op d s c) value = fits_low value
constant_fits (Shift op d s c) value = is_within (pos 0) (pos 31) value
constant_fits (Store op t s c) value = fits_low value
constant_fits (Upper op d c) value = is_within (pos 0) (pos 1048575) value
constant_fits _ value = true

-- the constant has a value, and it is out of range
abbrev pub is_out_of_range : Statement → Option ℤ → Bool
is_out_of_range statement None = false
is_out_of_range statement (Some value) = not (constant_fits statement value)

-- the constant of a statement has a value, and it is out of range
abbrev pub has_constant_out_of_range : Names → Statement → Bool
has_constant_out_of_range names statement = option_map_or (λ o. is_out_of_range statement (constant_of names o)) (constant_in statement) false

-- a definition on the line that so many lines stand before
abbrev pub is_on : ℕ → Option ℕ → Bool
is_on lines None = false
is_on lines (Some line) = line == lines

-- the definition of a label on that line
abbrev pub is_label_on : ℕ → Option ℕ → Meaning → Bool
is_label_on lines line (Label at) = is_on lines line
is_label_on lines line (Constant value) = false

-- the definition of a constant on that line
abbrev pub is_constant_on : ℕ → Option ℕ → Meaning → Bool
is_constant_on lines line (Label at) = false
is_constant_on lines line (Constant value) = is_on lines line

-- the name was first defined by the label of the line behind these
abbrev pub is_label_of : Counts → Option Definition → Bool
is_label_of c None = false
is_label_of c (Some d) = is_label_on c.lines d.line d.meaning

-- the name was first defined by the statement of the line behind these
abbrev pub is_statement_of : Counts → Option Definition → Bool
is_statement_of c None = false
is_statement_of c (Some d) = is_constant_on c.lines d.line d.meaning

-- a label whose name was defined earlier
abbrev pub label_again : Names → Counts → Option (List ℕ) → Bool
label_again names c None = false
label_again names c (Some s) = not (is_label_of c (names s))

-- the name that a statement defines
abbrev pub name_in : Statement → Option (List ℕ)
name_in (Equ n value) = Some n
name_in (Task n values) = Some n
name_in (Object n kind values) = Some n
name_in _ = None

-- a statement whose name was defined earlier
abbrev pub name_again : Names → Counts → Option (List ℕ) → Bool
name_again names c None = false
name_again names c (Some s) = not (is_statement_of c (names s))

-- a name that stands for nothing
abbrev pub is_undefined : Names → List ℕ → Bool
is_undefined names s = is_none (meaning names s)

-- an operand that is such a name
abbrev pub stands_for_nothing : Names → Operand → Bool
stands_for_nothing names (Number value) = false
stands_for_nothing names (Named s) = is_undefined names s

-- some operand of a statement is such a name
abbrev pub has_undefined : Names → Statement → Bool
has_undefined names statement =
    option_map_or (stands_for_nothing names) (constant_in statement) false
    || (option_map_or (is_undefined names) (target_in statement) false
    || list_any (stands_for_nothing names) (values_in statement))

abbrev pub is_label : Option Meaning → Bool
is_label (Some (Label line)) = true
is_label _ = false

abbrev pub is_constant : Option Meaning → Bool
is_constant (Some (Constant value)) = true
is_constant _ = false

-- an operand that is a label
abbrev pub is_label_operand : Names → Operand → Bool
is_label_operand names (Number value) = false
is_label_operand names (Named s) = is_label (meaning names s)

-- a label where a constant is wanted, or a constant where a label is wanted
abbrev pub has_wrong_kind : Names → Statement → Bool
has_wrong_kind names statement =
    option_map_or (is_label_operand names) (constant_in statement) false
    || option_map_or (λ s. is_constant (meaning names s)) (target_in statement) false

-- an instruction or a pseudo-instruction
abbrev pub is_instruction : Statement → Bool
is_instruction (Registers op d s t) = true
is_instruction (Immediate op d s c) = true
is_instruction (Shift op d s c) = true
is_instruction (Store op t s c) = true
is_instruction (Branch op s t target) = true
is_instruction (Upper op d c) = true
is_instruction (Jump d target) = true
is_instruction (Alone op) = true
is_instruction (LoadConstant d c) = true
is_instruction (LoadValue d v) = true
is_instruction (CallService number) = true
is_instruction _ = false

-- a statement that gives bytes
abbrev pub is_placed : Statement → Bool
is_placed (Words values) = true
is_placed (Space c) = true
is_placed statement = is_instruction statement

-- a label or a statement that may not stand in a section
abbrev pub is_misplaced : Section → Option (List ℕ) → Statement → Bool
is_misplaced Nowhere label statement = is_some label || is_placed statement
is_misplaced Code label statement = false
is_misplaced Ram label statement = is_instruction statement

-- how far away a branch and a jump reach: an even number of bytes
abbrev pub is_even : ℤ → Bool
is_even distance = nat_abs distance % 2 == 0

abbrev pub branch_reaches : ℤ → Bool
branch_reaches distance = is_within (negsuc 4095) (pos 4094) distance && is_even distance

abbrev pub jump_reaches : ℤ → Bool
jump_reaches distance = is_within (negsuc 1048575) (pos 1048574) distance && is_even distance

abbrev pub reaches : Statement → ℤ → Bool
reaches (Branch op s t target) distance = branch_reaches distance
reaches (Jump d target) distance = jump_reaches distance
reaches _ distance = true

abbrev pub is_ram : Section → Bool
is_ram Ram = true
is_ram _ = false

-- from the place of one line to that of another
abbrev pub distance : Place → Place → ℤ
distance from to = pos (offset_of to to.section) -ℤ pos (offset_of from from.section)

-- a target in RAM or out of reach
abbrev pub is_out_of_reach : Statement → Place → Place → Bool
is_out_of_reach statement from to = is_ram to.section || not (reaches statement (distance from to))

abbrev pub target_fails : List Place → Statement → Place → Option Meaning → Bool
target_fails places statement from (Some (Label line)) = is_out_of_reach statement from (place_at places line)
target_fails places statement from _ = false

abbrev pub has_far_target : Names → List Place → Place → Statement → Bool
has_far_target names places from statement =
    option_map_or (λ s. target_fails places statement from (meaning names s)) (target_in statement) false

-- a name has 1 to 16 bytes
abbrev pub is_short : List ℕ → Bool
is_short name = nat_le 1 (length name) && nat_le (length name) 16

-- the name of a task or an object is too long
abbrev pub has_long_name : Statement → Bool
has_long_name (Task n values) = not (is_short n)
has_long_name (Object n kind values) = not (is_short n)
has_long_name _ = false

abbrev pub has_unknown_setting : Statement → Bool
has_unknown_setting (Setting key v) = is_none key
has_unknown_setting _ = false

-- one more than there may be: tasks, objects, vectors
abbrev pub is_too_many : Counts → Statement → Bool
is_too_many c (Task n values) = nat_le 60 c.tasks
is_too_many c (Object n kind values) = nat_le 64 c.objects
is_too_many c (Vector values) = nat_le 32 c.vectors
is_too_many c _ = false

-- the label or the statement of a line has a name that was defined earlier
abbrev pub is_defined_twice : Names → Counts → Line → Bool
is_defined_twice names c l = label_again names c l.label || name_again names c (name_in l.statement)

-- whether a line has a cause that does not hang on places, where these stand before it, in a section
abbrev pub has_early : Names → Counts → Section → Line → AsmCause → Bool
has_early names c section l UnknownStatement = is_unknown l.statement
has_early names c section l WrongForm = is_malformed l.statement
has_early names c section l NoRegister = list_any (λ r. not (is_register r)) (registers_in l.statement)
has_early names c section l ConstantRange = has_constant_out_of_range names l.statement
has_early names c section l DefinedTwice = is_defined_twice names c l
has_early names c section l Undefined = has_undefined names l.statement
has_early names c section l WrongKind = has_wrong_kind names l.statement
has_early names c section l WrongSection = is_misplaced section l.label l.statement
has_early names c section l LongName = has_long_name l.statement
has_early names c section l UnknownSetting = has_unknown_setting l.statement
has_early names c section l TooMany = is_too_many c l.statement
has_early names c section l _ = false

-- the causes with which a line gives no bytes
abbrev pub early_causes : List AsmCause
early_causes = UnknownStatement ∷ WrongForm ∷ NoRegister ∷ ConstantRange ∷ DefinedTwice ∷ Undefined ∷ WrongKind ∷ WrongSection ∷ LongName ∷ UnknownSetting ∷ TooMany ∷ []

-- a line with one of them
abbrev pub is_early : Names → Counts → Section → Line → Bool
is_early names c section l = list_any (has_early names c section l) early_causes
