-- The refusal of a text: the first line with a cause, and on it the cause of the least number.
use Rattle.std.specs.Prelude.{ℕ, ◌+◌, ◌*◌, nat_lt, List, [], ◌∷◌, Bool, false, ◌&&◌, Option}
use Rattle.std.specs.List.{find}
use Rattle.asm_lines.specs.Language.{Line}
use Rattle.asm_places.specs.Names.{Names}
use Rattle.asm_causes.specs.Causes.{has_early, has_far_target}
use Rattle.asm_causes.specs.Places.{bytes_of}
use Rattle.asm_lines.specs.declared.mnemonics.Section.{Section}
use Rattle.asm_lines.specs.declared.mnemonics.Section.TheVariants.{Code, Ram}
use Rattle.asm_places.specs.Counts.{Counts}
use Rattle.asm_places.specs.Place.{Place}
use Rattle.asm_causes.specs.declared.causes.AsmCause.{AsmCause}
use Rattle.asm_causes.specs.declared.causes.AsmCause.TheVariants.{UnknownStatement, WrongForm, NoRegister, ConstantRange, DefinedTwice, Undefined, WrongKind, WrongSection, TargetRange, CodeFull, RamFull, LongName, UnknownSetting, TooMany}

-- so many bytes more bring the code above 16,384 words
abbrev pub overfills_code : Place → Section → ℕ → Bool
overfills_code p Code size = nat_lt 0 size && nat_lt (4 * 16384) (p.code + size)
overfills_code p _ size = false

-- so many bytes more bring RAM above 262,144 bytes
abbrev pub overfills_ram : Place → Section → ℕ → Bool
overfills_ram p Ram size = nat_lt 0 size && nat_lt 262144 (p.ram + size)
overfills_ram p _ size = false

-- whether a line has a cause, where these stand before it and it begins here
abbrev pub has : Names → List Place → Counts → Place → Line → AsmCause → Bool
has names places c p l TargetRange = has_far_target names places p l.statement
has names places c p l CodeFull = overfills_code p p.section (bytes_of names c p.section l)
has names places c p l RamFull = overfills_ram p p.section (bytes_of names c p.section l)
has names places c p l cause = has_early names c p.section l cause

-- the causes by number, from 1
abbrev pub causes : List AsmCause
causes = UnknownStatement ∷ WrongForm ∷ NoRegister ∷ ConstantRange ∷ DefinedTwice ∷ Undefined ∷ WrongKind ∷ WrongSection ∷ TargetRange ∷ CodeFull ∷ RamFull ∷ LongName ∷ UnknownSetting ∷ TooMany ∷ []

-- the cause that a line is refused with, if it has one
abbrev pub cause_of : Names → List Place → Counts → Place → Line → Option AsmCause
cause_of names places c p l = find (has names places c p l) causes

-- the number of a cause
abbrev pub cause_number : AsmCause → ℕ
cause_number UnknownStatement = 1
cause_number WrongForm = 2
cause_number NoRegister = 3
cause_number ConstantRange = 4
cause_number DefinedTwice = 5
cause_number Undefined = 6
cause_number WrongKind = 7
cause_number WrongSection = 8
cause_number TargetRange = 9
cause_number CodeFull = 10
cause_number RamFull = 11
cause_number LongName = 12
cause_number UnknownSetting = 13
cause_number TooMany = 14
