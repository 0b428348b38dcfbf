-- What the table of meanings keeps.
use Rattle.std.proofs.Common.{◌≡◌, ℕ, ◌≤◌, nat_le, List, [], ◌∷◌, length, Bool, true, false, refl, arith, if◌then◌else◌}
use Rattle.std.proofs.lemmas.Bool.{and_parts, leb-true}
use Rattle.std.specs.List.{list_all}
use Rattle.std.specs.Str.{bytes_eq}
use Rattle.std.specs.Fmt.{digits}
use Rattle.program_model.specs.declared.causes.CaseCause.{CaseCause}
use Rattle.program_model.specs.declared.causes.CaseCause.TheVariants.{OfExecutable, BadByte, NumberTooLarge, OfText, OfImage, OfInjection}
use Rattle.elf_reader.specs.declared.causes.ElfCause.TheVariants as executable
use Rattle.asm_causes.specs.declared.causes.AsmCause.TheVariants as asm
use Rattle.app_image.specs.declared.causes.ImageCause.TheVariants as image
use Rattle.inject_list.specs.declared.causes.InjectCause.TheVariants as inject
use Rattle.diagnostics.specs.Meanings.{meaning, meaning_in, meanings}
use Rattle.diagnostics.specs.Messages.{HasMeaning}

-- no meaning has more than 120 bytes
abbrev are_short : List (List ℕ × List ℕ) → Bool
are_short rows = list_all (λ row. nat_le (length row.1) 120) rows

short_choice : (b : Bool) (m n : List ℕ) → length m ≤ 120 → length n ≤ 120 → length (if b then m else n) ≤ 120
short_choice true m n p q = p
short_choice false m n p q = q

short_in : (rows : List (List ℕ × List ℕ)) (name : List ℕ) → are_short rows ≡ true → length (meaning_in rows name) ≤ 120
short_in [] name all = omega arith
short_in (row ∷ rows) name all =
    let parts = and_parts _ _ all in
    short_choice (bytes_eq name row.0) row.1 (meaning_in rows name) (leb-true (length row.1) 120 parts.0) (short_in rows name parts.1)

pub meaning_is_short : (name : List ℕ) → length (meaning name) ≤ 120
unfolding meanings
meaning_is_short name = short_in meanings name refl

-- each cause by its name
pub has_meaning : (cause : CaseCause) → HasMeaning cause
unfolding digits meanings
has_meaning (OfExecutable executable.Header) = omega arith
has_meaning (OfExecutable executable.Range) = omega arith
has_meaning (OfExecutable executable.Place) = omega arith
has_meaning (OfExecutable executable.Overlap) = omega arith
has_meaning (OfExecutable executable.SymbolTable) = omega arith
has_meaning BadByte = omega arith
has_meaning NumberTooLarge = omega arith
has_meaning (OfText asm.UnknownStatement) = omega arith
has_meaning (OfText asm.WrongForm) = omega arith
has_meaning (OfText asm.NoRegister) = omega arith
has_meaning (OfText asm.ConstantRange) = omega arith
has_meaning (OfText asm.DefinedTwice) = omega arith
has_meaning (OfText asm.Undefined) = omega arith
has_meaning (OfText asm.WrongKind) = omega arith
has_meaning (OfText asm.WrongSection) = omega arith
has_meaning (OfText asm.TargetRange) = omega arith
has_meaning (OfText asm.CodeFull) = omega arith
has_meaning (OfText asm.RamFull) = omega arith
has_meaning (OfText asm.LongName) = omega arith
has_meaning (OfText asm.UnknownSetting) = omega arith
has_meaning (OfText asm.TooMany) = omega arith
has_meaning (OfImage image.NoTask) = omega arith
has_meaning (OfImage image.TaskPriority) = omega arith
has_meaning (OfImage image.CodeAddress) = omega arith
has_meaning (OfImage image.StackPointer) = omega arith
has_meaning (OfImage image.Quantum) = omega arith
has_meaning (OfImage image.TaskQueueSize) = omega arith
has_meaning (OfImage image.QueueSize) = omega arith
has_meaning (OfImage image.VectorNumber) = omega arith
has_meaning (OfImage image.VectorTwice) = omega arith
has_meaning (OfImage image.VectorLevel) = omega arith
has_meaning (OfImage image.TimerTime) = omega arith
has_meaning (OfImage image.SettingRange) = omega arith
has_meaning (OfImage image.SettingTwice) = omega arith
has_meaning (OfImage image.NoCode) = omega arith
has_meaning (OfImage image.BadName) = omega arith
has_meaning (OfImage image.Layout) = omega arith
has_meaning (OfInjection inject.WrongForm) = omega arith
has_meaning (OfInjection inject.NoVector) = omega arith
has_meaning (OfInjection inject.TooManyWords) = omega arith
has_meaning (OfInjection inject.TooMany) = omega arith
has_meaning (OfInjection inject.NoList) = omega arith
has_meaning (OfInjection inject.LateMoment) = omega arith
