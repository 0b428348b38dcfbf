-- The line that refuses a case.
use Rattle.std.specs.Prelude.{ℕ, List, ◌++◌, codes, decimal}
use Rattle.app_image.specs.CauseNumbers as image
use Rattle.asm_causes.specs.Refusal as asm
use Rattle.elf_reader.specs.CauseNumbers as executable
use Rattle.inject_list.specs.Reading as inject
use Rattle.program_model.specs.declared.causes.CaseCause.{CaseCause}
use Rattle.program_model.specs.declared.causes.CaseCause.TheVariants.{OfExecutable, BadByte, NumberTooLarge, OfText, OfImage, OfInjection}

-- the letter of the stage that refuses: E for an executable, L for the tokens, A for the assembler, I for the image, J for the injections
abbrev pub letter : CaseCause → List ℕ
letter (OfExecutable cause) = codes "E"
letter BadByte = codes "L"
letter NumberTooLarge = codes "L"
letter (OfText cause) = codes "A"
letter (OfImage cause) = codes "I"
letter (OfInjection cause) = codes "J"

-- the number of the cause in its stage
abbrev pub number : CaseCause → ℕ
number (OfExecutable cause) = executable.cause_number cause
number BadByte = 1
number NumberTooLarge = 2
number (OfText cause) = asm.cause_number cause
number (OfImage cause) = image.cause_number cause
number (OfInjection cause) = inject.cause_number cause

-- the line that refuses a case, as `refused 3 A5`
unfoldable pub refusal_line : ℕ → CaseCause → List ℕ
refusal_line line cause = codes "refused " ++ (decimal line ++ (codes " " ++ (letter cause ++ (decimal (number cause) ++ codes "\n"))))
