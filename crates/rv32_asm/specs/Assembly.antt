-- What a text is assembled to: an image, or a refusal.
use Rattle.std.specs.Prelude.{◌≡◌, ℕ}
use Rattle.app_image.specs.Raw.{RawRecord}
use Rattle.asm_causes.specs.declared.causes.AsmCause.{AsmCause}
use Rattle.rv32_asm.specs.declared.errors.AsmError.{AsmError}
use Rattle.rv32_asm.specs.declared.errors.AsmError.TheVariants.{NoMemory, At}

-- what a text is assembled to: an image and where the tokens behind `.inject` begin, or the line and the cause of its refusal
pub data Assembly : Type 0 where
  Gives : RawRecord → ℕ → Assembly
  Refuses : ℕ → AsmCause → Assembly

-- the error tells the refusal of the text, and want of memory tells nothing of it
abbrev pub IsFault : AsmError → Assembly → Type 0
IsFault NoMemory assembly = Unit {0}
IsFault (At line cause) assembly = assembly ≡ Refuses line cause
