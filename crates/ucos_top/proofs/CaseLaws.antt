-- No definition answers want of memory: each refusal of an image has a line and a cause.
use Rattle.std.proofs.Common.{inl, inr, sym, ◌≢◌, ℕ, List, [], ◌∷◌, Bool, true, false, not, Option, None, Some, Ok, Err, if◌then◌else◌, refl}
use Rattle.app_image.specs.Image.{ImageRecord, image_of}
use Rattle.app_image.specs.Places.{header_of, image_size}
use Rattle.app_image.specs.Raw.{RawRecord}
use Rattle.app_image.specs.Reading.{is_layout, has_fault, raw_at, image_in}
use Rattle.app_image.specs.Refusal.{refused_or, refusal_among, refusal, image_unless, causes, line_of, checked}
use Rattle.app_image.specs.declared.causes.ImageCause.{ImageCause}
use Rattle.elf_reader.specs.Executable.{ElfRecord, executable_in, OrNoMemory as OrNoRoom}
use Rattle.elf_reader.specs.Within.{IsWithin}
use Rattle.elf_reader.proofs.WithinLaws.{within}
use Rattle.app_image.specs.declared.causes.ImageError.{ImageError}
use Rattle.app_image.specs.declared.causes.ImageError.TheVariants.{NoMemory, At}

or_placed : (cause : ImageCause) (line : Option ℕ) (later : Option ImageError) → later ≢ Some NoMemory → refused_or cause line later ≢ Some NoMemory
or_placed cause (Some line) later h = λ e. cc
or_placed cause None later h = h

among_placed : (causes : List ImageCause) (raw : RawRecord) → refusal_among causes raw ≢ Some NoMemory
among_placed [] raw = λ e. cc
among_placed (cause ∷ causes) raw = or_placed cause (line_of cause raw) (refusal_among causes raw) (among_placed causes raw)

unless_placed : (error : Option ImageError) (image : ImageRecord) → error ≢ Some NoMemory → image_unless error image ≢ Err NoMemory
unless_placed None image h = λ e. cc
unless_placed (Some NoMemory) image h = λ e. h refl
unless_placed (Some (At line cause)) image h = λ e. cc

-- the check of a raw image
pub checked_placed : (raw : RawRecord) → checked raw ≢ Err NoMemory
checked_placed raw = unless_placed (refusal raw) (image_of raw) (among_placed causes raw)

chosen_placed : {T : Type 0} (a b : Bool) (cause other : ImageCause) (given : T) → (if a then Err (At 0 cause) else (if b then Err (At 0 other) else Ok given)) ≢ Err NoMemory
chosen_placed true b cause other given = λ e. cc
chosen_placed false true cause other given = λ e. cc
chosen_placed false false cause other given = λ e. cc

-- the reading of a binary image
pub image_placed : (bytes : List ℕ) → image_in bytes ≢ Err NoMemory
image_placed bytes = chosen_placed (not (is_layout bytes)) (has_fault bytes (header_of bytes)) _ _ (raw_at bytes (header_of bytes), image_size (header_of bytes))

-- an executable that is read is a front of the bytes
pub loaded_within : (bytes : List ℕ) (app : ElfRecord) → OrNoRoom (Ok app) (executable_in bytes) → IsWithin bytes app
loaded_within bytes app (inl e) = absurd cc
loaded_within bytes app (inr e) = within bytes app (sym e)
