-- The case that an input is: an image and a list of injections, or its first refusal. A text is read into tokens, assembled
-- and checked, and then its injections are read; of a binary image the layout is read first, then the tokens behind it, then
-- it is checked, and its injections come last. An ELF32 executable is loaded first, and the text behind it is read as every
-- text, but that it declares alone: its code and RAM are the executable's. The first stage with a refusal decides.
use Rattle.std.specs.Prelude.{ℕ, List, [], ◌∷◌, take, drop, Bool, Result, Ok, Err, if◌then◌else◌}
use Rattle.std.specs.Str.{bytes_eq}
use Rattle.text_lex.specs.declared.Token.{Token}
use Rattle.text_lex.specs.Tokens.{Lexed, Tokens, BadByteAt, TooLargeAt, lexed}
use Rattle.app_image.specs.Image.{ImageRecord}
use Rattle.app_image.specs.Layout.{magic}
use Rattle.app_image.specs.Raw.{RawRecord}
use Rattle.app_image.specs.Reading.{image_in}
use Rattle.app_image.specs.Refusal.{checked}
use Rattle.app_image.specs.declared.causes.ImageCause.TheVariants.{Layout}
use Rattle.app_image.specs.declared.causes.ImageError.{ImageError}
use Rattle.app_image.specs.declared.causes.ImageError.TheVariants as image_error
use Rattle.elf_reader.specs.Executable.{ElfRecord, executable_in}
use Rattle.elf_reader.specs.declared.causes.ElfCause.TheVariants.{Header}
use Rattle.elf_reader.specs.declared.causes.ElfError.{ElfError}
use Rattle.elf_reader.specs.declared.causes.ElfError.TheVariants as elf_error
use Rattle.rv32_asm.specs.Assembled.{assembled}
use Rattle.rv32_asm.specs.Declarations.{declared}
use Rattle.rv32_asm.specs.Assembly.{Assembly}
use Rattle.rv32_asm.specs.Assembly as asm
use Rattle.inject_list.specs.Lists.{ListRecord}
use Rattle.inject_list.specs.Reading.{Reading, injections_in}
use Rattle.inject_list.specs.Reading as inject
use Rattle.program_model.specs.declared.causes.CaseCause.{CaseCause}
use Rattle.program_model.specs.declared.causes.CaseCause.TheVariants.{OfExecutable, BadByte, NumberTooLarge, OfText, OfImage, OfInjection}

-- a case with this image and this list, or one that is refused at a line for a cause
pub data Case : Type 0 where
  Accepts : ImageRecord → ListRecord → Case
  Refuses : ℕ → CaseCause → Case

-- The injections of an image, from the text and its tokens for them.

-- what comes of what was read
abbrev pub with_list : ImageRecord → Reading → Case
with_list image (inject.Gives l) = Accepts image l
with_list image (inject.Refuses line cause) = Refuses line (OfInjection cause)

-- the case of a checked image
abbrev pub listed_case : List ℕ → List Token → ImageRecord → Case
listed_case text tokens image = with_list image (injections_in text tokens image)

-- The stages, last one first.

-- the refusal of an image; want of memory is none, and no definition answers it
abbrev pub refused_image : ImageError → Case
refused_image (image_error.At line cause) = Refuses line (OfImage cause)
refused_image image_error.NoMemory = Refuses 0 (OfImage Layout)

-- what comes of the tokens of a text, unless the text has a fault
abbrev pub with_tokens : (List Token → Case) → Lexed → Case
with_tokens rest (Tokens tokens) = rest tokens
with_tokens rest (BadByteAt place line) = Refuses line BadByte
with_tokens rest (TooLargeAt place line) = Refuses line NumberTooLarge

-- an input that begins with the four bytes of an image is one
abbrev pub is_image : List ℕ → Bool
is_image input = bytes_eq (take 4 input) magic

-- what comes of a check, and of the text and its tokens for injections
abbrev pub checked_case : List ℕ → List Token → Result ImageRecord ImageError → Case
checked_case text tokens (Ok image) = listed_case text tokens image
checked_case text tokens (Err error) = refused_image error

-- what comes of an assembled text: the tokens behind those that were used are for injections
abbrev pub assembled_case : List ℕ → List Token → Assembly → Case
assembled_case text tokens (asm.Gives raw used) = checked_case text (drop used tokens) (checked raw)
assembled_case text tokens (asm.Refuses line cause) = Refuses line (OfText cause)

-- what a text is
unfoldable pub text_case : List ℕ → Case
text_case text = with_tokens (λ tokens. assembled_case text tokens (assembled text tokens)) (lexed text)

-- what comes of an image and the text behind it, which has only injections; its lines are counted from 1
abbrev pub behind_image : List ℕ → RawRecord → Case
behind_image text raw = with_tokens (λ tokens. checked_case text tokens (checked raw)) (lexed text)

-- what comes of an image of so many bytes at the front of an input
abbrev pub read_case : List ℕ → Result (RawRecord × ℕ) ImageError → Case
read_case input (Ok (raw, size)) = behind_image (drop size input) raw
read_case input (Err error) = refused_image error

-- what an input is that begins as an image
unfoldable pub image_case : List ℕ → Case
image_case input = read_case input (image_in input)

-- an input that begins with the four bytes of an executable is one: 127 and `ELF`
abbrev pub is_executable : List ℕ → Bool
is_executable input = bytes_eq (take 4 input) (127 ∷ 69 ∷ 76 ∷ 70 ∷ [])

-- what comes of a loaded executable and the text behind it, whose lines are counted from 1
abbrev pub behind_executable : List ℕ → ElfRecord → Case
behind_executable input app =
    let text = drop app.used input in
    with_tokens (λ tokens. assembled_case text tokens (declared text tokens input app.symbols app.code app.ram)) (lexed text)

-- the refusal of an executable, at line 0; want of memory is none, and no definition answers it
abbrev pub refused_executable : ElfError → Case
refused_executable (elf_error.Bad cause) = Refuses 0 (OfExecutable cause)
refused_executable elf_error.NoMemory = Refuses 0 (OfExecutable Header)

abbrev pub loaded_case : List ℕ → Result ElfRecord ElfError → Case
loaded_case input (Ok app) = behind_executable input app
loaded_case input (Err error) = refused_executable error

-- what an input is that begins as an executable
unfoldable pub executable_case : List ℕ → Case
executable_case input = loaded_case input (executable_in input)

-- the case that an input is
unfoldable pub case_of : List ℕ → Case
case_of input = if is_image input then image_case input else (if is_executable input then executable_case input else text_case input)
