-- What the reading of a case answers.
use Rattle.std.specs.Prelude.{◌≡◌, ℕ, List, drop, Result, Ok, Err}
use Rattle.text_lex.specs.declared.Token.{Token}
use Rattle.text_lex.specs.Tokens.{Lexed, Tokens, lexed}
use Rattle.app_image.specs.Image.{ImageRecord}
use Rattle.inject_list.specs.Lists.{ListRecord}
use Rattle.program_model.specs.Case.{Case, Accepts, Refuses, with_tokens}
use Rattle.ucos_top.specs.declared.causes.CaseError.{CaseError}
use Rattle.ucos_top.specs.declared.causes.CaseError.TheVariants.{NoMemory, At}

-- the error tells the refusal, and want of memory tells nothing
abbrev pub IsRefusal : CaseError → Case → Type 0
IsRefusal NoMemory case = Unit {0}
IsRefusal (At line cause) case = case ≡ Refuses line cause

-- the image with its injections, or the refusal, is the one that is defined
abbrev pub Tells : Result (ImageRecord × ListRecord) CaseError → Case → Type 0
Tells (Ok (image, l)) case = case ≡ Accepts image l
Tells (Err error) case = IsRefusal error case

-- the error tells the refusal of a text, whatever comes of its tokens
abbrev pub IsFaultOf : CaseError → Lexed → Type 0
IsFaultOf error reading = (rest : List Token → Case) → IsRefusal error (with_tokens rest reading)

-- these tokens are those of the text from some token on
abbrev pub AreRestOf : List ℕ → List Token → Type 0
AreRestOf text tokens = (all : List Token) × (used : ℕ) × (lexed text ≡ Tokens all) × (tokens ≡ drop used all)
