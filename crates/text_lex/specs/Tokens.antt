-- The tokens of a text, piece by piece, or the first place at fault.
use Rattle.std.specs.Prelude.{◌≡◌, ℕ, zero, suc, ◌+◌, List, [], ◌∷◌, take, drop, Bool, true, false}
use Rattle.text_lex.specs.Pieces.{piece_at}
use Rattle.text_lex.specs.declared.Token.{Token}
use Rattle.text_lex.specs.declared.TokenKind.{TokenKind}
use Rattle.text_lex.specs.declared.TokenKind.TheVariants.{End}
use Rattle.text_lex.specs.declared.LexError.{LexError}
use Rattle.text_lex.specs.declared.LexError.TheVariants.{NoMemory, BadByte, NumberTooLarge}
use Rattle.text_lex.specs.declared.pieces.Piece.TheVariants.{Skips, Ends, Gives, Bad, TooLarge}

-- what a text is read as: its tokens, or the place and the line of its first fault
pub data Lexed : Type 0 where
  Tokens : List Token → Lexed
  BadByteAt : ℕ → ℕ → Lexed
  TooLargeAt : ℕ → ℕ → Lexed

-- a token before what the rest is read as
abbrev pub before : Token → Lexed → Lexed
before token (Tokens tokens) = Tokens (token ∷ tokens)
before token (BadByteAt place line) = BadByteAt place line
before token (TooLargeAt place line) = TooLargeAt place line

abbrev pub token : TokenKind → ℕ → ℕ → ℕ → Token
token kind line place len = record { kind = kind; line = line; start = place; len = len }

-- the end of a last line that has a byte
abbrev pub last_end : Bool → ℕ → ℕ → List Token
last_end true place line = token End line place 0 ∷ []
last_end false place line = []

-- the rest of a text from a place on: so many bytes of the piece before are left, and the line has a byte before
abbrev pub lexed_from : ℕ → ℕ → ℕ → Bool → List ℕ → Lexed
lexed_from left place line begun [] = Tokens (last_end begun place line)
lexed_from (suc left) place line begun (byte ∷ rest) = lexed_from left (place + 1) line true rest
lexed_from zero place line begun (byte ∷ rest) = elim (piece_at byte rest) [
  | Skips further ↦ lexed_from further (place + 1) line true rest
  | Ends ↦ before (token End line place 1) (lexed_from 0 (place + 1) (line + 1) false rest)
  | Gives kind further ↦ before (token kind line place (further + 1)) (lexed_from further (place + 1) line true rest)
  | Bad further ↦ BadByteAt (place + further) line
  | TooLarge ↦ TooLargeAt place line
]

-- what a text is read as
unfoldable pub lexed : List ℕ → Lexed
lexed text = lexed_from 0 0 1 false text

-- the error tells the fault of the text, and want of memory tells nothing of it
abbrev pub IsFault : LexError → Lexed → Type 0
IsFault NoMemory reading = Unit {0}
IsFault (BadByte place line) reading = reading ≡ BadByteAt place line
IsFault (NumberTooLarge place line) reading = reading ≡ TooLargeAt place line

-- the bytes of a token
abbrev pub bytes_of : List ℕ → Token → List ℕ
bytes_of text token = take token.len (drop token.start text)
