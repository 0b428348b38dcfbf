-- How a text is divided: into blanks, comments, line ends and tokens, one behind the other.
use Rattle.std.specs.Prelude.{◌≡◌, ℕ, ◌+◌, ◌≤◌, ℤ, pos, negsuc, neg_ℤ, ◌≤ℤ◌, List, [], ◌∷◌, ◌++◌, length, take, Bool, true, false, ◌==◌, ◌&&◌, ◌⊎◌}
use Rattle.std.specs.List.{list_all}
use Rattle.text_lex.specs.Bytes.{is_blank, is_not_line_feed, is_digit, is_hex_digit, is_name_byte, is_name}
use Rattle.text_lex.specs.Numbers.{value_of}
use Rattle.text_lex.specs.Tokens.{token, last_end}
use Rattle.text_lex.specs.declared.Token.{Token}
use Rattle.text_lex.specs.declared.TokenKind.{TokenKind}
use Rattle.text_lex.specs.declared.TokenKind.TheVariants.{Name, Directive, Number, Comma, Open, Close, Colon, End}

-- a dot and a name
abbrev pub is_directive : List ℕ → Bool
is_directive [] = false
is_directive (byte ∷ bytes) = byte == 46 && is_name bytes

-- one or more decimal digits, and their value
pub record IsDecimal (value : ℕ) (bytes : List ℕ) : Type 0 where
  pub some : 1 ≤ length bytes
  pub digits : list_all is_digit bytes ≡ true
  pub worth : value ≡ value_of 10 0 bytes

-- `0x` and one or more hexadecimal digits, and their value
pub record IsHexadecimal (value : ℕ) (bytes : List ℕ) : Type 0 where
  pub digits : List ℕ
  pub spelled : bytes ≡ 48 ∷ 120 ∷ digits
  pub some : 1 ≤ length digits
  pub all : list_all is_hex_digit digits ≡ true
  pub worth : value ≡ value_of 16 0 digits

abbrev pub IsUnsigned : ℕ → List ℕ → Type 0
IsUnsigned value bytes = IsDecimal value bytes ⊎ IsHexadecimal value bytes

-- a minus sign directly before a number without a sign
pub record IsNegated (value : ℤ) (bytes : List ℕ) : Type 0 where
  pub size : ℕ
  pub unsigned : List ℕ
  pub spelled : bytes ≡ 45 ∷ unsigned
  pub number : IsUnsigned size unsigned
  pub worth : value ≡ neg_ℤ (pos size)

-- a number without a sign, by its value
pub record IsPositive (value : ℤ) (bytes : List ℕ) : Type 0 where
  pub size : ℕ
  pub number : IsUnsigned size bytes
  pub worth : value ≡ pos size

-- bytes that are a token of this kind, whatever the size of a number
abbrev pub Spells : TokenKind → List ℕ → Type 0
Spells Name bytes = is_name bytes ≡ true
Spells Directive bytes = is_directive bytes ≡ true
Spells (Number value) bytes = IsPositive value bytes ⊎ IsNegated value bytes
Spells Comma bytes = bytes ≡ 44 ∷ []
Spells Open bytes = bytes ≡ 40 ∷ []
Spells Close bytes = bytes ≡ 41 ∷ []
Spells Colon bytes = bytes ≡ 58 ∷ []
Spells End bytes = bytes ≡ 10 ∷ []

-- no token that begins a text is longer than these many bytes
abbrev pub IsLongest : ℕ → List ℕ → Type 0
IsLongest len text = (kind : TokenKind) (longer : ℕ) → longer ≤ length text → Spells kind (take longer text) → longer ≤ len

-- from -2,147,483,648 to 4,294,967,295
pub record IsInRange (value : ℤ) : Type 0 where
  pub least : negsuc 2147483647 ≤ℤ value
  pub most : value ≤ℤ pos 4294967295

-- nothing, or a byte that goes on in no name
abbrev pub BeginsNoName : List ℕ → Type 0
BeginsNoName [] = Unit {0}
BeginsNoName (byte ∷ bytes) = is_name_byte byte ≡ false

-- a number is in its range, and no letter, digit or `_` stands directly behind it
abbrev pub IsSound : TokenKind → List ℕ → Type 0
IsSound (Number value) behind = IsInRange value × BeginsNoName behind
IsSound _ behind = Unit {0}

-- nothing, or a line feed first
abbrev pub BeginsAtEnd : List ℕ → Type 0
BeginsAtEnd [] = Unit {0}
BeginsAtEnd (byte ∷ bytes) = byte ≡ 10

-- a part of a text: a blank, a comment behind its `#`, or a token. The end of a line is a token.
pub data Part : Type 0 where
  Blank : ℕ → Part
  Comment : List ℕ → Part
  Lexeme : TokenKind → List ℕ → Part

abbrev pub part_bytes : Part → List ℕ
part_bytes (Blank byte) = byte ∷ []
part_bytes (Comment bytes) = 35 ∷ bytes
part_bytes (Lexeme kind bytes) = bytes

-- a part before the rest of a text: a comment goes up to the line feed, and a token is the longest that
-- begins there
abbrev pub StandsBefore : Part → List ℕ → Type 0
StandsBefore (Blank byte) rest = is_blank byte ≡ true
StandsBefore (Comment bytes) rest = (list_all is_not_line_feed bytes ≡ true) × BeginsAtEnd rest
StandsBefore (Lexeme kind bytes) rest = Spells kind bytes × IsLongest (length bytes) (bytes ++ rest) × IsSound kind rest

-- the parts are the text, one behind the other, without a gap
abbrev pub Covers : List Part → List ℕ → Type 0
Covers [] text = text ≡ []
Covers (part ∷ parts) text = (rest : List ℕ) × (text ≡ part_bytes part ++ rest) × StandsBefore part rest × Covers parts rest

-- the line behind a token, and whether that line has a byte before
abbrev pub line_behind : TokenKind → ℕ → ℕ
line_behind End line = line + 1
line_behind _ line = line

abbrev pub goes_on : TokenKind → Bool
goes_on End = false
goes_on _ = true

-- the tokens among parts, the first of which begins at a place of a line, and the end of a last line that has a byte
abbrev pub tokens_among : ℕ → ℕ → Bool → List Part → List Token
tokens_among place line begun [] = last_end begun place line
tokens_among place line begun (Blank byte ∷ parts) = tokens_among (place + 1) line true parts
tokens_among place line begun (Comment bytes ∷ parts) = tokens_among (place + length (35 ∷ bytes)) line true parts
tokens_among place line begun (Lexeme kind bytes ∷ parts) =
    token kind line place (length bytes) ∷ tokens_among (place + length bytes) (line_behind kind line) (goes_on kind) parts

-- the text is its parts, and the tokens are those among them, each with its place and its line
pub record IsDivided (text : List ℕ) (tokens : List Token) : Type 0 where
  pub parts : List Part
  pub covers : Covers parts text
  pub given : tokens ≡ tokens_among 0 1 false parts
