-- The longest piece at the front of a text.
use Rattle.std.specs.Prelude.{ℕ, ◌+◌, ◌≤◌, ℤ, pos, neg_ℤ, List, [], ◌∷◌, drop, nat_lt, if◌then◌else◌}
use Rattle.std.specs.List.{prefix_len}
use Rattle.text_lex.specs.Bytes.{class_of, is_name_byte, is_letter, is_digit, is_not_line_feed}
use Rattle.text_lex.specs.Numbers.{Numeral, numeral}
use Rattle.text_lex.specs.declared.TokenKind.TheVariants.{Name, Directive, Number}
use Rattle.text_lex.specs.declared.bytes.ByteClass.{ByteClass}
use Rattle.text_lex.specs.declared.bytes.ByteClass.TheVariants.{Blank, Hash, LineFeed, Letter, Dot, Minus, Digit, Sign, Other}
use Rattle.text_lex.specs.declared.pieces.Piece.{Piece}
use Rattle.text_lex.specs.declared.pieces.Piece.TheVariants.{Skips, Ends, Gives, Bad, TooLarge}

-- a number, unless a byte of a name stands directly behind it
abbrev pub closed : ℤ → ℕ → List ℕ → Piece
closed value further [] = Gives (Number value) further
closed value further (byte ∷ bytes) = if is_name_byte byte then Bad (further + 1) else Gives (Number value) further

-- a number without a sign, from its first digit on
abbrev pub positive : Numeral → List ℕ → Piece
positive n rest = if nat_lt 4294967295 n.value then TooLarge else closed (pos n.value) n.further (drop n.further rest)

-- a number behind its minus sign, from its first digit on
abbrev pub negative : Numeral → List ℕ → Piece
negative n rest = if nat_lt 2147483648 n.value then TooLarge else closed (neg_ℤ (pos n.value)) (n.further + 1) (drop n.further rest)

-- what stands behind a minus sign is a digit
abbrev pub after_minus : List ℕ → Piece
after_minus [] = Bad 0
after_minus (byte ∷ rest) = if is_digit byte then negative (numeral byte rest) rest else Bad 0

-- what stands behind a dot is a name
abbrev pub after_dot : List ℕ → Piece
after_dot [] = Bad 0
after_dot (byte ∷ rest) = if is_letter byte then Gives Directive (1 + prefix_len is_name_byte rest) else Bad 0

-- the longest piece that begins with this byte: a piece of `Skips n` or `Gives kind n` has n bytes more
abbrev pub piece_of : ByteClass → ℕ → List ℕ → Piece
piece_of Blank byte rest = Skips 0
piece_of Hash byte rest = Skips (prefix_len is_not_line_feed rest)
piece_of LineFeed byte rest = Ends
piece_of Letter byte rest = Gives Name (prefix_len is_name_byte rest)
piece_of Dot byte rest = after_dot rest
piece_of Minus byte rest = after_minus rest
piece_of Digit byte rest = positive (numeral byte rest) rest
piece_of (Sign kind) byte rest = Gives kind 0
piece_of Other byte rest = Bad 0

abbrev pub piece_at : ℕ → List ℕ → Piece
piece_at byte rest = piece_of (class_of byte) byte rest

-- the piece ends within so many bytes behind its first
abbrev pub PieceFits : Piece → ℕ → Type 0
PieceFits (Skips further) room = further ≤ room
PieceFits Ends room = Unit {0}
PieceFits (Gives kind further) room = further ≤ room
PieceFits (Bad further) room = further ≤ room
PieceFits TooLarge room = Unit {0}
