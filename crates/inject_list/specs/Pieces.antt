-- The lines behind `.inject`, and what their tokens are to a reader of injections.
use Rattle.std.specs.Prelude.{ℕ, ℤ, List, [], ◌∷◌, map, Bool, true, false, if◌then◌else◌}
use Rattle.text_lex.specs.Tokens.{bytes_of}
use Rattle.text_lex.specs.declared.Token.{Token}
use Rattle.text_lex.specs.declared.TokenKind.{TokenKind}
use Rattle.text_lex.specs.declared.TokenKind.TheVariants as kind

-- a name by its bytes, a number, a comma, or what stands in no such line
pub data Piece : Type 0 where
  Word : List ℕ → Piece
  Number : ℤ → Piece
  Comma : Piece
  Other : Piece

-- what a token of a kind is that has these bytes
abbrev pub piece_with : List ℕ → TokenKind → Piece
piece_with bytes kind.Name = Word bytes
piece_with bytes (kind.Number value) = Number value
piece_with bytes kind.Comma = Comma
piece_with bytes _ = Other

-- what a token is
abbrev pub piece_of : List ℕ → Token → Piece
piece_of text t = piece_with (bytes_of text t) t.kind

abbrev pub is_end : TokenKind → Bool
is_end kind.End = true
is_end _ = false

-- a token before the first line
abbrev pub extended : Token → List (List Token) → List (List Token)
extended t [] = (t ∷ []) ∷ []
extended t (line ∷ lines) = (t ∷ line) ∷ lines

-- the tokens of each line, without the one that ends it
abbrev pub lines : List Token → List (List Token)
lines [] = []
lines (t ∷ ts) = if is_end t.kind then [] ∷ lines ts else extended t (lines ts)

-- the pieces of a line
abbrev pub pieces : List ℕ → List Token → List Piece
pieces text line = map (piece_of text) line
