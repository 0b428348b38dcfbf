-- What the tokens of a text are to the assembler.
use Rattle.std.specs.Prelude.{ℕ, List, take, drop, map, Option, Some, None}
use Rattle.std.specs.List.{filter_map}
use Rattle.text_lex.specs.declared.Token.{Token}
use Rattle.text_lex.specs.declared.TokenKind.{TokenKind}
use Rattle.text_lex.specs.declared.TokenKind.TheVariants.{Name, Directive, Number as Figure, Comma as CommaSign, Open as OpenSign, Close as CloseSign, Colon as ColonSign, End}
use Rattle.asm_lines.specs.Language.{Operand, Number, Named, Piece, Is, Dotted, Comma, Open, Close, Colon, Ends}

-- so many bytes of a text from a place on
abbrev pub bytes_at : List ℕ → (start len : ℕ) → List ℕ
bytes_at text start len = take len (drop start text)

-- what a token of this kind is, with these bytes
abbrev pub piece_at : TokenKind → List ℕ → Piece
piece_at Name bytes = Is (Named bytes)
piece_at (Figure value) bytes = Is (Number value)
piece_at Directive bytes = Dotted bytes
piece_at CommaSign bytes = Comma
piece_at OpenSign bytes = Open
piece_at CloseSign bytes = Close
piece_at ColonSign bytes = Colon
piece_at End bytes = Ends

-- what a token is
abbrev pub piece_of : List ℕ → Token → Piece
piece_of text t = piece_at t.kind (bytes_at text t.start t.len)

-- the number or name that a piece is
abbrev pub operand_of : Piece → Option Operand
operand_of (Is operand) = Some operand
operand_of _ = None

-- the numbers and names among some pieces
abbrev pub operands_among : List Piece → List Operand
operands_among ps = filter_map operand_of ps
