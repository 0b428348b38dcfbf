-- What the code keeps of a text, in words of the language: it keeps a name as its place in the text, and the values of `.word` as
-- their tokens.
use Rattle.std.specs.Prelude.{ℕ, List, [], ◌∷◌, map}
use Rattle.std.specs.Option.{option_map}
use Rattle.text_lex.specs.declared.Token.{Token}
use Rattle.text_lex.specs.declared.TokenKind.{TokenKind}
use Rattle.text_lex.specs.declared.TokenKind.TheVariants.{Name, Directive, Number as Figure, Comma as CommaSign, Open as OpenSign, Close as CloseSign, Colon as ColonSign, End}
use Rattle.asm_lines.specs.Language.{Operand, Number, Named, Piece, Is, Dotted, Comma, Open, Close, Colon, Ends, Statement, Nothing, Unknown, Malformed, Sections, Inject, Words, Space, Equ, Task, Object, Vector, Setting, Registers, Immediate, Shift, Store, Branch, Upper, Jump, Alone, LoadConstant, LoadValue, CallService, Line}
use Rattle.asm_lines.specs.Pieces.{bytes_at, piece_of, operands_among}
use Rattle.asm_lines.specs.declared.pieces.Span.{Span}
use Rattle.asm_lines.specs.declared.pieces.Operand.{Operand as KeptOperand}
use Rattle.asm_lines.specs.declared.pieces.Operand.TheVariants as operand
use Rattle.asm_lines.specs.declared.pieces.Piece.{Piece as KeptPiece}
use Rattle.asm_lines.specs.declared.pieces.Piece.TheVariants as piece
use Rattle.asm_lines.specs.declared.statements.Statement.{Statement as KeptStatement}
use Rattle.asm_lines.specs.declared.statements.Statement.TheVariants as statement
use Rattle.asm_lines.specs.declared.statements.Line.{Line as KeptLine}

-- the bytes of a name
abbrev pub spelling : List ℕ → Span → List ℕ
spelling text s = bytes_at text s.start s.len

abbrev pub operand_said : List ℕ → KeptOperand → Operand
operand_said text (operand.Number value) = Number value
operand_said text (operand.Named s) = Named (spelling text s)

abbrev pub piece_said : List ℕ → KeptPiece → Piece
piece_said text (piece.Is o) = Is (operand_said text o)
piece_said text (piece.Dotted s) = Dotted (spelling text s)
piece_said text piece.Comma = Comma
piece_said text piece.Open = Open
piece_said text piece.Close = Close
piece_said text piece.Colon = Colon
piece_said text piece.Ends = Ends

abbrev pub pieces_said : List ℕ → List KeptPiece → List Piece
pieces_said text [] = []
pieces_said text (p ∷ ps) = piece_said text p ∷ pieces_said text ps

-- what is kept of a token
abbrev pub kept_at : TokenKind → Span → KeptPiece
kept_at Name s = piece.Is (operand.Named s)
kept_at (Figure value) s = piece.Is (operand.Number value)
kept_at Directive s = piece.Dotted s
kept_at CommaSign s = piece.Comma
kept_at OpenSign s = piece.Open
kept_at CloseSign s = piece.Close
kept_at ColonSign s = piece.Colon
kept_at End s = piece.Ends

abbrev pub kept_of : Token → KeptPiece
kept_of t = kept_at t.kind (record { start = t.start; len = t.len })

abbrev pub statement_said : List ℕ → KeptStatement → Statement
statement_said text statement.Nothing = Nothing
statement_said text statement.Unknown = Unknown
statement_said text statement.Malformed = Malformed
statement_said text (statement.Section section) = Sections section
statement_said text statement.Inject = Inject
statement_said text (statement.Words tokens) = Words (operands_among (map (piece_of text) tokens))
statement_said text (statement.Space c) = Space (operand_said text c)
statement_said text (statement.Equ n value) = Equ (spelling text n) value
statement_said text (statement.Task n values) = Task (spelling text n) (map (operand_said text) values)
statement_said text (statement.Object n kind values) = Object (spelling text n) kind (map (operand_said text) values)
statement_said text (statement.Vector values) = Vector (map (operand_said text) values)
statement_said text (statement.Setting key v) = Setting key (operand_said text v)
statement_said text (statement.Registers op d s t) = Registers op d s t
statement_said text (statement.Immediate op d s c) = Immediate op d s (operand_said text c)
statement_said text (statement.Shift op d s c) = Shift op d s (operand_said text c)
statement_said text (statement.Store op t s c) = Store op t s (operand_said text c)
statement_said text (statement.Branch op s t target) = Branch op s t (spelling text target)
statement_said text (statement.Upper op d c) = Upper op d (operand_said text c)
statement_said text (statement.Jump d target) = Jump d (spelling text target)
statement_said text (statement.Alone op) = Alone op
statement_said text (statement.LoadConstant d c) = LoadConstant d (operand_said text c)
statement_said text (statement.LoadValue d v) = LoadValue d (operand_said text v)
statement_said text (statement.CallService number) = CallService number

abbrev pub line_said : List ℕ → KeptLine → Line
line_said text l = record { number = l.number; label = option_map (spelling text) l.label; statement = statement_said text l.statement }

abbrev pub lines_said : List ℕ → List KeptLine → List Line
lines_said text ls = map (line_said text) ls
