-- The lines of a text, up to the line `.inject`.
use Rattle.std.specs.Prelude.{ℕ, ◌+◌, min, List, [], ◌∷◌, length, map, Bool, true, false, not, Option, Some, None, if◌then◌else◌}
use Rattle.text_lex.specs.declared.Token.{Token}
use Rattle.text_lex.specs.declared.TokenKind.{TokenKind}
use Rattle.text_lex.specs.declared.TokenKind.TheVariants.{End}
use Rattle.asm_lines.specs.Language.{Named, Piece, Is, Dotted, Colon, Statement, Nothing, Unknown, Malformed, Inject, Line}
use Rattle.asm_lines.specs.Pieces.{piece_of}
use Rattle.asm_lines.specs.Mnemonics.{head_of}
use Rattle.asm_lines.specs.Forms.{form}
use Rattle.asm_lines.specs.declared.mnemonics.Head.{Head}

-- a statement of a known form, or one that is not the form of its head
abbrev pub formed : Option Statement → Statement
formed (Some statement) = statement
formed None = Malformed

-- what begins with this head, if it is one
abbrev pub headed : Option Head → List Piece → Statement
headed None ps = Unknown
headed (Some head) ps = formed (form head ps)

-- the statement that these pieces are
abbrev pub statement_of : List Piece → Statement
statement_of [] = Nothing
statement_of (Is (Named s) ∷ ps) = headed (head_of s) ps
statement_of (Dotted s ∷ ps) = headed (head_of s) ps
statement_of (_ ∷ ps) = Unknown

-- behind a label `.inject` does not stand alone on its line
abbrev pub behind_label : Statement → Statement
behind_label Inject = Malformed
behind_label statement = statement

-- the line that these pieces are
abbrev pub line_of : ℕ → List Piece → Line
line_of number (Is (Named s) ∷ Colon ∷ ps) = record { number = number; label = Some s; statement = behind_label (statement_of ps) }
line_of number ps = record { number = number; label = None; statement = statement_of ps }

abbrev pub is_end : TokenKind → Bool
is_end End = true
is_end _ = false

-- a token of a line
abbrev pub is_before_end : Token → Bool
is_before_end t = not (is_end t.kind)

-- a token at the front of the first row
abbrev pub extended : Token → List (List Token) → List (List Token)
extended t [] = (t ∷ []) ∷ []
extended t (r ∷ rows) = (t ∷ r) ∷ rows

-- the rows of a text: the tokens of each line, without its end
abbrev pub rows : List Token → List (List Token)
rows [] = []
rows (t ∷ ts) = if is_end t.kind then [] ∷ rows ts else extended t (rows ts)

-- the line of a row, if it is not empty
abbrev pub line_in : List ℕ → List Token → Option Line
line_in text [] = None
line_in text (t ∷ ts) = Some (line_of t.line (map (piece_of text) (t ∷ ts)))

-- the lines before `.inject`, and how many tokens stand up to its end
pub record Reading : Type 0 where
  pub lines : List Line
  pub used : ℕ

abbrev pub is_inject : Statement → Bool
is_inject Inject = true
is_inject _ = false

-- a line of so many tokens before the others; `.inject` ends them
abbrev pub before : Option Line → ℕ → Reading → Reading
before None size reading = record { lines = reading.lines; used = size + reading.used }
before (Some line) size reading =
    if is_inject line.statement then record { lines = []; used = size }
    else record { lines = line ∷ reading.lines; used = size + reading.used }

-- what rows are read as, each with its end
abbrev pub reading_of : List ℕ → List (List Token) → Reading
reading_of text [] = record { lines = []; used = 0 }
reading_of text (r ∷ rows) = before (line_in text r) (length r + 1) (reading_of text rows)

-- the lines of a text and its tokens; the last line may have no end
abbrev pub read : List ℕ → List Token → Reading
read text tokens =
    let reading = reading_of text (rows tokens) in
    record { lines = reading.lines; used = min (length tokens) reading.used }
