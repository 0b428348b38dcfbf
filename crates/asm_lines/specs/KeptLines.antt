-- The lines of a text, as the code keeps them. No public contract speaks of them: those of the language are in `Lines`.
use Rattle.std.specs.Prelude.{ℕ, ◌+◌, min, List, [], ◌∷◌, length, map, drop, Bool, true, false, Option, Some, None, if◌then◌else◌}
use Rattle.text_lex.specs.declared.Token.{Token}
use Rattle.asm_lines.specs.Mnemonics.{head_of}
use Rattle.asm_lines.specs.Lines.{rows}
use Rattle.asm_lines.specs.Kept.{spelling, kept_of}
use Rattle.asm_lines.specs.KeptForms.{form}
use Rattle.asm_lines.specs.declared.pieces.Operand.TheVariants.{Named}
use Rattle.asm_lines.specs.declared.pieces.Piece.{Piece}
use Rattle.asm_lines.specs.declared.pieces.Piece.TheVariants.{Is, Dotted, Colon}
use Rattle.asm_lines.specs.declared.mnemonics.Head.{Head}
use Rattle.asm_lines.specs.declared.statements.Statement.{Statement}
use Rattle.asm_lines.specs.declared.statements.Statement.TheVariants.{Nothing, Unknown, Malformed, Inject}
use Rattle.asm_lines.specs.declared.statements.Line.{Line}

abbrev pub formed : Option Statement → Statement
formed (Some statement) = statement
formed None = Malformed

abbrev pub headed : List ℕ → List Token → Option Head → List Piece → Statement
headed text tokens None ps = Unknown
headed text tokens (Some head) ps = formed (form text tokens head ps)

-- the statement that these pieces of these tokens are
abbrev pub statement_of : List ℕ → List Token → List Piece → Statement
statement_of text tokens [] = Nothing
statement_of text tokens (Is (Named s) ∷ ps) = headed text (drop 1 tokens) (head_of (spelling text s)) ps
statement_of text tokens (Dotted s ∷ ps) = headed text (drop 1 tokens) (head_of (spelling text s)) ps
statement_of text tokens (_ ∷ ps) = Unknown

abbrev pub behind_label : Statement → Statement
behind_label Inject = Malformed
behind_label statement = statement

-- the line that these pieces of these tokens are
abbrev pub line_of : List ℕ → ℕ → List Token → List Piece → Line
line_of text number tokens (Is (Named s) ∷ Colon ∷ ps) = record { number = number; label = Some s; statement = behind_label (statement_of text (drop 2 tokens) ps) }
line_of text number tokens ps = record { number = number; label = None; statement = statement_of text tokens ps }

abbrev pub line_in : List ℕ → List Token → Option Line
line_in text [] = None
line_in text (t ∷ ts) = Some (line_of text t.line (t ∷ ts) (map kept_of (t ∷ ts)))

pub record Reading : Type 0 where
  pub lines : List Line
  pub used : ℕ

abbrev pub is_inject : Statement → Bool
is_inject Inject = true
is_inject _ = false

abbrev pub before : Option Line → ℕ → Reading → Reading
before None size reading = record { lines = reading.lines; used = size + reading.used }
before (Some line) size reading =
    if is_inject line.statement then record { lines = []; used = size }
    else record { lines = line ∷ reading.lines; used = size + reading.used }

abbrev pub reading_of : List ℕ → List (List Token) → Reading
reading_of text [] = record { lines = []; used = 0 }
reading_of text (r ∷ rows) = before (line_in text r) (length r + 1) (reading_of text rows)

abbrev pub read : List ℕ → List Token → Reading
read text tokens =
    let reading = reading_of text (rows tokens) in
    record { lines = reading.lines; used = min (length tokens) reading.used }
