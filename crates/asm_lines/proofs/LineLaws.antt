-- What holds of each statement of a form holds of each line that is read.
use Rattle.std.proofs.Common.{◌≡◌, ℕ, ◌+◌, List, [], ◌∷◌, length, map, Bool, true, false, refl}
use Rattle.std.specs.Prelude.{Option, Some, None, IfSome, if◌then◌else◌}
use Rattle.std.specs.List.{AllByRecursion}
use Rattle.text_lex.specs.declared.Token.{Token}
use Rattle.asm_lines.specs.Language.{Named, Piece, Is, Dotted, Colon, Statement, Nothing, Unknown, Malformed, Inject, Line}
use Rattle.asm_lines.specs.Pieces.{piece_of}
use Rattle.asm_lines.specs.Mnemonics.{head_of}
use Rattle.asm_lines.specs.Forms.{form}
use Rattle.asm_lines.specs.Lines.{formed, headed, statement_of, behind_label, line_of, is_end, extended, rows, line_in, Reading, is_inject, before, reading_of, read}
use Rattle.asm_lines.specs.declared.mnemonics.Head.{Head}
use Rattle.asm_lines.proofs.PlainForms.{is_special, begins_special, form_passes}

-- one of two readings
abbrev chosen : Bool → Reading → Reading → Reading
chosen b x y = if b then x else y

-- the tokens have a property S, their pieces R, and the special statements P
module _ (text : List ℕ) (P : Statement → Type 0) (R : Piece → Type 0) (S : Token → Type 0) where
  -- the lines have P
  abbrev pub LinesHave : List Line → Type 0
  LinesHave ls = AllByRecursion (λ l. P l.statement) ls

  -- the rows have S
  abbrev RowsHave : List (List Token) → Type 0
  RowsHave rs = AllByRecursion (λ r. AllByRecursion S r) rs

  module _ (plain : (s : Statement) → is_special s ≡ false → P s) (special : (name : List ℕ) (h : Head) (ps : List Piece) → head_of name ≡ Some h → begins_special h ≡ true → AllByRecursion R ps → IfSome (form h ps) P) (pieces : (t : Token) → S t → R (piece_of text t)) where
    formed_has : (o : Option Statement) → IfSome o P → P (formed o)
    formed_has None h = plain Malformed refl
    formed_has (Some statement) h = h

    headed_has : (name : List ℕ) (o : Option Head) (ps : List Piece) → head_of name ≡ o → AllByRecursion R ps → P (headed o ps)
    headed_has name None ps e r = plain Unknown refl
    headed_has name (Some h) ps e r = formed_has (form h ps) (form_passes P plain h ps (λ d. special name h ps e d r))

    statement_has : (ps : List Piece) → AllByRecursion R ps → P (statement_of ps)
    statement_has [] r = plain Nothing refl
    statement_has (Is (Named s) ∷ ps) r = headed_has s (head_of s) ps refl r.1
    statement_has (Dotted s ∷ ps) r = headed_has s (head_of s) ps refl r.1
    statement_has (_ ∷ ps) r = plain Unknown refl

    behind_label_has : (statement : Statement) → P statement → P (behind_label statement)
    behind_label_has Inject h = plain Malformed refl
    behind_label_has statement h = h

    line_has : (number : ℕ) (ps : List Piece) → AllByRecursion R ps → P (line_of number ps).statement
    line_has number (Is (Named s) ∷ Colon ∷ ps) r = behind_label_has (statement_of ps) (statement_has ps r.1.1)
    line_has number ps r = statement_has ps r

    pieces_have : (ts : List Token) → AllByRecursion S ts → AllByRecursion R (map (piece_of text) ts)
    pieces_have [] h = tt
    pieces_have (t ∷ ts) h = (pieces t h.0, pieces_have ts h.1)

    line_in_has : (ts : List Token) → AllByRecursion S ts → IfSome (line_in text ts) (λ l. P l.statement)
    line_in_has [] h = tt
    line_in_has (t ∷ ts) h = line_has t.line (map (piece_of text) (t ∷ ts)) (pieces_have (t ∷ ts) h)

    chosen_have : (line : Line) (size : ℕ) (reading : Reading) (b : Bool) → P line.statement → LinesHave reading.lines → LinesHave (chosen b (record { lines = []; used = size }) (record { lines = line ∷ reading.lines; used = size + reading.used })).lines
    chosen_have line size reading true q h = tt
    chosen_have line size reading false q h = (q, h)

    before_have : (line : Option Line) (size : ℕ) (reading : Reading) → IfSome line (λ l. P l.statement) → LinesHave reading.lines → LinesHave (before line size reading).lines
    before_have None size reading q h = h
    before_have (Some line) size reading q h = chosen_have line size reading (is_inject line.statement) q h

    lines_have : (rs : List (List Token)) → RowsHave rs → LinesHave (reading_of text rs).lines
    lines_have [] h = tt
    lines_have (r ∷ rs) h = before_have (line_in text r) (length r + 1) (reading_of text rs) (line_in_has r h.0) (lines_have rs h.1)

    extended_have : (t : Token) (rs : List (List Token)) → S t → RowsHave rs → RowsHave (extended t rs)
    extended_have t [] h k = ((h, tt), tt)
    extended_have t (r ∷ rs) h k = ((h, k.0), k.1)

    row_has : (t : Token) (rs : List (List Token)) (b : Bool) → S t → RowsHave rs → RowsHave (if b then [] ∷ rs else extended t rs)
    row_has t rs true h k = (tt, k)
    row_has t rs false h k = extended_have t rs h k

    rows_have : (ts : List Token) → AllByRecursion S ts → RowsHave (rows ts)
    rows_have [] h = tt
    rows_have (t ∷ ts) h = row_has t (rows ts) (is_end t.kind) h.0 (rows_have ts h.1)

    -- each line that is read has P
    pub read_has : (tokens : List Token) → AllByRecursion S tokens → LinesHave (read text tokens).lines
    read_has tokens h = lines_have (rows tokens) (rows_have tokens h)
