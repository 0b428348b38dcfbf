-- The lines that the code keeps say the lines of the language.
use Rattle.std.proofs.Common.{◌≡◌, ◌∙◌, ap, sym, refl, ℕ, ◌+◌, min, List, [], ◌∷◌, map, drop, length, Bool, true, false}
use Rattle.std.specs.Prelude.{Option, Some, None, if◌then◌else◌}
use Rattle.std.specs.Option.{option_map}
use Rattle.text_lex.specs.declared.Token.{Token}
use Rattle.text_lex.specs.declared.TokenKind.{TokenKind}
use Rattle.text_lex.specs.declared.TokenKind.TheVariants.{Name, Directive, Number as Figure, Comma as CommaSign, Open as OpenSign, Close as CloseSign, Colon as ColonSign, End}
use Rattle.asm_lines.specs.Mnemonics.{head_of}
use Rattle.asm_lines.specs.Pieces.{piece_of}
use Rattle.asm_lines.specs.Language as say
use Rattle.asm_lines.specs.Forms as forms
use Rattle.asm_lines.specs.Lines.{rows}
use Rattle.asm_lines.specs.Lines as of
use Rattle.asm_lines.specs.Kept.{spelling, kept_of, piece_said, pieces_said, statement_said, line_said, lines_said}
use Rattle.asm_lines.specs.KeptForms.{form}
use Rattle.asm_lines.specs.KeptLines.{formed, headed, statement_of, behind_label, line_of, line_in, Reading, is_inject, before, reading_of, read}
use Rattle.asm_lines.specs.declared.pieces.Operand.TheVariants.{Named}
use Rattle.asm_lines.specs.declared.pieces.Piece.{Piece}
use Rattle.asm_lines.specs.declared.pieces.Piece.TheVariants.{Is, Dotted, Colon}
use Rattle.asm_lines.specs.declared.mnemonics.Head.{Head}
use Rattle.asm_lines.specs.declared.statements.Statement.{Statement}
use Rattle.asm_lines.specs.declared.statements.Statement.TheVariants.{Inject}
use Rattle.asm_lines.specs.declared.statements.Line.{Line}
use Rattle.asm_lines.proofs.SaidForms.{form_said}

module _ (text : List ℕ) where
  -- what is kept of a token says it
  kept_by : (kind : TokenKind) (line start len : ℕ) → (let t : Token = record { kind = kind; line = line; start = start; len = len } in piece_said text (kept_of t) ≡ piece_of text t)
  kept_by Name line start len = refl
  kept_by (Figure value) line start len = refl
  kept_by Directive line start len = refl
  kept_by CommaSign line start len = refl
  kept_by OpenSign line start len = refl
  kept_by CloseSign line start len = refl
  kept_by ColonSign line start len = refl
  kept_by End line start len = refl

  pub kept_said : (ts : List Token) → pieces_said text (map kept_of ts) ≡ map (piece_of text) ts
  kept_said [] = refl
  kept_said (t ∷ ts) = ap (λ p. p ∷ pieces_said text (map kept_of ts)) (kept_by t.kind t.line t.start t.len) ∙ ap (λ ps. piece_of text t ∷ ps) (kept_said ts)

  -- the pieces are those of the tokens
  abbrev AreOf : List Piece → List Token → Type 0
  AreOf ps ts = pieces_said text ps ≡ map (piece_of text) ts

  behind : (p : Piece) (ps : List Piece) (ts : List Token) → AreOf (p ∷ ps) ts → AreOf ps (drop 1 ts)
  behind p ps [] same = absurd cc
  behind p ps (t ∷ ts) same = cc

  formed_said : (o : Option Statement) (q : Option say.Statement) → option_map (statement_said text) o ≡ q → statement_said text (formed o) ≡ of.formed q
  formed_said None q e = ap of.formed e
  formed_said (Some s) q e = ap of.formed e

  headed_said : (tokens : List Token) (o : Option Head) (ps : List Piece) → AreOf ps tokens → statement_said text (headed text tokens o ps) ≡ of.headed o (pieces_said text ps)
  headed_said tokens None ps same = refl
  headed_said tokens (Some h) ps same = formed_said (form text tokens h ps) (forms.form h (pieces_said text ps)) (form_said text tokens h ps same)

  statement_of_said : (tokens : List Token) (ps : List Piece) → AreOf ps tokens → statement_said text (statement_of text tokens ps) ≡ of.statement_of (pieces_said text ps)
  statement_of_said tokens [] same = refl
  statement_of_said tokens (Is (Named s) ∷ ps) same = headed_said (drop 1 tokens) (head_of (spelling text s)) ps (behind (Is (Named s)) ps tokens same)
  statement_of_said tokens (Dotted s ∷ ps) same = headed_said (drop 1 tokens) (head_of (spelling text s)) ps (behind (Dotted s) ps tokens same)
  statement_of_said tokens (_ ∷ ps) same = refl

  label_said : (s : Statement) → statement_said text (behind_label s) ≡ of.behind_label (statement_said text s)
  label_said Inject = refl
  label_said _ = refl

  Labelled : ℕ → Option (List ℕ) → say.Statement → say.Line
  Labelled number label statement = record { number = number; label = label; statement = statement }

  line_of_said : (number : ℕ) (tokens : List Token) (ps : List Piece) → AreOf ps tokens → line_said text (line_of text number tokens ps) ≡ of.line_of number (pieces_said text ps)
  unfolding Labelled
  line_of_said number tokens (Is (Named s) ∷ Colon ∷ ps) same =
      let one : AreOf (Colon ∷ ps) (drop 1 tokens) = behind (Is (Named s)) (Colon ∷ ps) tokens same in
      let two : AreOf ps (drop 1 (drop 1 tokens)) = behind Colon ps (drop 1 tokens) one in
      let same : AreOf ps (drop 2 tokens) = two ∙ ap (map (piece_of text)) (drop_two tokens) in
      ap (Labelled number (Some (spelling text s))) (label_said (statement_of text (drop 2 tokens) ps) ∙ ap of.behind_label (statement_of_said (drop 2 tokens) ps same))
    where
      drop_two : (ts : List Token) → drop 1 (drop 1 ts) ≡ drop 2 ts
      drop_two [] = refl
      drop_two (t ∷ []) = refl
      drop_two (t ∷ u ∷ ts) = refl
  line_of_said number tokens [] same = ap (Labelled number None) (statement_of_said tokens [] same)
  line_of_said number tokens (p ∷ ps) same = ap (Labelled number None) (statement_of_said tokens (p ∷ ps) same)

  line_in_said : (ts : List Token) → option_map (line_said text) (line_in text ts) ≡ of.line_in text ts
  line_in_said [] = refl
  line_in_said (t ∷ ts) =
      ap Some (line_of_said t.line (t ∷ ts) (map kept_of (t ∷ ts)) (kept_said (t ∷ ts)) ∙ ap (of.line_of t.line) (kept_said (t ∷ ts)))

  -- what a reading says
  abbrev pub reading_said : Reading → of.Reading
  reading_said r = record { lines = lines_said text r.lines; used = r.used }

  inject_said : (s : Statement) → is_inject s ≡ of.is_inject (statement_said text s)
  inject_said Inject = refl
  inject_said _ = refl

  chosen_said : (b : Bool) (line : Line) (size : ℕ) (r : Reading)
      → reading_said (if b then record { lines = []; used = size } else record { lines = line ∷ r.lines; used = size + r.used })
      ≡ (if b then record { lines = []; used = size } else record { lines = line_said text line ∷ lines_said text r.lines; used = size + r.used })
  chosen_said true line size r = refl
  chosen_said false line size r = refl

  before_said : (o : Option Line) (size : ℕ) (r : Reading) → reading_said (before o size r) ≡ of.before (option_map (line_said text) o) size (reading_said r)
  before_said None size r = refl
  before_said (Some line) size r =
      chosen_said (is_inject line.statement) line size r
      ∙ ap (λ b. if b then record { lines = []; used = size } else record { lines = line_said text line ∷ lines_said text r.lines; used = size + r.used }) (inject_said line.statement)

  rows_said : (rs : List (List Token)) → reading_said (reading_of text rs) ≡ of.reading_of text rs
  rows_said [] = refl
  rows_said (r ∷ rs) =
      before_said (line_in text r) (length r + 1) (reading_of text rs)
      ∙ (ap (λ o. of.before o (length r + 1) (reading_said (reading_of text rs))) (line_in_said r)
      ∙ ap (of.before (of.line_in text r) (length r + 1)) (rows_said rs))

  abbrev ended : ℕ → of.Reading → of.Reading
  ended total r = record { lines = r.lines; used = min total r.used }

  -- what the code keeps of a text says what it is read as
  pub read_said : (tokens : List Token) → reading_said (read text tokens) ≡ of.read text tokens
  read_said tokens = ap (ended (length tokens)) (rows_said (rows tokens))
