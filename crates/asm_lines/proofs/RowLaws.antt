-- The rows of tokens, and what they are read as.
use Rattle.std.proofs.Common.{◌≡◌, ℕ, suc, ◌+◌, ◌-◌, ◌<◌, ◌≤◌, List, [], ◌∷◌, Bool, true, false, take, drop, length, get_or, map, arith, sym, ◌∙◌, ap, refl}
use Rattle.std.specs.Prelude.{Option, Some}
use Rattle.std.specs.List.{prefix_len}
use Rattle.std.proofs.lemmas.List.{drop-drop, length-drop, get_or-drop, get_or-take}
use Rattle.std.proofs.lemmas.List.Folds.{length-prefix_len}
use Rattle.text_lex.specs.declared.Token.{Token}
use Rattle.asm_lines.specs.Kept.{kept_of}
use Rattle.asm_lines.specs.Lines.{is_end, is_before_end, extended, rows}
use Rattle.asm_lines.specs.KeptLines.{line_in, line_of, Reading, before, reading_of, is_inject}
use Rattle.asm_lines.specs.declared.statements.Line.{Line}

-- the tokens before the first end
abbrev pub run : List Token → ℕ
run ts = prefix_len is_before_end ts

-- a first row of n tokens, and the rows behind it
abbrev pub split : ℕ → List Token → List (List Token)
split n ts = take n ts ∷ rows (drop (n + 1) ts)

at_end : (t : Token) (ts : List Token) → is_end t.kind ≡ true → rows (t ∷ ts) ≡ split (run (t ∷ ts)) (t ∷ ts)
at_end t ts e = rw e refl

alone : (t : Token) → is_end t.kind ≡ false → rows (t ∷ []) ≡ split (run (t ∷ [])) (t ∷ [])
alone t e = rw e refl

more : (t : Token) (ts : List Token) (n : ℕ) → extended t (split n ts) ≡ split (1 + n) (t ∷ ts)
more t ts n =
    let a : suc n ≡ 1 + n = omega arith in
    let b : suc (n + 1) ≡ 1 + n + 1 = omega arith in
    let Rows : ℕ → ℕ → List (List Token) = λ k m. take k (t ∷ ts) ∷ rows (drop m (t ∷ ts)) in
    ap (λ (k : ℕ). Rows k (suc (n + 1))) a ∙ ap (Rows (1 + n)) b

going_on : (t : Token) (ts : List Token) → is_end t.kind ≡ false → rows ts ≡ split (run ts) ts → rows (t ∷ ts) ≡ split (run (t ∷ ts)) (t ∷ ts)
going_on t ts e h =
    let goes : rows (t ∷ ts) ≡ extended t (rows ts) = rw e refl in
    let runs : run (t ∷ ts) ≡ 1 + run ts = rw e refl in
    goes ∙ (ap (extended t) h ∙ (more t ts (run ts) ∙ ap (λ (n : ℕ). split n (t ∷ ts)) (sym runs)))

split_by : (t : Token) (ts : List Token) (b : Bool) → is_end t.kind ≡ b → (0 < length ts → rows ts ≡ split (run ts) ts) → rows (t ∷ ts) ≡ split (run (t ∷ ts)) (t ∷ ts)
split_by t ts true e h = at_end t ts e
split_by t [] false e h = alone t e
split_by t (u ∷ ts) false e h = going_on t (u ∷ ts) e (h (omega arith))

-- the first row goes to the first end
pub rows-split : (ts : List Token) → 0 < length ts → rows ts ≡ split (run ts) ts
rows-split [] h = absurd (omega arith)
rows-split (t ∷ ts) h = split_by t ts (is_end t.kind) refl (λ k. rows-split ts k)

-- what the tokens from a place on are read as
abbrev pub rest_of : List ℕ → List Token → ℕ → Reading
rest_of text tokens at = reading_of text (rows (drop at tokens))

line_in-some : (text : List ℕ) (d : Token) (ts : List Token) → 0 < length ts → line_in text ts ≡ Some (line_of text (get_or ts 0 d).line ts (map kept_of ts))
line_in-some text d [] h = absurd (omega arith)
line_in-some text d (t ∷ ts) h = refl

module _ (text : List ℕ) (tokens : List Token) (at end : ℕ) (inside : at < length tokens) (ends : end ≡ at + run (drop at tokens)) where
  -- the row at a place comes before the rest
  pub rest_of-row : rest_of text tokens at ≡ before (line_in text (take (end - at) (drop at tokens))) (end + 1 - at) (rest_of text tokens (end + 1))
  rest_of-row =
      let n = run (drop at tokens) in
      let some : 0 < length (drop at tokens) = omega (arith, length-drop at tokens) in
      let long : length (take n (drop at tokens)) ≡ n = length-prefix_len is_before_end (drop at tokens) in
      let count : end - at ≡ n = omega (arith, ends) in
      let further : at + (n + 1) ≡ end + 1 = omega (arith, ends) in
      let size : length (take n (drop at tokens)) + 1 ≡ end + 1 - at = omega (arith, ends, long) in
      let dropped : drop (n + 1) (drop at tokens) ≡ drop (end + 1) tokens = drop-drop (n + 1) at tokens ∙ ap (λ (k : ℕ). drop k tokens) further in
      ap (reading_of text) (rows-split (drop at tokens) some)
      ∙ (ap (λ (k : ℕ). before (line_in text (take n (drop at tokens))) k (reading_of text (rows (drop (n + 1) (drop at tokens))))) size
      ∙ (ap (λ (ts : List Token). before (line_in text (take n (drop at tokens))) (end + 1 - at) (reading_of text (rows ts))) dropped
      ∙ ap (λ (k : ℕ). before (line_in text (take k (drop at tokens))) (end + 1 - at) (rest_of text tokens (end + 1))) (sym count)))

  -- an empty row
  pub rest_of-empty : end ≤ at → rest_of text tokens at ≡ record { lines = (rest_of text tokens (end + 1)).lines; used = end + 1 - at + (rest_of text tokens (end + 1)).used }
  rest_of-empty h =
      let none : end - at ≡ 0 = omega (arith, h) in
      rest_of-row ∙ ap (λ (k : ℕ). before (line_in text (take k (drop at tokens))) (end + 1 - at) (rest_of text tokens (end + 1))) none

  module _ (d : Token) (line : Line) (some : at < end) (is_line : line ≡ line_of text (get_or tokens at d).line (take (end - at) (drop at tokens)) (map kept_of (take (end - at) (drop at tokens)))) where
    row_line : line_in text (take (end - at) (drop at tokens)) ≡ Some line
    row_line =
        let count : end - at ≡ run (drop at tokens) = omega (arith, ends) in
        let long : 0 < length (take (end - at) (drop at tokens)) = rw count (omega (arith, length-prefix_len is_before_end (drop at tokens), count, some)) in
        let first : get_or (take (end - at) (drop at tokens)) 0 d ≡ get_or tokens at d =
        let zero_end : 0 < end - at = omega (arith, some) in
        get_or-take (end - at) (drop at tokens) 0 d zero_end ∙ (get_or-drop at tokens 0 d ∙ ap (λ (k : ℕ). get_or tokens k d) (omega arith)) in
        line_in-some text d (take (end - at) (drop at tokens)) long
        ∙ (ap (λ (t : Token). Some (line_of text t.line (take (end - at) (drop at tokens)) (map kept_of (take (end - at) (drop at tokens))))) first ∙ ap (λ (l : Line). Some l) (sym is_line))

    -- a line that goes on
    pub rest_of-line : is_inject line.statement ≡ false → rest_of text tokens at ≡ record { lines = line ∷ (rest_of text tokens (end + 1)).lines; used = end + 1 - at + (rest_of text tokens (end + 1)).used }
    rest_of-line e = rest_of-row ∙ (ap (λ (l : Option Line). before l (end + 1 - at) (rest_of text tokens (end + 1))) row_line ∙ rw e refl)

    -- the line that ends the text
    pub rest_of-inject : is_inject line.statement ≡ true → rest_of text tokens at ≡ record { lines = []; used = end + 1 - at }
    rest_of-inject e = rest_of-row ∙ (ap (λ (l : Option Line). before l (end + 1 - at) (rest_of text tokens (end + 1))) row_line ∙ rw e refl)
