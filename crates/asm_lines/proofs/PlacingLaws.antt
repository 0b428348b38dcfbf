-- Which lines place something, a row after the other.
use Rattle.std.proofs.Common.{◌≡◌, ℕ, ◌+◌, ◌-◌, ◌<◌, ◌≤◌, List, [], ◌∷◌, ◌++◌, Bool, false, take, drop, length, map, arith, sym, ◌∙◌, ap, refl, append_assoc}
use Rattle.std.specs.Prelude.{Some}
use Rattle.std.proofs.lemmas.List.{drop-drop, length-drop}
use Rattle.std.proofs.lemmas.List.Folds.{length-prefix_len}
use Rattle.text_lex.specs.declared.Token.{Token}
use Rattle.asm_lines.specs.Pieces.{piece_of}
use Rattle.asm_lines.specs.Kept.{pieces_said}
use Rattle.asm_lines.specs.declared.pieces.Piece.{Piece as KeptPiece}
use Rattle.asm_lines.specs.Lines.{is_before_end, rows}
use Rattle.asm_lines.specs.declared.pieces.Piece.TheVariants.{Is}
use Rattle.asm_lines.specs.declared.pieces.Operand.TheVariants.{Named}
use Rattle.asm_lines.specs.Placing.{has_label, places_something, placing_row, placing_lines}
use Rattle.asm_lines.proofs.RowLaws.{run, rows-split}

some_row : (text : List ℕ) (ts : List Token) → 0 < length ts → placing_row text ts ≡ Some (places_something (map (piece_of text) ts))
some_row text [] h = absurd (omega arith)
some_row text (t ∷ ts) h = refl

module _ (text : List ℕ) (tokens : List Token) (at end : ℕ) (inside : at < length tokens) (ends : end ≡ at + run (drop at tokens)) where
  rows_here : rows (drop at tokens) ≡ take (end - at) (drop at tokens) ∷ rows (drop (end + 1) tokens)
  rows_here =
      let n = run (drop at tokens) in
      let some : 0 < length (drop at tokens) = omega (arith, length-drop at tokens) in
      let count : n ≡ end - at = omega (arith, ends) in
      let further : at + (n + 1) ≡ end + 1 = omega (arith, ends) in
      rows-split (drop at tokens) some
      ∙ (ap (λ ts. take n (drop at tokens) ∷ rows ts) (drop-drop (n + 1) at tokens ∙ ap (λ (k : ℕ). drop k tokens) further)
      ∙ ap (λ (k : ℕ). take k (drop at tokens) ∷ rows (drop (end + 1) tokens)) count)

  -- behind an empty row
  pub placing-empty : end ≤ at → placing_lines text (drop at tokens) ≡ placing_lines text (drop (end + 1) tokens)
  placing-empty h = let none : end - at ≡ 0 = omega (arith, h) in rw (rows_here, none) refl

  -- a line, and what is behind it
  pub placing-line : at < end → placing_lines text (drop at tokens) ≡ places_something (map (piece_of text) (take (end - at) (drop at tokens))) ∷ placing_lines text (drop (end + 1) tokens)
  placing-line h =
      let count : end - at ≡ run (drop at tokens) = omega (arith, ends) in
      let long : 0 < length (take (end - at) (drop at tokens)) = rw count (omega (arith, length-prefix_len is_before_end (drop at tokens), count, h)) in
      let row = some_row text (take (end - at) (drop at tokens)) long in
      rw (rows_here, row) refl

-- a line more
pub continued : (found new : List Bool) (b : Bool) (rest next whole : List Bool) → new ≡ found ++ b ∷ [] → rest ≡ b ∷ next → found ++ rest ≡ whole → new ++ next ≡ whole
continued found new b rest next whole a e h =
    ap (λ (ys : List Bool). ys ++ next) a ∙ (append_assoc found (b ∷ []) next ∙ (ap (λ l. found ++ l) (sym e) ∙ h))

-- pieces behind the first two
pub said_behind : (text : List ℕ) (ps : List KeptPiece) → pieces_said text (drop 2 ps) ≡ drop 2 (pieces_said text ps)
said_behind text [] = refl
said_behind text (p ∷ []) = refl
said_behind text (p ∷ q ∷ ps) = refl

-- one piece is no label
pub no_label : (text : List ℕ) (ps : List KeptPiece) → length ps < 2 → false ≡ has_label (pieces_said text ps)
no_label text [] h = refl
no_label text (Is (Named s) ∷ []) h = refl
no_label text (p ∷ []) h = refl
no_label text (p ∷ q ∷ ps) h = absurd (omega (arith, h))
