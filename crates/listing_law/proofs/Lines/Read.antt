-- A text of items is read as their lines.
use Rattle.std.proofs.Common.{◌≡◌, ℕ, ◌+◌, min, List, [], ◌∷◌, ◌++◌, length, map, false, arith, refl, sym, ap, ◌∙◌, append_assoc, length-append}
use Rattle.text_lex.specs.Tokens.{Tokens, token, lexed}
use Rattle.text_lex.specs.Division.{Part, Lexeme, tokens_among}
use Rattle.text_lex.specs.declared.Token.{Token}
use Rattle.text_lex.specs.declared.TokenKind.TheVariants.{End}
use Rattle.asm_lines.specs.Language.{Line}
use Rattle.asm_lines.specs.Pieces.{piece_of}
use Rattle.asm_lines.specs.Lines.{Reading, rows, line_of, line_in, is_inject, before, reading_of, read}
use Rattle.listing_law.proofs.Tokens.Parts.{flat, ArePieces, lexed_parts}
use Rattle.listing_law.proofs.Lines.Rows.{row_tokens, flat-append, tokens_line, row_within, rows_row, row_on, before_line}
use Rattle.listing_law.proofs.Tokens.Spelled.{spelled_here, part_pieces, pieces_here}
use Rattle.listing_law.proofs.Lines.Items.{Item, item_parts, IsItem, item_line, no_inject, item_read}
use Rattle.listing_law.proofs.Lines.Pieces.{item_pieces, item_open, item_some}

abbrev pub line_end : Part
line_end = Lexeme End (10 ∷ [])

-- the parts of items, each with its line feed
abbrev pub items_parts : List Item → List Part
items_parts [] = []
items_parts (item ∷ items) = item_parts item ++ (line_end ∷ items_parts items)

abbrev pub AreItems : List Item → Type 0
AreItems [] = Unit {0}
AreItems (item ∷ items) = IsItem item × AreItems items

items_pieces : (items : List Item) → AreItems items → ArePieces (items_parts items)
items_pieces [] h = tt
items_pieces (item ∷ items) h = item_pieces (line_end ∷ items_parts items) refl (refl, items_pieces items h.1) item h.0

-- the tokens of a text of items
abbrev pub items_tokens : List Item → List Token
items_tokens items = tokens_among 0 1 false (items_parts items)

pub lexed_items : (items : List Item) → AreItems items → lexed (flat (items_parts items)) ≡ Tokens (items_tokens items)
unfolding lexed
lexed_items items h = lexed_parts (items_parts items) 0 1 false (items_pieces items h)

-- the lines of items, from a line number on
abbrev pub item_lines : ℕ → List Item → List Line
item_lines line [] = []
item_lines line (item ∷ items) = item_line line item ∷ item_lines (line + 1) items

module _ (text : List ℕ) where
  -- the lines of items, up to the last token
  abbrev all_lines : ℕ → List Item → ℕ → Reading
  all_lines line items used = record { lines = item_lines line items; used = used }

  pub items_read : (items : List Item) → AreItems items → (front : List ℕ) (place line : ℕ) → text ≡ front ++ flat (items_parts items) → place ≡ length front
      → (let tokens = tokens_among place line false (items_parts items) in reading_of text (rows tokens) ≡ all_lines line items (length tokens))
  items_read [] h front place line e p = refl
  items_read (item ∷ items) h front place line e p =
      let parts = item_parts item in
      let more = items_parts items in
      let size : ℕ = length (flat parts) in
      let ts = row_tokens place line parts in
      let last = token End line (place + size) 1 in
      let tail = tokens_among (place + size + 1) (line + 1) false more in
      let cut : tokens_among place line false (items_parts (item ∷ items)) ≡ ts ++ (last ∷ tail) = tokens_line parts more place line false (item_open item) in
      let whole : text ≡ front ++ (flat parts ++ (10 ∷ flat more)) = e ∙ ap (λ l. front ++ l) (flat-append parts (line_end ∷ more)) in
      let next : text ≡ ((front ++ flat parts) ++ 10 ∷ []) ++ flat more =
      whole ∙ (sym (append_assoc front (flat parts) (10 ∷ flat more)) ∙ sym (append_assoc (front ++ flat parts) (10 ∷ []) (flat more))) in
      let place_next : place + size + 1 ≡ length ((front ++ flat parts) ++ 10 ∷ []) = simp length-append (omega (arith, p)) in
      let rest = items_read items h.1 ((front ++ flat parts) ++ 10 ∷ []) (place + size + 1) (line + 1) next place_next in
      let means : line_of line (map (piece_of text) ts) ≡ item_line line item =
      ap (line_of line) (pieces_here text parts place line (spelled_here parts text front (10 ∷ flat more) place whole p)) ∙ item_read line item h.0 in
      let behind = reading_of text (rows tail) in
      let here = before_line text line (length ts + 1) ts behind (item_some item place line) (row_on parts place line) (ap (λ l. is_inject l.statement) means ∙ no_inject item) in
      let all : reading_of text (rows (tokens_among place line false (items_parts (item ∷ items)))) ≡ before (line_in text ts) (length ts + 1) behind =
      ap (λ l. reading_of text (rows l)) cut ∙ ap (reading_of text) (rows_row ts tail line (place + size) (row_within parts place line (item_open item))) in
      let count : length ts + 1 + length tail ≡ length (ts ++ (last ∷ tail)) = simp length-append (omega arith) in
      let used : length ts + 1 + length tail ≡ length (tokens_among place line false (items_parts (item ∷ items))) = count ∙ ap length (sym cut) in
      let Before : Line → Reading → Reading = λ l r. record { lines = l ∷ r.lines; used = length ts + 1 + r.used } in
      all ∙ (here ∙ (ap (λ l. Before l behind) means ∙ (ap (Before (item_line line item)) rest ∙ ap (all_lines line (item ∷ items)) used)))

ended : ℕ → Reading → Reading
ended total r = record { lines = r.lines; used = min total r.used }

same_least : (n : ℕ) → min n n ≡ n
same_least n = omega arith

-- what the text of items is read as
pub text_read : (items : List Item) → AreItems items
    → (let reading : Reading = record { lines = item_lines 1 items; used = length (items_tokens items) } in read (flat (items_parts items)) (items_tokens items) ≡ reading)
unfolding ended
text_read items h =
    let Made : ℕ → Reading = λ n. record { lines = item_lines 1 items; used = n } in
    ap (ended (length (items_tokens items))) (items_read (flat (items_parts items)) items h [] 0 1 refl refl) ∙ ap Made (same_least (length (items_tokens items)))
