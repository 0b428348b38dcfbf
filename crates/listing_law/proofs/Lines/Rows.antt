-- The rows of a text that is put together from lines: the parts of each, and a line feed.
use Rattle.std.proofs.Common.{◌≡◌, ℕ, suc, ◌+◌, ◌<◌, List, [], ◌∷◌, ◌++◌, length, map, Bool, true, false, arith, refl, sym, ap, ◌∙◌, append_assoc, length-append}
use Rattle.std.specs.Prelude.{Some, if◌then◌else◌}
use Rattle.text_lex.specs.Tokens.{token}
use Rattle.text_lex.specs.Division.{Part, Blank, Comment, Lexeme, part_bytes, line_behind, goes_on, tokens_among}
use Rattle.text_lex.specs.declared.Token.{Token}
use Rattle.text_lex.specs.declared.TokenKind.{TokenKind}
use Rattle.text_lex.specs.declared.TokenKind.TheVariants.{Name, Directive, Number, Comma, Open, Close, Colon, End}
use Rattle.asm_lines.specs.Pieces.{piece_of}
use Rattle.asm_lines.specs.Lines.{is_end, extended, rows, line_of, line_in, Reading, is_inject, before}
use Rattle.listing_law.proofs.Tokens.Parts.{flat}

-- the tokens of the parts of a line, from a place on
abbrev pub row_tokens : (place line : ℕ) → List Part → List Token
row_tokens place line [] = []
row_tokens place line (Blank byte ∷ parts) = row_tokens (place + 1) line parts
row_tokens place line (Comment bytes ∷ parts) = row_tokens (place + length (35 ∷ bytes)) line parts
row_tokens place line (Lexeme kind bytes ∷ parts) = token kind line place (length bytes) ∷ row_tokens (place + length bytes) line parts

-- no part ends the line
abbrev pub IsOpen : Part → Type 0
IsOpen (Lexeme kind bytes) = is_end kind ≡ false
IsOpen _ = Unit {0}

abbrev pub AreOpen : List Part → Type 0
AreOpen [] = Unit {0}
AreOpen (part ∷ parts) = IsOpen part × AreOpen parts

-- the parts of lines, each with its line feed
abbrev pub all_parts : List (List Part) → List Part
all_parts [] = []
all_parts (parts ∷ rest) = parts ++ (Lexeme End (10 ∷ []) ∷ all_parts rest)

-- the line behind a token that ends none
same_line : (kind : TokenKind) (line : ℕ) → is_end kind ≡ false → line_behind kind line ≡ line
same_line Name line e = refl
same_line Directive line e = refl
same_line (Number value) line e = refl
same_line Comma line e = refl
same_line Open line e = refl
same_line Close line e = refl
same_line Colon line e = refl
same_line End line e = absurd cc

pub flat-append : (xs ys : List Part) → flat (xs ++ ys) ≡ flat xs ++ flat ys
flat-append [] ys = refl
flat-append (x ∷ xs) ys = ap (λ l. part_bytes x ++ l) (flat-append xs ys) ∙ sym (append_assoc (part_bytes x) (flat xs) (flat ys))

-- the tokens of a line, its end, and those behind it
pub tokens_line : (parts rest : List Part) (place line : ℕ) (begun : Bool) → AreOpen parts
    → tokens_among place line begun (parts ++ (Lexeme End (10 ∷ []) ∷ rest))
    ≡ row_tokens place line parts ++ (token End line (place + length (flat parts)) 1 ∷ tokens_among (place + length (flat parts) + 1) (line + 1) false rest)
tokens_line [] rest place line begun h = let same : place + 0 ≡ place = omega arith in rw same refl
tokens_line (Blank byte ∷ parts) rest place line begun h =
    let same : place + 1 + length (flat parts) ≡ place + suc (length (flat parts)) = omega arith in
    tokens_line parts rest (place + 1) line true h.1 ∙ rw same refl
tokens_line (Comment bytes ∷ parts) rest place line begun h =
    let same : place + length (35 ∷ bytes) + length (flat parts) ≡ place + length ((35 ∷ bytes) ++ flat parts) = simp length-append (omega arith) in
    tokens_line parts rest (place + length (35 ∷ bytes)) line true h.1 ∙ rw same refl
tokens_line (Lexeme kind bytes ∷ parts) rest place line begun h =
    let same : place + length bytes + length (flat parts) ≡ place + length (bytes ++ flat parts) = simp length-append (omega arith) in
    ap (λ l. token kind line place (length bytes) ∷ tokens_among (place + length bytes) l (goes_on kind) (parts ++ (Lexeme End (10 ∷ []) ∷ rest))) (same_line kind line h.0)
    ∙ (ap (λ l. token kind line place (length bytes) ∷ l) (tokens_line parts rest (place + length bytes) line (goes_on kind) h.1) ∙ rw same refl)

-- tokens that end no line
abbrev pub AreWithin : List Token → Type 0
AreWithin [] = Unit {0}
AreWithin (t ∷ ts) = (is_end t.kind ≡ false) × AreWithin ts

pub row_within : (parts : List Part) (place line : ℕ) → AreOpen parts → AreWithin (row_tokens place line parts)
row_within [] place line h = tt
row_within (Blank byte ∷ parts) place line h = row_within parts (place + 1) line h.1
row_within (Comment bytes ∷ parts) place line h = row_within parts (place + length (35 ∷ bytes)) line h.1
row_within (Lexeme kind bytes ∷ parts) place line h = (h.0, row_within parts (place + length bytes) line h.1)

pub rows_row : (ts rest : List Token) (line place : ℕ) → AreWithin ts → rows (ts ++ (token End line place 1 ∷ rest)) ≡ ts ∷ rows rest
rows_row [] rest line place h = refl
rows_row (t ∷ ts) rest line place h =
    ap (λ b. if b then [] ∷ rows (ts ++ (token End line place 1 ∷ rest)) else extended t (rows (ts ++ (token End line place 1 ∷ rest)))) h.0
    ∙ ap (extended t) (rows_row ts rest line place h.1)

-- tokens on a line
abbrev pub AllOn : ℕ → List Token → Type 0
AllOn line [] = Unit {0}
AllOn line (t ∷ ts) = (t.line ≡ line) × AllOn line ts

pub row_on : (parts : List Part) (place line : ℕ) → AllOn line (row_tokens place line parts)
row_on [] place line = tt
row_on (Blank byte ∷ parts) place line = row_on parts (place + 1) line
row_on (Comment bytes ∷ parts) place line = row_on parts (place + length (35 ∷ bytes)) line
row_on (Lexeme kind bytes ∷ parts) place line = (refl, row_on parts (place + length bytes) line)

-- a row that has a token gives a line, where that is not `.inject`
pub before_line : (text : List ℕ) (line size : ℕ) (ts : List Token) (reading : Reading) → 0 < length ts → AllOn line ts
    → is_inject (line_of line (map (piece_of text) ts)).statement ≡ false
    → (let more : Reading = record { lines = line_of line (map (piece_of text) ts) ∷ reading.lines; used = size + reading.used } in before (line_in text ts) size reading ≡ more)
before_line text line size [] reading some on e = absurd (omega arith)
before_line text line size (t ∷ ts) reading some on e =
    let l = line_of line (map (piece_of text) (t ∷ ts)) in
    ap (λ n. before (Some (line_of n (map (piece_of text) (t ∷ ts)))) size reading) on.0
    ∙ ap (λ b. if b then record { lines = []; used = size } else record { lines = l ∷ reading.lines; used = size + reading.used }) e
