-- The tokens of parts are spelled as the parts are, and so are their pieces.
use Rattle.std.proofs.Common.{◌≡◌, ℕ, ◌+◌, List, [], ◌∷◌, ◌++◌, length, take, drop, map, arith, refl, sym, ap, ◌∙◌, append_assoc, length-append}
use Rattle.text_lex.specs.Division.{Part, Blank, Comment, Lexeme}
use Rattle.asm_lines.specs.Language.{Piece}
use Rattle.asm_lines.specs.Pieces.{piece_at, piece_of}
use Rattle.listing_law.proofs.Tokens.Parts.{flat}
use Rattle.listing_law.proofs.Lines.Rows.{row_tokens}

-- each token among parts has its bytes at its place of the text
abbrev pub AreSpelled : List ℕ → ℕ → List Part → Type 0
AreSpelled text place [] = Unit {0}
AreSpelled text place (Blank byte ∷ parts) = AreSpelled text (place + 1) parts
AreSpelled text place (Comment bytes ∷ parts) = AreSpelled text (place + length (35 ∷ bytes)) parts
AreSpelled text place (Lexeme kind bytes ∷ parts) = (take (length bytes) (drop place text) ≡ bytes) × AreSpelled text (place + length bytes) parts

pub drop_front : {T : Type 0} (xs ys : List T) → drop (length xs) (xs ++ ys) ≡ ys
drop_front [] ys = refl
drop_front (x ∷ xs) ys = drop_front xs ys

pub take_front : {T : Type 0} (xs ys : List T) → take (length xs) (xs ++ ys) ≡ xs
take_front [] ys = refl
take_front (x ∷ xs) ys = ap (λ l. x ∷ l) (take_front xs ys)

behind : (text front bytes more rest : List ℕ) → text ≡ front ++ ((bytes ++ more) ++ rest) → text ≡ (front ++ bytes) ++ (more ++ rest)
behind text front bytes more rest e = e ∙ (ap (λ l. front ++ l) (append_assoc bytes more rest) ∙ sym (append_assoc front bytes (more ++ rest)))

further : (place : ℕ) (front bytes : List ℕ) → place ≡ length front → place + length bytes ≡ length (front ++ bytes)
further place front bytes e = simp length-append (omega (arith, e))

pub spelled_here : (parts : List Part) (text front rest : List ℕ) (place : ℕ) → text ≡ front ++ (flat parts ++ rest) → place ≡ length front → AreSpelled text place parts
spelled_here [] text front rest place e p = tt
spelled_here (Blank byte ∷ parts) text front rest place e p =
    spelled_here parts text (front ++ byte ∷ []) rest (place + 1) (behind text front (byte ∷ []) (flat parts) rest e) (further place front (byte ∷ []) p)
spelled_here (Comment bytes ∷ parts) text front rest place e p =
    spelled_here parts text (front ++ (35 ∷ bytes)) rest (place + length (35 ∷ bytes)) (behind text front (35 ∷ bytes) (flat parts) rest e) (further place front (35 ∷ bytes) p)
spelled_here (Lexeme kind bytes ∷ parts) text front rest place e p =
    let next = behind text front bytes (flat parts) rest e in
    let here : drop place text ≡ bytes ++ (flat parts ++ rest) =
    ap (λ n. drop n text) p ∙ (ap (drop (length front)) (next ∙ append_assoc front bytes (flat parts ++ rest)) ∙ drop_front front (bytes ++ (flat parts ++ rest))) in (
      ap (take (length bytes)) here ∙ take_front bytes (flat parts ++ rest),
      spelled_here parts text (front ++ bytes) rest (place + length bytes) next (further place front bytes p),
    )

-- the pieces of parts
abbrev pub part_pieces : List Part → List Piece
part_pieces [] = []
part_pieces (Blank byte ∷ parts) = part_pieces parts
part_pieces (Comment bytes ∷ parts) = part_pieces parts
part_pieces (Lexeme kind bytes ∷ parts) = piece_at kind bytes ∷ part_pieces parts

pub pieces_here : (text : List ℕ) (parts : List Part) (place line : ℕ) → AreSpelled text place parts → map (piece_of text) (row_tokens place line parts) ≡ part_pieces parts
pieces_here text [] place line h = refl
pieces_here text (Blank byte ∷ parts) place line h = pieces_here text parts (place + 1) line h
pieces_here text (Comment bytes ∷ parts) place line h = pieces_here text parts (place + length (35 ∷ bytes)) line h
pieces_here text (Lexeme kind bytes ∷ parts) place line h =
    ap (λ spelled. piece_at kind spelled ∷ map (piece_of text) (row_tokens (place + length bytes) line parts)) h.0
    ∙ ap (λ ps. piece_at kind bytes ∷ ps) (pieces_here text parts (place + length bytes) line h.1)
