-- A text that is put together from parts is read as their tokens.
use Rattle.std.proofs.Common.{◌≡◌, ℕ, suc, ◌+◌, ◌≤◌, List, [], ◌∷◌, ◌++◌, length, Bool, true, false, arith, refl, ap, ◌∙◌, length-append}
use Rattle.std.proofs.Math.Seq.{drop-append_seam}
use Rattle.text_lex.specs.Pieces.{piece_at}
use Rattle.text_lex.specs.Tokens.{Tokens, before, token, lexed_from}
use Rattle.text_lex.specs.Division.{Part, Blank, Comment, Lexeme, part_bytes, tokens_among}
use Rattle.text_lex.specs.declared.Token.{Token}
use Rattle.text_lex.specs.declared.TokenKind.{TokenKind}
use Rattle.text_lex.specs.declared.TokenKind.TheVariants.{Name, Directive, Number, Comma, Open, Close, Colon, End}
use Rattle.text_lex.specs.declared.pieces.Piece.{Piece}
use Rattle.text_lex.specs.declared.pieces.Piece.TheVariants.{Skips, Ends, Gives}
use Rattle.text_lex.proofs.Reading.{piece_read, lexed_from-cons, lexed_from-left}

-- the bytes of parts
abbrev pub flat : List Part → List ℕ
flat [] = []
flat (part ∷ parts) = part_bytes part ++ flat parts

-- what a token of a kind is found as, with so many bytes behind its first
abbrev pub found : TokenKind → ℕ → Piece
found End further = Ends
found kind further = Gives kind further

-- a token's bytes before the rest of a text; the end of a line is a line feed
abbrev pub IsRead : TokenKind → List ℕ → List ℕ → Type 0
IsRead kind [] rest = ⊥
IsRead End (byte ∷ bytes) rest = (byte ∷ bytes) ≡ (10 ∷ [])
IsRead kind (byte ∷ bytes) rest = piece_at byte (bytes ++ rest) ≡ Gives kind (length bytes)

-- a part before the rest of a text is the piece there
abbrev pub IsPiece : Part → List ℕ → Type 0
IsPiece (Blank byte) rest = piece_at byte rest ≡ Skips 0
IsPiece (Comment bytes) rest = ⊥
IsPiece (Lexeme kind bytes) rest = IsRead kind bytes rest

abbrev pub ArePieces : List Part → Type 0
ArePieces [] = Unit {0}
ArePieces (part ∷ parts) = IsPiece part (flat parts) × ArePieces parts

-- a token before the rest
one : (kind : TokenKind) (place line byte : ℕ) (begun : Bool) (bytes rest : List ℕ) (tokens : List Token)
    → piece_at byte (bytes ++ rest) ≡ Gives kind (length bytes)
    → lexed_from 0 (place + length (byte ∷ bytes)) line true rest ≡ Tokens tokens
    → lexed_from 0 place line begun (byte ∷ (bytes ++ rest)) ≡ Tokens (token kind line place (length (byte ∷ bytes)) ∷ tokens)
one kind place line byte begun bytes rest tokens e f =
    let n = length bytes in
    let whole : n + 1 ≡ suc n = omega arith in
    let end : place + 1 + n ≡ place + suc n = omega arith in
    let room : n ≤ length (bytes ++ rest) = simp length-append (omega arith) in
    let behind : lexed_from n (place + 1) line true (bytes ++ rest) ≡ Tokens tokens =
    lexed_from-left n (place + 1) line (bytes ++ rest) room
    ∙ (ap (λ l. lexed_from 0 (place + 1 + n) line true l) (drop-append_seam bytes rest) ∙ (ap (λ p. lexed_from 0 p line true rest) end ∙ f)) in
    lexed_from-cons place line byte begun (bytes ++ rest)
    ∙ (ap (λ p. piece_read p place line (bytes ++ rest)) e ∙ (ap (before (token kind line place (n + 1))) behind ∙ ap (λ m. Tokens (token kind line place m ∷ tokens)) whole))

end_of_line : (place line byte : ℕ) (begun : Bool) (bytes rest : List ℕ) (tokens : List Token) → (byte ∷ bytes) ≡ (10 ∷ [])
    → lexed_from 0 (place + length (byte ∷ bytes)) (line + 1) false rest ≡ Tokens tokens
    → lexed_from 0 place line begun (byte ∷ (bytes ++ rest)) ≡ Tokens (token End line place (length (byte ∷ bytes)) ∷ tokens)
end_of_line place line byte begun bytes rest tokens e f =
    let none : bytes ≡ [] = cc in
    let feed : byte ≡ 10 = cc in
    rw (none, feed) (lexed_from-cons place line 10 begun rest ∙ ap (before (token End line place 1)) (rw none at f))

-- the parts of a text are its tokens
pub lexed_parts : (parts : List Part) (place line : ℕ) (begun : Bool) → ArePieces parts
    → lexed_from 0 place line begun (flat parts) ≡ Tokens (tokens_among place line begun parts)
lexed_parts [] place line begun h = refl
lexed_parts (Blank byte ∷ parts) place line begun h =
    lexed_from-cons place line byte begun (flat parts)
    ∙ (ap (λ p. piece_read p place line (flat parts)) h.0 ∙ lexed_parts parts (place + 1) line true h.1)
lexed_parts (Comment bytes ∷ parts) place line begun h = absurd h.0
lexed_parts (Lexeme kind [] ∷ parts) place line begun h = absurd h.0
lexed_parts (Lexeme Name (byte ∷ bytes) ∷ parts) place line begun h = one Name place line byte begun bytes (flat parts) _ h.0 (lexed_parts parts (place + length (byte ∷ bytes)) line true h.1)
lexed_parts (Lexeme Directive (byte ∷ bytes) ∷ parts) place line begun h = one Directive place line byte begun bytes (flat parts) _ h.0 (lexed_parts parts (place + length (byte ∷ bytes)) line true h.1)
lexed_parts (Lexeme (Number value) (byte ∷ bytes) ∷ parts) place line begun h = one (Number value) place line byte begun bytes (flat parts) _ h.0 (lexed_parts parts (place + length (byte ∷ bytes)) line true h.1)
lexed_parts (Lexeme Comma (byte ∷ bytes) ∷ parts) place line begun h = one Comma place line byte begun bytes (flat parts) _ h.0 (lexed_parts parts (place + length (byte ∷ bytes)) line true h.1)
lexed_parts (Lexeme Open (byte ∷ bytes) ∷ parts) place line begun h = one Open place line byte begun bytes (flat parts) _ h.0 (lexed_parts parts (place + length (byte ∷ bytes)) line true h.1)
lexed_parts (Lexeme Close (byte ∷ bytes) ∷ parts) place line begun h = one Close place line byte begun bytes (flat parts) _ h.0 (lexed_parts parts (place + length (byte ∷ bytes)) line true h.1)
lexed_parts (Lexeme Colon (byte ∷ bytes) ∷ parts) place line begun h = one Colon place line byte begun bytes (flat parts) _ h.0 (lexed_parts parts (place + length (byte ∷ bytes)) line true h.1)
lexed_parts (Lexeme End (byte ∷ bytes) ∷ parts) place line begun h = end_of_line place line byte begun bytes (flat parts) _ h.0 (lexed_parts parts (place + length (byte ∷ bytes)) (line + 1) false h.1)
