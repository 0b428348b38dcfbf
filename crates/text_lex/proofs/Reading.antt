-- Reading a text from a place on.
use Rattle.std.proofs.Common.{◌≡◌, ℕ, zero, suc, ◌+◌, ◌≤◌, ◌<◌, List, [], ◌∷◌, ◌++◌, length, drop, get_or, Bool, true, false, arith, sym, ap, refl, ◌∙◌}
use Rattle.std.proofs.lemmas.List.{drop_more, drop-drop, drop_all}
use Rattle.text_lex.specs.Pieces.{piece_at}
use Rattle.text_lex.specs.Tokens.{Lexed, Tokens, BadByteAt, TooLargeAt, before, token, lexed_from, lexed, last_end}
use Rattle.text_lex.specs.declared.Token.{Token}
use Rattle.text_lex.specs.declared.TokenKind.TheVariants.{End}
use Rattle.text_lex.specs.declared.pieces.Piece.{Piece}
use Rattle.text_lex.specs.declared.pieces.Piece.TheVariants.{Skips, Ends, Gives, Bad, TooLarge}

-- tokens before what the rest is read as
abbrev pub joined : List Token → Lexed → Lexed
joined [] reading = reading
joined (token ∷ tokens) reading = before token (joined tokens reading)

pub joined_push : (tokens : List Token) (token : Token) (reading : Lexed) → joined (tokens ++ token ∷ []) reading ≡ joined tokens (before token reading)
joined_push [] token reading = refl
joined_push (t ∷ tokens) token reading = ap (before t) (joined_push tokens token reading)

pub joined_tokens : (tokens more : List Token) → joined tokens (Tokens more) ≡ Tokens (tokens ++ more)
joined_tokens [] more = refl
joined_tokens (t ∷ tokens) more = ap (before t) (joined_tokens tokens more)

pub joined_bad : (tokens : List Token) (place line : ℕ) → joined tokens (BadByteAt place line) ≡ BadByteAt place line
joined_bad [] place line = refl
joined_bad (t ∷ tokens) place line = ap (before t) (joined_bad tokens place line)

pub joined_large : (tokens : List Token) (place line : ℕ) → joined tokens (TooLargeAt place line) ≡ TooLargeAt place line
joined_large [] place line = refl
joined_large (t ∷ tokens) place line = ap (before t) (joined_large tokens place line)

-- the bytes that are left of a piece are passed over
pub lexed_from-left : (left place line : ℕ) (rest : List ℕ) → left ≤ length rest → lexed_from left place line true rest ≡ lexed_from 0 (place + left) line true (drop left rest)
lexed_from-left zero place line rest h = ap (λ p. lexed_from 0 p line true rest) (omega arith)
lexed_from-left (suc left) place line [] h = absurd (omega arith)
lexed_from-left (suc left) place line (byte ∷ rest) h =
    lexed_from-left left (place + 1) line rest (omega arith) ∙ ap (λ p. lexed_from 0 p line true (drop left rest)) (omega arith)

-- what a piece at the front makes of what follows it
abbrev pub piece_read : Piece → ℕ → ℕ → List ℕ → Lexed
piece_read (Skips further) place line rest = lexed_from further (place + 1) line true rest
piece_read Ends place line rest = before (token End line place 1) (lexed_from 0 (place + 1) (line + 1) false rest)
piece_read (Gives kind further) place line rest = before (token kind line place (further + 1)) (lexed_from further (place + 1) line true rest)
piece_read (Bad further) place line rest = BadByteAt (place + further) line
piece_read TooLarge place line rest = TooLargeAt place line

pub lexed_from-cons : (place line byte : ℕ) (begun : Bool) (rest : List ℕ) → lexed_from 0 place line begun (byte ∷ rest) ≡ piece_read (piece_at byte rest) place line rest
lexed_from-cons place line byte begun rest =
    elim (piece_at byte rest) as (λ p. elim p [
      | Skips further ↦ lexed_from further (place + 1) line true rest
      | Ends ↦ before (token End line place 1) (lexed_from 0 (place + 1) (line + 1) false rest)
      | Gives kind further ↦ before (token kind line place (further + 1)) (lexed_from further (place + 1) line true rest)
      | Bad further ↦ BadByteAt (place + further) line
      | TooLarge ↦ TooLargeAt place line
    ] ≡ piece_read p place line rest) [
      | Skips further ↦ refl
      | Ends ↦ refl
      | Gives kind further ↦ refl
      | Bad further ↦ refl
      | TooLarge ↦ refl
    ]

-- what is read from a place of a text on is by the piece that begins there
pub lexed_from-piece : (text : List ℕ) (at line : ℕ) (begun : Bool) (piece : Piece) → at < length text → piece ≡ piece_at (get_or text at 0) (drop (at + 1) text) → lexed_from 0 at line begun (drop at text) ≡ piece_read piece at line (drop (at + 1) text)
lexed_from-piece text at line begun piece h e =
    ap (lexed_from 0 at line begun) (drop_more text at 0 h) ∙ (lexed_from-cons at line (get_or text at 0) begun (drop (at + 1) text) ∙ ap (λ p. piece_read p at line (drop (at + 1) text)) (sym e))

-- behind a piece that ends within the text
pub lexed_from-behind : (text : List ℕ) (at line further : ℕ) → further ≤ length (drop (at + 1) text) → lexed_from further (at + 1) line true (drop (at + 1) text) ≡ lexed_from 0 (at + (further + 1)) line true (drop (at + (further + 1)) text)
lexed_from-behind text at line further h =
    let same : at + 1 + further ≡ at + (further + 1) = omega arith in
    lexed_from-left further (at + 1) line (drop (at + 1) text) h
    ∙ (ap (lexed_from 0 (at + 1 + further) line true) (drop-drop further (at + 1) text) ∙ ap (λ p. lexed_from 0 p line true (drop p text)) same)

-- at the end of the text
pub lexed-all : (text : List ℕ) (at line : ℕ) (begun : Bool) (found : List Token) → lexed text ≡ joined found (lexed_from 0 at line begun (drop at text)) → length text ≤ at → lexed text ≡ Tokens (found ++ last_end begun at line)
lexed-all text at line begun found e h =
    e ∙ (ap (λ rest. joined found (lexed_from 0 at line begun rest)) (drop_all at text h) ∙ joined_tokens found (last_end begun at line))
