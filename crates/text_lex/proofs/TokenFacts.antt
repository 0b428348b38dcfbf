-- What is known of the tokens of a text, from `lexed text ≡ Tokens tokens`.
use Rattle.std.proofs.Common.{◌≡◌, ℕ, zero, suc, ◌+◌, ◌≤◌, ◌<◌, List, [], ◌∷◌, length, drop, take, get_or, Bool, true, false, arith, refl, ap, sym, ◌∙◌, subst, inl, inr, add-one, ℤ}
use Rattle.std.specs.Prelude.{All}
use Rattle.std.proofs.lemmas.List.{drop-drop, length-take, length-drop}
use Rattle.text_lex.specs.Bytes.{is_name}
use Rattle.text_lex.specs.Pieces.{piece_at, PieceFits}
use Rattle.text_lex.specs.Tokens.{Lexed, Tokens, BadByteAt, TooLargeAt, before, token, lexed_from, lexed, last_end, bytes_of}
use Rattle.text_lex.specs.Division.{IsInRange, line_behind, goes_on}
use Rattle.text_lex.specs.declared.Token.{Token}
use Rattle.text_lex.specs.declared.TokenKind.{TokenKind}
use Rattle.text_lex.specs.declared.TokenKind.TheVariants.{Name, Directive, Number, Comma, Open, Close, Colon, End}
use Rattle.text_lex.specs.declared.pieces.Piece.{Piece}
use Rattle.text_lex.specs.declared.pieces.Piece.TheVariants.{Skips, Ends, Gives, Bad, TooLarge}
use Rattle.text_lex.proofs.KindLaws.{AreOfKind, GivesItsKind, piece_kind}
use Rattle.text_lex.proofs.PieceLaws.{piece_within}
use Rattle.text_lex.proofs.Reading.{piece_read, lexed_from-cons}

-- a token lies inside the text, and its bytes are those of its kind
pub record IsTokenOf (text : List ℕ) (token : Token) : Type 0 where
  pub inside : token.start + token.len ≤ length text
  pub kind : AreOfKind token.kind (bytes_of text token)

-- tokens of a text from a place on: each begins at or behind the one before ends, each stands on the line
-- that the ends before it give, and the last is an end where the line has a byte
abbrev pub AreTokensFrom : List ℕ → ℕ → ℕ → Bool → List Token → Type 0
AreTokensFrom text place line begun [] = begun ≡ false
AreTokensFrom text place line begun (token ∷ tokens) =
    (place ≤ token.start) × (token.line ≡ line) × IsTokenOf text token
    × AreTokensFrom text (token.start + token.len) (line_behind token.kind line) (goes_on token.kind) tokens

-- a token that is read before the rest
before_tokens : (token : Token) (reading : Lexed) (tokens : List Token) → before token reading ≡ Tokens tokens → (rest : List Token) × (reading ≡ Tokens rest) × (tokens ≡ token ∷ rest)
before_tokens token (Tokens rest) tokens e = (rest, refl, cc)
before_tokens token (BadByteAt place line) tokens e = absurd cc
before_tokens token (TooLargeAt place line) tokens e = absurd cc

-- what begins later begins behind an earlier place
from_earlier : (text : List ℕ) (place later line : ℕ) (begun : Bool) (tokens : List Token) → place ≤ later → AreTokensFrom text later line true tokens → AreTokensFrom text place line begun tokens
from_earlier text place later line begun [] h k = absurd cc
from_earlier text place later line begun (t ∷ tokens) h (a, b, c, d) = (omega (arith, h, a), b, c, d)

given_kind : (kind : TokenKind) (byte further : ℕ) (rest : List ℕ) → GivesItsKind byte rest (Gives kind further) → AreOfKind kind (byte ∷ take further rest)
given_kind Name byte further rest k = k
given_kind Directive byte further rest k = k
given_kind (Number value) byte further rest k = k
given_kind Comma byte further rest k = k
given_kind Open byte further rest k = k
given_kind Close byte further rest k = k
given_kind Colon byte further rest k = k
given_kind End byte further rest k = absurd k

-- a token that a piece gives ends no line
given_behind : (kind : TokenKind) (byte further : ℕ) (rest text : List ℕ) (place line : ℕ) (tokens : List Token) → GivesItsKind byte rest (Gives kind further) → AreTokensFrom text place line true tokens → AreTokensFrom text place (line_behind kind line) (goes_on kind) tokens
given_behind Name byte further rest text place line tokens k h = h
given_behind Directive byte further rest text place line tokens k h = h
given_behind (Number value) byte further rest text place line tokens k h = h
given_behind Comma byte further rest text place line tokens k h = h
given_behind Open byte further rest text place line tokens k h = h
given_behind Close byte further rest text place line tokens k h = h
given_behind Colon byte further rest text place line tokens k h = h
given_behind End byte further rest text place line tokens k h = absurd k

-- what is known of the tokens of a rest, as the induction hypothesis
abbrev Holds : List ℕ → ℕ → List ℕ → Type 0
Holds text place rest =
    (left line from : ℕ) (begun : Bool) (tokens : List Token) → left ≤ length rest → from ≤ place + left
    → lexed_from left place line begun rest ≡ Tokens tokens → AreTokensFrom text from line begun tokens

token_here : (kind : TokenKind) (text rest : List ℕ) (byte place line further : ℕ) → byte ∷ rest ≡ drop place text → place + suc (length rest) ≡ length text → further ≤ length rest → AreOfKind kind (byte ∷ take further rest) → IsTokenOf text (token kind line place (further + 1))
token_here kind text rest byte place line further e n fits k = record {
  inside = omega (arith, n, fits);
  kind = subst (AreOfKind kind) (rw add-one (ap (take (suc further)) e)) k;
}

end_here : (text rest : List ℕ) (byte place line : ℕ) → byte ∷ rest ≡ drop place text → place + suc (length rest) ≡ length text → byte ≡ 10 → IsTokenOf text (token End line place 1)
end_here text rest byte place line e n k = record {
  inside = omega (arith, n);
  kind = inr (sym (ap (take 1) e) ∙ ap (λ b. b ∷ []) k);
}

piece_tokens : (p : Piece) (text rest : List ℕ) (byte place line from : ℕ) (begun : Bool) (tokens : List Token) → byte ∷ rest ≡ drop place text → place + suc (length rest) ≡ length text → PieceFits p (length rest) → GivesItsKind byte rest p → Holds text (place + 1) rest → from ≤ place → piece_read p place line rest ≡ Tokens tokens → AreTokensFrom text from line begun tokens
piece_tokens (Skips further) text rest byte place line from begun tokens e n fits k later h r =
    from_earlier text from (place + 1 + further) line begun tokens (omega arith) (later further line (place + 1 + further) true tokens fits (omega arith) r)
piece_tokens Ends text rest byte place line from begun tokens e n fits k later h r =
    let (more, read, all) = before_tokens (token End line place 1) (lexed_from 0 (place + 1) (line + 1) false rest) tokens r in
    subst (AreTokensFrom text from line begun) (sym all) (h, refl, end_here text rest byte place line e n k, later 0 (line + 1) (place + 1) false more (omega arith) (omega arith) read)
piece_tokens (Gives kind further) text rest byte place line from begun tokens e n fits k later h r =
    let (more, read, all) = before_tokens (token kind line place (further + 1)) (lexed_from further (place + 1) line true rest) tokens r in
    subst (AreTokensFrom text from line begun) (sym all) (
      h,
      refl,
      token_here kind text rest byte place line further e n fits (given_kind kind byte further rest k),
      given_behind kind byte further rest text (place + (further + 1)) line more k (later further line (place + (further + 1)) true more fits (omega arith) read),
    )
piece_tokens (Bad further) text rest byte place line from begun tokens e n fits k later h r = absurd cc
piece_tokens TooLarge text rest byte place line from begun tokens e n fits k later h r = absurd cc

last_tokens : (text : List ℕ) (place line from : ℕ) (begun : Bool) → place ≤ length text → from ≤ place → AreTokensFrom text from line begun (last_end begun place line)
last_tokens text place line from true n h = (h, refl, record { inside = omega (arith, n); kind = inl refl }, refl)
last_tokens text place line from false n h = refl

tokens_from : (text rest : List ℕ) (place : ℕ) → rest ≡ drop place text → place + length rest ≡ length text → Holds text place rest
tokens_from text [] place e n left line from begun tokens l h r =
    let same : last_end begun place line ≡ tokens = cc in
    subst (AreTokensFrom text from line begun) same (last_tokens text place line from begun (omega (arith, n)) (omega (arith, l, h)))
tokens_from text (byte ∷ rest) place e n zero line from begun tokens l h r =
    let next : rest ≡ drop (place + 1) text = ap (drop 1) e ∙ drop-drop 1 place text in
    piece_tokens (piece_at byte rest) text rest byte place line from begun tokens e n (piece_within byte rest) (piece_kind byte rest)
    (tokens_from text rest (place + 1) next (omega (arith, n))) (omega (arith, h)) (sym (lexed_from-cons place line byte begun rest) ∙ r)
tokens_from text (byte ∷ rest) place e n (suc left) line from begun tokens l h r =
    let next : rest ≡ drop (place + 1) text = ap (drop 1) e ∙ drop-drop 1 place text in
    from_earlier text from (place + 1 + left) line begun tokens (omega (arith, h))
    (tokens_from text rest (place + 1) next (omega (arith, n)) left line (place + 1 + left) true tokens (omega (arith, l)) (omega arith) r)

-- the tokens of a text, as far as the crates above need them
pub tokens_of : (text : List ℕ) (tokens : List Token) → lexed text ≡ Tokens tokens → AreTokensFrom text 0 1 false tokens
unfolding lexed
tokens_of text tokens r = tokens_from text text 0 refl (omega arith) 0 1 0 false tokens (omega arith) (omega arith) r

token_at : (text : List ℕ) (place line : ℕ) (begun : Bool) (tokens : List Token) (i : ℕ) (d : Token) → AreTokensFrom text place line begun tokens → i < length tokens → IsTokenOf text (get_or tokens i d)
token_at text place line begun [] i d h l = absurd (omega (arith, l))
token_at text place line begun (t ∷ tokens) zero d (from, on, here, rest) l = here
token_at text place line begun (t ∷ tokens) (suc i) d (from, on, here, rest) l =
    token_at text (t.start + t.len) (line_behind t.kind line) (goes_on t.kind) tokens i d rest (omega (arith, l))

-- every token of a text lies inside it, and has the bytes of its kind
pub token_of : (text : List ℕ) (tokens : List Token) → lexed text ≡ Tokens tokens → (i : ℕ) (d : Token) → i < length tokens → IsTokenOf text (get_or tokens i d)
token_of text tokens r i d l = token_at text 0 1 false tokens i d (tokens_of text tokens r) l

pub all_tokens : (text : List ℕ) (tokens : List Token) → lexed text ≡ Tokens tokens → All (IsTokenOf text) tokens
all_tokens text tokens r = λ i d l. token_of text tokens r i d l

-- so that its bytes can be sliced
pub token_inside : (text : List ℕ) (tokens : List Token) → lexed text ≡ Tokens tokens → (i : ℕ) (d : Token) → i < length tokens → (get_or tokens i d).start + (get_or tokens i d).len ≤ length text
token_inside text tokens r i d l = (token_of text tokens r i d l).inside

pub length-bytes_of : (text : List ℕ) (token : Token) → token.start + token.len ≤ length text → length (bytes_of text token) ≡ token.len
length-bytes_of text token h = length-take token.len (drop token.start text) ∙ omega (arith, length-drop token.start text, h)

name_has_a_byte : (bytes : List ℕ) → is_name bytes ≡ true → 1 ≤ length bytes
name_has_a_byte [] e = cc
name_has_a_byte (byte ∷ bytes) e = omega arith

-- a name has at least a byte, and its bytes are a name
pub name_of : (text : List ℕ) (token : Token) → IsTokenOf text token → token.kind ≡ Name → (1 ≤ token.len) × (is_name (bytes_of text token) ≡ true)
name_of text token h e =
    let name : is_name (bytes_of text token) ≡ true = subst (λ kind. AreOfKind kind (bytes_of text token)) e h.kind in
    (omega (arith, name_has_a_byte (bytes_of text token) name, length-bytes_of text token h.inside), name)

-- a number is from -2,147,483,648 to 4,294,967,295
pub number_of : (text : List ℕ) (token : Token) (value : ℤ) → IsTokenOf text token → token.kind ≡ Number value → IsInRange value
number_of text token value h e = subst (λ kind. AreOfKind kind (bytes_of text token)) e h.kind

ends_line : (kind : TokenKind) → goes_on kind ≡ false → kind ≡ End
ends_line Name e = cc
ends_line Directive e = cc
ends_line (Number value) e = cc
ends_line Comma e = cc
ends_line Open e = cc
ends_line Close e = cc
ends_line Colon e = cc
ends_line End e = refl

last_from : (text : List ℕ) (place line : ℕ) (begun : Bool) (tokens : List Token) (i : ℕ) (d : Token) → AreTokensFrom text place line begun tokens → i + 1 ≡ length tokens → (get_or tokens i d).kind ≡ End
last_from text place line begun [] i d h l = absurd (omega (arith, l))
last_from text place line begun (t ∷ []) zero d (from, on, here, rest) l = ends_line t.kind rest
last_from text place line begun (t ∷ (u ∷ tokens)) zero d (from, on, here, rest) l = absurd (omega (arith, l))
last_from text place line begun (t ∷ tokens) (suc i) d (from, on, here, rest) l =
    last_from text (t.start + t.len) (line_behind t.kind line) (goes_on t.kind) tokens i d rest (omega (arith, l))

-- the last token is the end of a line
pub last_is_end : (text : List ℕ) (tokens : List Token) → lexed text ≡ Tokens tokens → (i : ℕ) (d : Token) → i + 1 ≡ length tokens → (get_or tokens i d).kind ≡ End
last_is_end text tokens r i d l = last_from text 0 1 false tokens i d (tokens_of text tokens r) l

-- the next token begins at or behind the end of this one, on the line that it gives
pub record Follows (token next : Token) : Type 0 where
  pub place : token.start + token.len ≤ next.start
  pub line : next.line ≡ line_behind token.kind token.line

next_from : (text : List ℕ) (place line : ℕ) (begun : Bool) (tokens : List Token) (i : ℕ) (d : Token) → AreTokensFrom text place line begun tokens → i + 1 < length tokens → Follows (get_or tokens i d) (get_or tokens (i + 1) d)
next_from text place line begun [] i d h l = absurd (omega (arith, l))
next_from text place line begun (t ∷ []) i d h l = absurd (omega (arith, l))
next_from text place line begun (t ∷ (u ∷ tokens)) zero d (from, on, here, (from', on', here', rest')) l =
    record { place = from'; line = on' ∙ ap (line_behind t.kind) (sym on) }
next_from text place line begun (t ∷ tokens) (suc i) d (from, on, here, rest) l =
    rw add-one (rw add-one at (next_from text (t.start + t.len) (line_behind t.kind line) (goes_on t.kind) tokens i d rest (omega (arith, l))))

-- tokens stand in the order of their places, and their lines rise by one behind each end
pub next_token : (text : List ℕ) (tokens : List Token) → lexed text ≡ Tokens tokens → (i : ℕ) (d : Token) → i + 1 < length tokens → Follows (get_or tokens i d) (get_or tokens (i + 1) d)
next_token text tokens r i d l = next_from text 0 1 false tokens i d (tokens_of text tokens r) l

-- the first token stands on line 1
pub first_line : (text : List ℕ) (tokens : List Token) → lexed text ≡ Tokens tokens → (d : Token) → 0 < length tokens → (get_or tokens 0 d).line ≡ 1
first_line text [] r d l = absurd (omega (arith, l))
first_line text (t ∷ tokens) r d l = (tokens_of text (t ∷ tokens) r).1
