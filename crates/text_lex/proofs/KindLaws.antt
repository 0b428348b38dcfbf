-- The bytes of a token are those of its kind.
use Rattle.std.proofs.Common.{◌≡◌, ℕ, zero, suc, ◌+◌, ◌≤◌, ◌⊎◌, List, [], ◌∷◌, drop, take, Bool, true, arith, refl, ap, subst, ℤ, pos}
use Rattle.std.specs.Prelude.{nat_lt, neg_ℤ, ◌==◌}
use Rattle.std.specs.List.{prefix_len, take_while, list_all}
use Rattle.std.proofs.lemmas.Bool.{cond_both, eqb-true, eq-eqb, ltb-false, and_from}
use Rattle.std.proofs.lemmas.Int.{ints}
use Rattle.std.proofs.lemmas.List.Sums.{take_while-cons}
use Rattle.text_lex.specs.Bytes.{class_of, is_blank, is_name_byte, is_letter, is_digit, is_name}
use Rattle.text_lex.specs.Numbers.{Numeral, numeral}
use Rattle.text_lex.specs.Pieces.{closed, positive, negative, after_minus, after_dot, piece_of, piece_at}
use Rattle.text_lex.specs.Division.{is_directive, IsInRange}
use Rattle.text_lex.specs.declared.TokenKind.{TokenKind}
use Rattle.text_lex.specs.declared.TokenKind.TheVariants.{Name, Directive, Number, Comma, Open, Close, Colon, End}
use Rattle.text_lex.specs.declared.bytes.ByteClass.{ByteClass}
use Rattle.text_lex.specs.declared.bytes.ByteClass.TheVariants.{Blank, Hash, LineFeed, Letter, Dot, Minus, Digit, Sign, Other}
use Rattle.text_lex.specs.declared.pieces.Piece.{Piece}
use Rattle.text_lex.specs.declared.pieces.Piece.TheVariants.{Ends, Gives, Bad, TooLarge}

-- bytes that a token of this kind has
abbrev pub AreOfKind : TokenKind → List ℕ → Type 0
AreOfKind Name bytes = is_name bytes ≡ true
AreOfKind Directive bytes = is_directive bytes ≡ true
AreOfKind (Number value) bytes = IsInRange value
AreOfKind Comma bytes = bytes ≡ 44 ∷ []
AreOfKind Open bytes = bytes ≡ 40 ∷ []
AreOfKind Close bytes = bytes ≡ 41 ∷ []
AreOfKind Colon bytes = bytes ≡ 58 ∷ []
AreOfKind End bytes = (bytes ≡ []) ⊎ (bytes ≡ 10 ∷ [])

-- a token that a piece gives has the bytes of its kind, and is no end; an end is a line feed
abbrev pub GivesItsKind : ℕ → List ℕ → Piece → Type 0
GivesItsKind byte rest (Gives End further) = ⊥
GivesItsKind byte rest (Gives kind further) = AreOfKind kind (byte ∷ take further rest)
GivesItsKind byte rest Ends = byte ≡ 10
GivesItsKind byte rest _ = Unit {0}

-- what a byte of a class is
abbrev pub IsSign : TokenKind → ℕ → Type 0
IsSign Comma byte = byte ≡ 44
IsSign Open byte = byte ≡ 40
IsSign Close byte = byte ≡ 41
IsSign Colon byte = byte ≡ 58
IsSign _ byte = ⊥

abbrev pub IsOfClass : ℕ → ByteClass → Type 0
IsOfClass byte Blank = is_blank byte ≡ true
IsOfClass byte Hash = byte ≡ 35
IsOfClass byte LineFeed = byte ≡ 10
IsOfClass byte Letter = is_letter byte ≡ true
IsOfClass byte Dot = byte ≡ 46
IsOfClass byte Minus = byte ≡ 45
IsOfClass byte Digit = is_digit byte ≡ true
IsOfClass byte (Sign kind) = IsSign kind byte
IsOfClass byte _ = Unit {0}

pub is_of_class : (byte : ℕ) → IsOfClass byte (class_of byte)
is_of_class byte =
    cond_both (is_blank byte) Blank _ (IsOfClass byte) (λ e. e) (λ e.
    cond_both (byte == 35) Hash _ (IsOfClass byte) (λ e. eqb-true byte 35 e) (λ e.
    cond_both (byte == 10) LineFeed _ (IsOfClass byte) (λ e. eqb-true byte 10 e) (λ e.
    cond_both (is_letter byte) Letter _ (IsOfClass byte) (λ e. e) (λ e.
    cond_both (byte == 46) Dot _ (IsOfClass byte) (λ e. eqb-true byte 46 e) (λ e.
    cond_both (byte == 45) Minus _ (IsOfClass byte) (λ e. eqb-true byte 45 e) (λ e.
    cond_both (is_digit byte) Digit _ (IsOfClass byte) (λ e. e) (λ e.
    cond_both (byte == 44) (Sign Comma) _ (IsOfClass byte) (λ e. eqb-true byte 44 e) (λ e.
    cond_both (byte == 40) (Sign Open) _ (IsOfClass byte) (λ e. eqb-true byte 40 e) (λ e.
    cond_both (byte == 41) (Sign Close) _ (IsOfClass byte) (λ e. eqb-true byte 41 e) (λ e.
    cond_both (byte == 58) (Sign Colon) Other (IsOfClass byte) (λ e. eqb-true byte 58 e) (λ e. tt)))))))))))

-- the longest front that passes a test passes it
pub all_of_front : (p : ℕ → Bool) (bytes : List ℕ) → list_all p (take_while p bytes) ≡ true
all_of_front p [] = refl
all_of_front p (byte ∷ bytes) =
    rw (take_while-cons p byte bytes)
    (cond_both (p byte) (byte ∷ take_while p bytes) [] (λ l. list_all p l ≡ true)
    (λ e. and_from (p byte) (list_all p (take_while p bytes)) e (all_of_front p bytes)) (λ e. refl))

-- a letter and the longest front of name bytes behind it are a name
pub name_here : (byte : ℕ) (rest : List ℕ) → is_letter byte ≡ true → is_name (byte ∷ take (prefix_len is_name_byte rest) rest) ≡ true
name_here byte rest e = and_from (is_letter byte) _ e (all_of_front is_name_byte rest)

closed_kind : (first : ℕ) (bytes : List ℕ) (value : ℤ) (further : ℕ) (behind : List ℕ) → IsInRange value → GivesItsKind first bytes (closed value further behind)
closed_kind first bytes value further [] r = r
closed_kind first bytes value further (byte ∷ behind) r =
    cond_both (is_name_byte byte) (Bad (further + 1)) (Gives (Number value) further) (GivesItsKind first bytes) (λ e. tt) (λ e. r)

pub positive_range : (n : ℕ) → n ≤ 4294967295 → IsInRange (pos n)
positive_range n h = record { least = omega (arith, ints); most = omega (arith, ints, h) }

pub negative_range : (n : ℕ) → n ≤ 2147483648 → IsInRange (neg_ℤ (pos n))
negative_range zero h = positive_range 0 (omega arith)
negative_range (suc n) h = record { least = omega (arith, ints, h); most = omega (arith, ints) }

positive_kind : (byte : ℕ) (rest : List ℕ) (n : Numeral) → GivesItsKind byte rest (positive n rest)
positive_kind byte rest n =
    cond_both (nat_lt 4294967295 n.value) TooLarge (closed (pos n.value) n.further (drop n.further rest)) (GivesItsKind byte rest) (λ e. tt)
    (λ e. closed_kind byte rest (pos n.value) n.further (drop n.further rest) (positive_range n.value (ltb-false 4294967295 n.value e)))

negative_kind : (byte : ℕ) (bytes rest : List ℕ) (n : Numeral) → GivesItsKind byte bytes (negative n rest)
negative_kind byte bytes rest n =
    cond_both (nat_lt 2147483648 n.value) TooLarge (closed (neg_ℤ (pos n.value)) (n.further + 1) (drop n.further rest)) (GivesItsKind byte bytes) (λ e. tt)
    (λ e. closed_kind byte bytes (neg_ℤ (pos n.value)) (n.further + 1) (drop n.further rest) (negative_range n.value (ltb-false 2147483648 n.value e)))

minus_kind : (first : ℕ) (rest : List ℕ) → GivesItsKind first rest (after_minus rest)
minus_kind first [] = tt
minus_kind first (byte ∷ rest) =
    cond_both (is_digit byte) (negative (numeral byte rest) rest) (Bad 0) (GivesItsKind first (byte ∷ rest))
    (λ e. negative_kind first (byte ∷ rest) rest (numeral byte rest)) (λ e. tt)

dot_kind : (first : ℕ) (rest : List ℕ) → first ≡ 46 → GivesItsKind first rest (after_dot rest)
dot_kind first [] e = tt
dot_kind first (byte ∷ rest) e =
    cond_both (is_letter byte) (Gives Directive (1 + prefix_len is_name_byte rest)) (Bad 0) (GivesItsKind first (byte ∷ rest))
    (λ l.
    let more : suc (prefix_len is_name_byte rest) ≡ 1 + prefix_len is_name_byte rest = omega arith in
    and_from (first == 46) (is_name (take (1 + prefix_len is_name_byte rest) (byte ∷ rest))) (eq-eqb first 46 e)
    (subst (λ n. is_name (take n (byte ∷ rest)) ≡ true) more (name_here byte rest l))) (λ l. tt)

sign_kind : (kind : TokenKind) (byte : ℕ) (rest : List ℕ) → IsSign kind byte → GivesItsKind byte rest (Gives kind 0)
sign_kind Comma byte rest e = ap (λ b. b ∷ []) e
sign_kind Open byte rest e = ap (λ b. b ∷ []) e
sign_kind Close byte rest e = ap (λ b. b ∷ []) e
sign_kind Colon byte rest e = ap (λ b. b ∷ []) e
sign_kind Name byte rest e = absurd e
sign_kind Directive byte rest e = absurd e
sign_kind (Number value) byte rest e = absurd e
sign_kind End byte rest e = absurd e

class_kind : (class : ByteClass) (byte : ℕ) (rest : List ℕ) → IsOfClass byte class → GivesItsKind byte rest (piece_of class byte rest)
class_kind Blank byte rest e = tt
class_kind Hash byte rest e = tt
class_kind LineFeed byte rest e = e
class_kind Letter byte rest e = name_here byte rest e
class_kind Dot byte rest e = dot_kind byte rest e
class_kind Minus byte rest e = minus_kind byte rest
class_kind Digit byte rest e = positive_kind byte rest (numeral byte rest)
class_kind (Sign kind) byte rest e = sign_kind kind byte rest e
class_kind Other byte rest e = tt

-- a token at the front of a text has the bytes of its kind
pub piece_kind : (byte : ℕ) (rest : List ℕ) → GivesItsKind byte rest (piece_at byte rest)
piece_kind byte rest = class_kind (class_of byte) byte rest (is_of_class byte)
