-- Names, directives and numbers are read as such, where no byte of a name stands behind them.
use Rattle.std.proofs.Common.{◌≡◌, ◌≢◌, ℕ, suc, ◌+◌, ◌^◌, ◌<◌, ◌≤◌, List, [], ◌∷◌, ◌++◌, length, drop, Bool, true, false, cond, decimal, arith, refl, ap, subst, ◌∙◌, ℤ, pos, negsuc}
use Rattle.std.specs.Prelude.{◌&&◌, ◌==◌, nat_le}
use Rattle.std.specs.List.{list_all, prefix_len, take_while}
use Rattle.std.specs.Fmt.{signed_decimal}
use Rattle.std.proofs.lemmas.Bool.{and_parts, leb-true, ne_eqb, le-ltb}
use Rattle.std.proofs.lemmas.Bool.Decides.{nat_tests}
use Rattle.std.proofs.lemmas.Fmt.{decimal_nonempty}
use Rattle.std.proofs.Math.Seq.{drop-append_seam}
use Rattle.text_lex.specs.Bytes.{class_of, is_digit, is_hex_digit, is_letter, is_name, is_name_byte}
use Rattle.text_lex.specs.Numbers.{Numeral, begins_hex, hex_numeral, decimal_numeral, numeral}
use Rattle.text_lex.specs.Pieces.{closed, positive, negative, piece_of}
use Rattle.text_lex.specs.Division.{BeginsNoName}
use Rattle.text_lex.specs.declared.TokenKind.TheVariants.{Name, Directive, Number}
use Rattle.text_lex.specs.declared.bytes.ByteClass.{ByteClass}
use Rattle.text_lex.specs.declared.bytes.ByteClass.TheVariants as class
use Rattle.text_lex.specs.declared.pieces.Piece.TheVariants.{Gives, Bad, TooLarge}
use Rattle.listing_law.proofs.Tokens.Numerals.{below_at, BeginsNot, prefix_whole, while_whole, no_digit, IsDecimalOf, decimal_is}
use Rattle.listing_law.proofs.Tokens.Parts.{IsRead}

-- one test or not the other
abbrev implies : Bool → Bool → Bool
implies true b = b
implies false b = true

implied : (a b : Bool) → a ≡ true → implies a b ≡ true → b ≡ true
implied true b e f = f
implied false b e f = absurd cc

-- The class of a first byte.

abbrev is_letter_class : ByteClass → Bool
is_letter_class class.Letter = true
is_letter_class _ = false

abbrev is_digit_class : ByteClass → Bool
is_digit_class class.Digit = true
is_digit_class _ = false

letter_class : (c : ByteClass) → is_letter_class c ≡ true → c ≡ class.Letter
letter_class class.Letter e = refl
letter_class _ e = absurd cc

digit_class : (c : ByteClass) → is_digit_class c ≡ true → c ≡ class.Digit
digit_class class.Digit e = refl
digit_class _ e = absurd cc

letter_small : (byte : ℕ) → is_letter byte ≡ true → byte < 256
letter_small byte h = grind (arith, nat_tests)

digit_small : (byte : ℕ) → is_digit byte ≡ true → byte < 58
digit_small byte h = let parts = and_parts (nat_le 48 byte) (nat_le byte 57) h in let most = leb-true byte 57 parts.1 in omega (arith, most)

class_of_letter : (byte : ℕ) → is_letter byte ≡ true → class_of byte ≡ class.Letter
class_of_letter byte h =
    letter_class (class_of byte) (implied (is_letter byte) (is_letter_class (class_of byte)) h (below_at 256 (λ b. implies (is_letter b) (is_letter_class (class_of b))) byte refl (letter_small byte h)))

class_of_digit : (byte : ℕ) → is_digit byte ≡ true → class_of byte ≡ class.Digit
class_of_digit byte h =
    digit_class (class_of byte) (implied (is_digit byte) (is_digit_class (class_of byte)) h (below_at 58 (λ b. implies (is_digit b) (is_digit_class (class_of b))) byte refl (digit_small byte h)))

no_name : (rest : List ℕ) → BeginsNoName rest → BeginsNot is_name_byte rest
no_name [] h = tt
no_name (byte ∷ bytes) h = h

-- Names and directives.

pub name_read : (bytes rest : List ℕ) → is_name bytes ≡ true → BeginsNoName rest → IsRead Name bytes rest
name_read [] rest h b = absurd cc
name_read (byte ∷ bytes) rest h b =
    let parts = and_parts (is_letter byte) (list_all is_name_byte bytes) h in
    ap (λ c. piece_of c byte (bytes ++ rest)) (class_of_letter byte parts.0)
    ∙ ap (Gives Name) (prefix_whole is_name_byte bytes rest parts.1 (no_name rest b))

pub directive_read : (bytes rest : List ℕ) → is_name bytes ≡ true → BeginsNoName rest → IsRead Directive (46 ∷ bytes) rest
directive_read [] rest h b = absurd cc
directive_read (byte ∷ bytes) rest h b =
    let parts = and_parts (is_letter byte) (list_all is_name_byte bytes) h in
    let whole = prefix_whole is_name_byte bytes rest parts.1 (no_name rest b) in
    let count : 1 + prefix_len is_name_byte (bytes ++ rest) ≡ suc (length bytes) = omega (arith, whole) in
    ap (λ t. cond t (Gives Directive (1 + prefix_len is_name_byte (bytes ++ rest))) (Bad 0)) parts.0 ∙ ap (Gives Directive) count

-- Numbers.

-- nothing, or no `x` first
abbrev BeginsNoX : List ℕ → Type 0
BeginsNoX [] = Unit {0}
BeginsNoX (byte ∷ bytes) = byte ≢ 120

and_false : (b c : Bool) → c ≡ false → (b && c) ≡ false
and_false true c e = e
and_false false c e = refl

no_hex : (byte : ℕ) (rest : List ℕ) → BeginsNoX rest → begins_hex byte rest ≡ false
no_hex byte [] h = refl
no_hex byte (next ∷ []) h = refl
no_hex byte (next ∷ digit ∷ rest) h = and_false (byte == 48) ((next == 120) && is_hex_digit digit) (ap (λ t. t && is_hex_digit digit) (ne_eqb next 120 h))

no_x_behind : (rest : List ℕ) → BeginsNoName rest → BeginsNoX rest
no_x_behind [] h = tt
no_x_behind (byte ∷ bytes) h = λ e. let no : is_name_byte 120 ≡ false = subst (λ b. is_name_byte b ≡ false) e h in absurd cc

no_x : (ds rest : List ℕ) → list_all is_digit ds ≡ true → BeginsNoName rest → BeginsNoX (ds ++ rest)
no_x [] rest h b = no_x_behind rest b
no_x (d ∷ ds) rest h b = λ e. let no : is_digit 120 ≡ true = subst (λ x. is_digit x ≡ true) e (and_parts (is_digit d) (list_all is_digit ds) h).0 in absurd cc

closed_read : (value : ℤ) (further : ℕ) (rest : List ℕ) → BeginsNoName rest → closed value further rest ≡ Gives (Number value) further
closed_read value further [] h = refl
closed_read value further (byte ∷ bytes) h = ap (λ t. cond t (Bad (further + 1)) (Gives (Number value) further)) h

-- the digits of a decimal number
decimal_numeral_is : (n d : ℕ) (ds rest : List ℕ) → IsDecimalOf n (d ∷ ds) → BeginsNoName rest
    → (let whole : Numeral = record { value = n; further = length ds } in numeral d (ds ++ rest) ≡ whole)
decimal_numeral_is n d ds rest h b =
    let parts = and_parts (is_digit d) (list_all is_digit ds) h.digits in
    let digits = while_whole is_digit ds rest parts.1 (no_digit rest b) in
    ap (λ t. cond t (hex_numeral (take_while is_hex_digit (drop 1 (ds ++ rest)))) (decimal_numeral d (take_while is_digit (ds ++ rest)))) (no_hex d (ds ++ rest) (no_x ds rest parts.1 b))
    ∙ (ap (decimal_numeral d) digits ∙ rw h.worth refl)

pub positive_read : (n further : ℕ) (bytes rest : List ℕ) → n < 2 ^ 32 → drop further bytes ≡ rest → BeginsNoName rest
    → positive (record { value = n; further = further }) bytes ≡ Gives (Number (pos n)) further
positive_read n further bytes rest lt e b =
    let small : n ≤ 4294967295 = omega arith in
    ap (λ t. cond t TooLarge (closed (pos n) further (drop further bytes))) (le-ltb 4294967295 n small)
    ∙ (ap (closed (pos n) further) e ∙ closed_read (pos n) further rest b)

pub digits_read : (n : ℕ) (ds rest : List ℕ) → n < 2 ^ 32 → 0 < length ds → IsDecimalOf n ds → BeginsNoName rest → IsRead (Number (pos n)) ds rest
digits_read n [] rest lt some h b = absurd (omega arith)
digits_read n (d ∷ ds) rest lt some h b =
    let parts = and_parts (is_digit d) (list_all is_digit ds) h.digits in
    ap (λ c. piece_of c d (ds ++ rest)) (class_of_digit d parts.0)
    ∙ (ap (λ m. positive m (ds ++ rest)) (decimal_numeral_is n d ds rest h b) ∙ positive_read n (length ds) (ds ++ rest) rest lt (drop-append_seam ds rest) b)

pub decimal_read : (n : ℕ) (rest : List ℕ) → n < 2 ^ 32 → BeginsNoName rest → IsRead (Number (pos n)) (decimal n) rest
decimal_read n rest lt b = let wide : n < 2 ^ 64 = omega arith in digits_read n (decimal n) rest lt (decimal_nonempty n wide) (decimal_is n wide) b

negative_digits : (n : ℕ) (ds rest : List ℕ) → suc n ≤ 2147483648 → 0 < length ds → IsDecimalOf (suc n) ds → BeginsNoName rest → IsRead (Number (negsuc n)) (45 ∷ ds) rest
negative_digits n [] rest lt some h b = absurd (omega arith)
negative_digits n (d ∷ ds) rest lt some h b =
    let parts = and_parts (is_digit d) (list_all is_digit ds) h.digits in
    let count : length ds + 1 ≡ suc (length ds) = omega arith in
    ap (λ t. cond t (negative (numeral d (ds ++ rest)) (ds ++ rest)) (Bad 0)) parts.0
    ∙ (ap (λ m. negative m (ds ++ rest)) (decimal_numeral_is (suc n) d ds rest h b)
    ∙ (ap (λ t. cond t TooLarge (closed (negsuc n) (length ds + 1) (drop (length ds) (ds ++ rest)))) (le-ltb 2147483648 (suc n) lt)
    ∙ (ap (closed (negsuc n) (length ds + 1)) (drop-append_seam ds rest) ∙ (closed_read (negsuc n) (length ds + 1) rest b ∙ ap (Gives (Number (negsuc n))) count))))

pub signed_read : (imm : ℤ) (rest : List ℕ) → ((n : ℕ) → imm ≡ pos n → n < 2 ^ 32) → ((n : ℕ) → imm ≡ negsuc n → suc n ≤ 2147483648) → BeginsNoName rest → IsRead (Number imm) (signed_decimal imm) rest
signed_read (pos n) rest p q b = decimal_read n rest (p n refl) b
signed_read (negsuc n) rest p q b =
    let small = q n refl in
    let wide : suc n < 2 ^ 64 = omega (arith, small) in
    negative_digits n (decimal (suc n)) rest small (decimal_nonempty (suc n) wide) (decimal_is (suc n) wide) b
