-- A text that has tokens is divided into them, blanks and comments.
use Rattle.std.proofs.Common.{◌≡◌, ℕ, zero, suc, ◌+◌, ◌≤◌, ◌⊎◌, inl, inr, List, [], ◌∷◌, ◌++◌, length, drop, take, Bool, true, false, arith, refl, sym, ap, subst, ◌∙◌, ℤ, pos}
use Rattle.std.specs.Prelude.{nat_lt, nat_le, neg_ℤ, ◌&&◌, ◌==◌}
use Rattle.std.specs.List.{prefix_len, take_while, list_all}
use Rattle.std.proofs.lemmas.Bool.{cond_both, and_parts, and_from, eqb-true, eq-eqb, leb-true, lt-leb, ne_eqb, ltb-false, not-false}
use Rattle.std.proofs.lemmas.List.{length-take-le, take-append-drop, length-drop}
use Rattle.std.proofs.lemmas.List.Folds.{length-prefix_len}
use Rattle.std.proofs.lemmas.List.Sums.{take_while-cons}
use Rattle.text_lex.specs.Bytes.{class_of, is_blank, is_name_byte, is_letter, is_digit, is_hex_digit, is_name, is_not_line_feed}
use Rattle.text_lex.specs.Numbers.{numeral, begins_hex, hex_numeral, decimal_numeral, value_of}
use Rattle.text_lex.specs.Pieces.{closed, positive, negative, after_minus, after_dot, piece_of, piece_at, PieceFits}
use Rattle.text_lex.specs.Tokens.{Lexed, Tokens, BadByteAt, TooLargeAt, before, token, lexed_from, lexed}
use Rattle.text_lex.specs.Division.{is_directive, IsDecimal, IsHexadecimal, IsUnsigned, Spells, IsLongest, IsInRange, IsSound, BeginsAtEnd, Part, Blank, Comment, Lexeme, Covers, line_behind, goes_on, tokens_among, IsDivided}
use Rattle.text_lex.specs.declared.Token.{Token}
use Rattle.text_lex.specs.declared.TokenKind.{TokenKind}
use Rattle.text_lex.specs.declared.TokenKind.TheVariants.{Name, Directive, Number, Comma, Open, Close, Colon, End}
use Rattle.text_lex.specs.declared.bytes.ByteClass.{ByteClass}
use Rattle.text_lex.specs.declared.bytes.ByteClass.TheVariants as class
use Rattle.text_lex.specs.declared.pieces.Piece.{Piece}
use Rattle.text_lex.specs.declared.pieces.Piece.TheVariants.{Skips, Ends, Gives, Bad, TooLarge}
use Rattle.text_lex.proofs.PieceLaws.{piece_within}
use Rattle.text_lex.proofs.KindLaws.{is_of_class, IsOfClass, IsSign, all_of_front, name_here, positive_range, negative_range}
use Rattle.text_lex.proofs.Reading.{piece_read, lexed_from-cons, lexed_from-left}

-- a front whose bytes all pass a test is no longer than the longest such front
front_within : (p : ℕ → Bool) (n : ℕ) (bytes : List ℕ) → n ≤ length bytes → list_all p (take n bytes) ≡ true → n ≤ length (take_while p bytes)
front_within p zero bytes h all = omega arith
front_within p (suc n) [] h all = omega (arith, h)
front_within p (suc n) (byte ∷ bytes) h all =
    let parts = and_parts (p byte) (list_all p (take n bytes)) all in
    let more = front_within p n bytes (omega (arith, h)) parts.1 in
    rw (take_while-cons p byte bytes) (rw parts.0 (omega (arith, more)))

-- a letter is no digit
letter_no_digit : (byte : ℕ) → is_letter byte ≡ true → is_digit byte ≡ true → ⊥
letter_no_digit byte l d =
    let digit = and_parts (nat_le 48 byte) (nat_le byte 57) d in
    let most = leb-true byte 57 digit.1 in
    let capital : nat_le 65 byte ≡ false = lt-leb 65 byte (omega (arith, most)) in
    let small : nat_le 97 byte ≡ false = lt-leb 97 byte (omega (arith, most)) in
    let line : (byte == 95) ≡ false = ne_eqb byte 95 (λ e. absurd (omega (arith, most, e))) in
    let none = rw (capital, small, line) at l in
    cc

first_same : (a b : ℕ) (xs ys : List ℕ) → (a ∷ xs) ≡ (b ∷ ys) → (a ≡ b) × (xs ≡ ys)
first_same a b xs ys e = (cc, cc)

-- a number begins with a digit or a minus sign
unsigned_begins : (size byte : ℕ) (bytes : List ℕ) → IsUnsigned size (byte ∷ bytes) → is_digit byte ≡ true
unsigned_begins size byte bytes (inl d) = (and_parts (is_digit byte) (list_all is_digit bytes) d.digits).0
unsigned_begins size byte bytes (inr h) = ap is_digit (first_same byte 48 bytes (120 ∷ h.digits) h.spelled).0

number_begins : (value : ℤ) (byte : ℕ) (bytes : List ℕ) → Spells (Number value) (byte ∷ bytes) → (is_digit byte ≡ true) ⊎ (byte ≡ 45)
number_begins value byte bytes (inl p) = inl (unsigned_begins p.size byte bytes p.number)
number_begins value byte bytes (inr n) = inr (first_same byte 45 bytes n.unsigned n.spelled).0

-- a token of one byte is no longer
single : (byte sign m : ℕ) (rest : List ℕ) → m ≤ length rest → (byte ∷ take m rest) ≡ (sign ∷ []) → m ≡ 0
single byte sign m rest h e =
    let none : length (take m rest) ≡ 0 = ap length (first_same byte sign (take m rest) [] e).1 in
    omega (arith, none, length-take-le m rest h)

-- a token that begins with a byte ends no later than so many bytes behind it, if none of the kinds that
-- have several bytes does
longest_by : (byte : ℕ) (rest : List ℕ) (further : ℕ)
    → ((m : ℕ) → m ≤ length rest → is_name (byte ∷ take m rest) ≡ true → m ≤ further)
    → ((m : ℕ) → m ≤ length rest → is_directive (byte ∷ take m rest) ≡ true → m ≤ further)
    → ((value : ℤ) (m : ℕ) → m ≤ length rest → Spells (Number value) (byte ∷ take m rest) → m ≤ further)
    → IsLongest (further + 1) (byte ∷ rest)
longest_by byte rest further name directive number = bound
  where
    bound : IsLongest (further + 1) (byte ∷ rest)
    bound kind zero h s = omega arith
    bound Name (suc m) h s = omega (arith, name m (omega (arith, h)) s)
    bound Directive (suc m) h s = omega (arith, directive m (omega (arith, h)) s)
    bound (Number value) (suc m) h s = omega (arith, number value m (omega (arith, h)) s)
    bound Comma (suc m) h s = omega (arith, single byte 44 m rest (omega (arith, h)) s)
    bound Open (suc m) h s = omega (arith, single byte 40 m rest (omega (arith, h)) s)
    bound Close (suc m) h s = omega (arith, single byte 41 m rest (omega (arith, h)) s)
    bound Colon (suc m) h s = omega (arith, single byte 58 m rest (omega (arith, h)) s)
    bound End (suc m) h s = omega (arith, single byte 10 m rest (omega (arith, h)) s)

-- a byte that begins neither a name, a directive nor a number begins no token of several bytes
lone : (byte : ℕ) (rest : List ℕ) → is_letter byte ≡ false → (byte == 46) ≡ false → is_digit byte ≡ false → (byte == 45) ≡ false → IsLongest (0 + 1) (byte ∷ rest)
lone byte rest letter dot digit minus =
    longest_by byte rest 0 (λ m h s. let l = (and_parts (is_letter byte) (list_all is_name_byte (take m rest)) s).0 in absurd cc)
    (λ m h s. let d = (and_parts (byte == 46) (is_name (take m rest)) s).0 in absurd cc)
    (λ value m h s. none m (number_begins value byte (take m rest) s))
  where
    none : (m : ℕ) → (is_digit byte ≡ true) ⊎ (byte ≡ 45) → m ≤ 0
    none m (inl d) = absurd cc
    none m (inr e) = let t = eq-eqb byte 45 e in absurd cc

-- a name
letter_longest : (byte : ℕ) (rest : List ℕ) → is_letter byte ≡ true → IsLongest (prefix_len is_name_byte rest + 1) (byte ∷ rest)
letter_longest byte rest l =
    longest_by byte rest (prefix_len is_name_byte rest)
    (λ m h s.
    let all = (and_parts (is_letter byte) (list_all is_name_byte (take m rest)) s).1 in
    omega (arith, front_within is_name_byte m rest h all, length-prefix_len is_name_byte rest))
    (λ m h s.
    let e = eqb-true byte 46 (and_parts (byte == 46) (is_name (take m rest)) s).0 in
    let no : is_letter 46 ≡ true = subst (λ b. is_letter b ≡ true) e l in
    absurd cc)
    (λ value m h s. none m (number_begins value byte (take m rest) s))
  where
    none : (m : ℕ) → (is_digit byte ≡ true) ⊎ (byte ≡ 45) → m ≤ prefix_len is_name_byte rest
    none m (inl d) = absurd (letter_no_digit byte l d)
    none m (inr e) = let no : is_letter 45 ≡ true = subst (λ b. is_letter b ≡ true) e l in absurd cc

-- a dot and a name
dot_longest : (next : ℕ) (rest : List ℕ) → IsLongest (1 + prefix_len is_name_byte rest + 1) (46 ∷ next ∷ rest)
dot_longest next rest =
    longest_by 46 (next ∷ rest) (1 + prefix_len is_name_byte rest) (λ m h s. let no = (and_parts (is_letter 46) (list_all is_name_byte (take m (next ∷ rest))) s).0 in absurd cc) directive
    (λ value m h s. none m (number_begins value 46 (take m (next ∷ rest)) s))
  where
    directive : (m : ℕ) → m ≤ length (next ∷ rest) → is_directive (46 ∷ take m (next ∷ rest)) ≡ true → m ≤ 1 + prefix_len is_name_byte rest
    directive zero h s = omega arith
    directive (suc m) h s =
        let all = (and_parts (is_letter next) (list_all is_name_byte (take m rest)) s).1 in
        omega (arith, front_within is_name_byte m rest (omega (arith, h)) all, length-prefix_len is_name_byte rest)

    none : (m : ℕ) → (is_digit 46 ≡ true) ⊎ (let dot : ℕ = 46 in dot ≡ 45) → m ≤ 1 + prefix_len is_name_byte rest
    none m (inl d) = absurd cc
    none m (inr e) = absurd (omega (arith, e))

-- a number without a sign is the longest from its digit on
hex_here : (byte next digit : ℕ) (rest : List ℕ) → byte ≡ 48 → next ≡ 120 → is_hex_digit digit ≡ true → begins_hex byte (next ∷ digit ∷ rest) ≡ true
hex_here byte next digit rest e f d =
    and_from (byte == 48) ((next == 120) && is_hex_digit digit) (eq-eqb byte 48 e) (and_from (next == 120) (is_hex_digit digit) (eq-eqb next 120 f) d)

hexadecimal_within : (byte m size : ℕ) (rest : List ℕ) → m ≤ length rest → IsHexadecimal size (byte ∷ take m rest) → (begins_hex byte rest ≡ true) × (m ≤ 1 + length (take_while is_hex_digit (drop 1 rest)))
hexadecimal_within byte zero size rest h x = absurd (let e = (first_same byte 48 [] (120 ∷ x.digits) x.spelled).1 in cc)
hexadecimal_within byte (suc m) size [] h x = absurd (omega (arith, h))
hexadecimal_within byte (suc zero) size (next ∷ rest) h x =
    let e = first_same byte 48 (next ∷ []) (120 ∷ x.digits) x.spelled in
    let f = first_same next 120 [] x.digits e.1 in
    absurd (omega (arith, x.some, ap length f.1))
hexadecimal_within byte (suc (suc m)) size (next ∷ []) h x = absurd (omega (arith, h))
hexadecimal_within byte (suc (suc m)) size (next ∷ digit ∷ rest) h x =
    let e = first_same byte 48 (next ∷ digit ∷ take m rest) (120 ∷ x.digits) x.spelled in
    let f = first_same next 120 (digit ∷ take m rest) x.digits e.1 in
    let all : list_all is_hex_digit (digit ∷ take m rest) ≡ true = subst (λ l. list_all is_hex_digit l ≡ true) (sym f.1) x.all in
    let first = (and_parts (is_hex_digit digit) (list_all is_hex_digit (take m rest)) all).0 in
    (hex_here byte next digit rest e.0 f.0 first, omega (arith, front_within is_hex_digit (suc m) (digit ∷ rest) (omega (arith, h)) all))

-- behind `0x` no decimal digit follows the 0
zero_alone : (byte m : ℕ) (rest : List ℕ) → begins_hex byte rest ≡ true → list_all is_digit (byte ∷ take m rest) ≡ true → m ≡ 0
zero_alone byte zero rest h all = refl
zero_alone byte (suc m) [] h all = cc
zero_alone byte (suc m) (next ∷ []) h all = cc
zero_alone byte (suc m) (next ∷ digit ∷ rest) h all =
    let x = and_parts (byte == 48) ((next == 120) && is_hex_digit digit) h in
    let e = eqb-true next 120 (and_parts (next == 120) (is_hex_digit digit) x.1).0 in
    let d = (and_parts (is_digit next) (list_all is_digit (take m (digit ∷ rest))) (and_parts (is_digit byte) (list_all is_digit (take (suc m) (next ∷ digit ∷ rest))) all).1).0 in
    let no : is_digit 120 ≡ true = subst (λ b. is_digit b ≡ true) e d in
    absurd cc

unsigned_within : (size byte m : ℕ) (rest : List ℕ) → m ≤ length rest → IsUnsigned size (byte ∷ take m rest) → m ≤ (numeral byte rest).further
unsigned_within size byte m rest h (inl d) =
    cond_both (begins_hex byte rest) (hex_numeral (take_while is_hex_digit (drop 1 rest))) (decimal_numeral byte (take_while is_digit rest)) (λ n. m ≤ n.further)
    (λ x. omega (arith, zero_alone byte m rest x d.digits))
    (λ x. front_within is_digit m rest h (and_parts (is_digit byte) (list_all is_digit (take m rest)) d.digits).1)
unsigned_within size byte m rest h (inr x) =
    let w = hexadecimal_within byte m size rest h x in
    cond_both (begins_hex byte rest) (hex_numeral (take_while is_hex_digit (drop 1 rest))) (decimal_numeral byte (take_while is_digit rest)) (λ n. m ≤ n.further)
    (λ e. w.1) (λ e. let no = w.0 in absurd cc)

-- and its bytes spell its value
front_taken : (p : ℕ → Bool) (bytes : List ℕ) → take (length (take_while p bytes)) bytes ≡ take_while p bytes
front_taken p bytes = ap (λ n. take n bytes) (length-prefix_len p bytes)

hexadecimal_here : (byte : ℕ) (rest : List ℕ) → begins_hex byte rest ≡ true → IsHexadecimal (value_of 16 0 (take_while is_hex_digit (drop 1 rest))) (byte ∷ take (1 + length (take_while is_hex_digit (drop 1 rest))) rest)
hexadecimal_here byte [] h = cc
hexadecimal_here byte (next ∷ []) h = cc
hexadecimal_here byte (next ∷ digit ∷ rest) h =
    let digits = take_while is_hex_digit (digit ∷ rest) in
    let x = and_parts (byte == 48) ((next == 120) && is_hex_digit digit) h in
    let y = and_parts (next == 120) (is_hex_digit digit) x.1 in
    let n : 1 + length digits ≡ suc (length digits) = omega arith in
    let front : take (1 + length digits) (next ∷ digit ∷ rest) ≡ next ∷ digits = ap (λ k. take k (next ∷ digit ∷ rest)) n ∙ ap (λ l. next ∷ l) (front_taken is_hex_digit (digit ∷ rest)) in
    let same : byte ∷ take (1 + length digits) (next ∷ digit ∷ rest) ≡ 48 ∷ 120 ∷ digits = ap (λ l. byte ∷ l) front ∙ (ap (λ b. b ∷ next ∷ digits) (eqb-true byte 48 x.0) ∙ ap (λ b. 48 ∷ b ∷ digits) (eqb-true next 120 y.0)) in
    record {
      digits = digits;
      spelled = same;
      some = omega (arith, front_within is_hex_digit 1 (digit ∷ rest) (omega arith) (and_from (is_hex_digit digit) true y.1 refl));
      all = all_of_front is_hex_digit (digit ∷ rest);
      worth = refl;
    }

decimal_here : (byte : ℕ) (rest : List ℕ) → is_digit byte ≡ true → IsDecimal (value_of 10 0 (byte ∷ take_while is_digit rest)) (byte ∷ take (length (take_while is_digit rest)) rest)
decimal_here byte rest d =
    let taken = front_taken is_digit rest in
    record {
      some = omega arith;
      digits = and_from (is_digit byte) (list_all is_digit (take (length (take_while is_digit rest)) rest)) d (ap (list_all is_digit) taken ∙ all_of_front is_digit rest);
      worth = ap (λ l. value_of 10 0 (byte ∷ l)) (sym taken);
    }

unsigned_here : (byte : ℕ) (rest : List ℕ) → is_digit byte ≡ true → IsUnsigned (numeral byte rest).value (byte ∷ take (numeral byte rest).further rest)
unsigned_here byte rest d =
    cond_both (begins_hex byte rest) (hex_numeral (take_while is_hex_digit (drop 1 rest))) (decimal_numeral byte (take_while is_digit rest)) (λ n. IsUnsigned n.value (byte ∷ take n.further rest))
    (λ x. inr (hexadecimal_here byte rest x)) (λ x. inl (decimal_here byte rest d))

-- what a piece says of its bytes and of what follows them
abbrev Says : ℕ → List ℕ → Piece → Type 0
Says byte rest (Skips further) =
    ((is_blank byte ≡ true) × (further ≡ 0)) ⊎ ((byte ≡ 35) × (list_all is_not_line_feed (take further rest) ≡ true) × BeginsAtEnd (drop further rest))
Says byte rest Ends = byte ≡ 10
Says byte rest (Gives kind further) =
    (goes_on kind ≡ true) × Spells kind (byte ∷ take further rest) × IsLongest (further + 1) (byte ∷ rest) × IsSound kind (drop further rest)
Says byte rest (Bad further) = Unit {0}
Says byte rest TooLarge = Unit {0}

closed_says : (byte : ℕ) (bytes : List ℕ) (value : ℤ) (further : ℕ) (behind : List ℕ) → drop further bytes ≡ behind → IsInRange value → Spells (Number value) (byte ∷ take further bytes) → IsLongest (further + 1) (byte ∷ bytes)
    → Says byte bytes (closed value further behind)
closed_says byte bytes value further [] e range spelled longest = (refl, spelled, longest, subst (IsSound (Number value)) (sym e) (range, tt))
closed_says byte bytes value further (next ∷ behind) e range spelled longest =
    cond_both (is_name_byte next) (Bad (further + 1)) (Gives (Number value) further) (Says byte bytes) (λ x. tt)
    (λ x. (refl, spelled, longest, subst (IsSound (Number value)) (sym e) (range, x)))

digit_longest : (byte : ℕ) (rest : List ℕ) → is_digit byte ≡ true → IsLongest ((numeral byte rest).further + 1) (byte ∷ rest)
digit_longest byte rest d =
    longest_by byte rest (numeral byte rest).further (λ m h s. absurd (letter_no_digit byte (and_parts (is_letter byte) (list_all is_name_byte (take m rest)) s).0 d))
    (λ m h s.
    let e = eqb-true byte 46 (and_parts (byte == 46) (is_name (take m rest)) s).0 in
    let no : is_digit 46 ≡ true = subst (λ b. is_digit b ≡ true) e d in
    absurd cc) number
  where
    number : (value : ℤ) (m : ℕ) → m ≤ length rest → Spells (Number value) (byte ∷ take m rest) → m ≤ (numeral byte rest).further
    number value m h (inl p) = unsigned_within p.size byte m rest h p.number
    number value m h (inr n) =
        let e = (first_same byte 45 (take m rest) n.unsigned n.spelled).0 in
        let no : is_digit 45 ≡ true = subst (λ b. is_digit b ≡ true) e d in
        absurd cc

digit_says : (byte : ℕ) (rest : List ℕ) → is_digit byte ≡ true → Says byte rest (positive (numeral byte rest) rest)
digit_says byte rest d =
    let n = numeral byte rest in
    cond_both (nat_lt 4294967295 n.value) TooLarge (closed (pos n.value) n.further (drop n.further rest)) (Says byte rest) (λ e. tt)
    (λ e. closed_says byte rest (pos n.value) n.further (drop n.further rest) refl (positive_range n.value (ltb-false 4294967295 n.value e))
    (inl (record { size = n.value; number = unsigned_here byte rest d; worth = refl })) (digit_longest byte rest d))

minus_longest : (next : ℕ) (rest : List ℕ) → IsLongest ((numeral next rest).further + 1 + 1) (45 ∷ next ∷ rest)
minus_longest next rest =
    longest_by 45 (next ∷ rest) ((numeral next rest).further + 1) (λ m h s. let no = (and_parts (is_letter 45) (list_all is_name_byte (take m (next ∷ rest))) s).0 in absurd cc)
    (λ m h s. let no = (and_parts (45 == 46) (is_name (take m (next ∷ rest))) s).0 in absurd cc) number
  where
    number : (value : ℤ) (m : ℕ) → m ≤ length (next ∷ rest) → Spells (Number value) (45 ∷ take m (next ∷ rest)) → m ≤ (numeral next rest).further + 1
    number value zero h s = omega arith
    number value (suc m) h (inl p) = let no = unsigned_begins p.size 45 (take (suc m) (next ∷ rest)) p.number in absurd cc
    number value (suc m) h (inr n) =
        let e = (first_same 45 45 (next ∷ take m rest) n.unsigned n.spelled).1 in
        omega (arith, unsigned_within n.size next m rest (omega (arith, h)) (subst (IsUnsigned n.size) (sym e) n.number))

minus_says : (rest : List ℕ) → Says 45 rest (after_minus rest)
minus_says [] = tt
minus_says (next ∷ rest) =
    cond_both (is_digit next) (negative (numeral next rest) rest) (Bad 0) (Says 45 (next ∷ rest)) (λ d. number d) (λ d. tt)
  where
    number : is_digit next ≡ true → Says 45 (next ∷ rest) (negative (numeral next rest) rest)
    number d =
        let n = numeral next rest in
        let more : n.further + 1 ≡ suc n.further = omega arith in
        let spelled : Spells (Number (neg_ℤ (pos n.value))) (45 ∷ take (n.further + 1) (next ∷ rest)) =
        inr (record { size = n.value; unsigned = take (n.further + 1) (next ∷ rest); spelled = refl; number = subst (λ k. IsUnsigned n.value (take k (next ∷ rest))) (sym more) (unsigned_here next rest d); worth = refl }) in
        cond_both (nat_lt 2147483648 n.value) TooLarge (closed (neg_ℤ (pos n.value)) (n.further + 1) (drop n.further rest)) (Says 45 (next ∷ rest)) (λ e. tt)
        (λ e. closed_says 45 (next ∷ rest) (neg_ℤ (pos n.value)) (n.further + 1) (drop n.further rest) (ap (λ k. drop k (next ∷ rest)) more)
        (negative_range n.value (ltb-false 2147483648 n.value e)) spelled (minus_longest next rest))

dot_says : (rest : List ℕ) → Says 46 rest (after_dot rest)
dot_says [] = tt
dot_says (next ∷ rest) =
    cond_both (is_letter next) (Gives Directive (1 + prefix_len is_name_byte rest)) (Bad 0) (Says 46 (next ∷ rest))
    (λ l.
    let more : suc (prefix_len is_name_byte rest) ≡ 1 + prefix_len is_name_byte rest = omega arith in
    (refl, subst (λ n. is_name (take n (next ∷ rest)) ≡ true) more (name_here next rest l), dot_longest next rest, tt)) (λ l. tt)

sign_says : (kind : TokenKind) (byte : ℕ) (rest : List ℕ) → IsSign kind byte → Says byte rest (Gives kind 0)
sign_says Comma byte rest e = rw e (refl, refl, lone 44 rest refl refl refl refl, tt)
sign_says Open byte rest e = rw e (refl, refl, lone 40 rest refl refl refl refl, tt)
sign_says Close byte rest e = rw e (refl, refl, lone 41 rest refl refl refl refl, tt)
sign_says Colon byte rest e = rw e (refl, refl, lone 58 rest refl refl refl refl, tt)
sign_says Name byte rest e = absurd e
sign_says Directive byte rest e = absurd e
sign_says (Number value) byte rest e = absurd e
sign_says End byte rest e = absurd e

-- a comment goes on up to the line feed
comment_ends : (rest : List ℕ) → BeginsAtEnd (drop (prefix_len is_not_line_feed rest) rest)
comment_ends [] = tt
comment_ends (byte ∷ rest) =
    let more : suc (prefix_len is_not_line_feed rest) ≡ 1 + prefix_len is_not_line_feed rest = omega arith in
    cond_both (is_not_line_feed byte) (1 + prefix_len is_not_line_feed rest) 0 (λ n. BeginsAtEnd (drop n (byte ∷ rest)))
    (λ e. subst (λ n. BeginsAtEnd (drop n (byte ∷ rest))) more (comment_ends rest)) (λ e. eqb-true byte 10 (not-false (byte == 10) e))

class_says : (c : ByteClass) (byte : ℕ) (rest : List ℕ) → IsOfClass byte c → Says byte rest (piece_of c byte rest)
class_says class.Blank byte rest e = inl (e, refl)
class_says class.Hash byte rest e = inr (e, all_of_front is_not_line_feed rest, comment_ends rest)
class_says class.LineFeed byte rest e = e
class_says class.Letter byte rest e = (refl, name_here byte rest e, letter_longest byte rest e, tt)
class_says class.Dot byte rest e = rw e (dot_says rest)
class_says class.Minus byte rest e = rw e (minus_says rest)
class_says class.Digit byte rest e = digit_says byte rest e
class_says (class.Sign kind) byte rest e = sign_says kind byte rest e
class_says class.Other byte rest e = tt

piece_says : (byte : ℕ) (rest : List ℕ) → Says byte rest (piece_at byte rest)
piece_says byte rest = class_says (class_of byte) byte rest (is_of_class byte)

-- the parts of what stands from a place on
abbrev Division : ℕ → ℕ → Bool → List ℕ → List Token → Type 0
Division place line begun text tokens = (parts : List Part) × Covers parts text × (tokens ≡ tokens_among place line begun parts)

-- what is known of the rest behind a piece, as the induction hypothesis
abbrev Divides : ℕ → Type 0
Divides fuel =
    (place line : ℕ) (begun : Bool) (text : List ℕ) (tokens : List Token) → length text ≤ fuel → lexed_from 0 place line begun text ≡ Tokens tokens → Division place line begun text tokens

first_token : (t : Token) (reading : Lexed) (tokens : List Token) → before t reading ≡ Tokens tokens → (rest : List Token) × (reading ≡ Tokens rest) × (tokens ≡ t ∷ rest)
first_token t (Tokens rest) tokens e = (rest, refl, cc)
first_token t (BadByteAt place line) tokens e = absurd cc
first_token t (TooLargeAt place line) tokens e = absurd cc

-- a token that ends no line stays on it
same_line : (kind : TokenKind) (line : ℕ) → goes_on kind ≡ true → line_behind kind line ≡ line
same_line Name line e = refl
same_line Directive line e = refl
same_line (Number value) line e = refl
same_line Comma line e = refl
same_line Open line e = refl
same_line Close line e = refl
same_line Colon line e = refl
same_line End line e = cc

module _ (fuel : ℕ) (later : Divides fuel) (byte : ℕ) (rest : List ℕ) (few : length rest ≤ fuel) (place line : ℕ) where
  -- behind a piece
  behind : (further : ℕ) (tokens : List Token) → further ≤ length rest → lexed_from further (place + 1) line true rest ≡ Tokens tokens → Division (place + (further + 1)) line true (drop further rest) tokens
  behind further tokens h e =
      let same : place + 1 + further ≡ place + (further + 1) = omega arith in
      let read = ap (λ p. lexed_from 0 p line true (drop further rest)) (sym same) ∙ (sym (lexed_from-left further (place + 1) line rest h) ∙ e) in
      later (place + (further + 1)) line true (drop further rest) tokens (omega (arith, few, length-drop further rest)) read

  skipped : (further : ℕ) (tokens : List Token) (begun : Bool) → further ≤ length rest → Says byte rest (Skips further) → Division (place + (further + 1)) line true (drop further rest) tokens → Division place line begun (byte ∷ rest) tokens
  skipped further tokens begun h (inl (blank, none)) (parts, covers, given) =
      let all : rest ≡ drop further rest = ap (λ k. drop k rest) (sym none) in
      let one : place + (further + 1) ≡ place + 1 = omega (arith, none) in
      (Blank byte ∷ parts, (drop further rest, ap (λ l. byte ∷ l) all, blank, covers), given ∙ ap (λ p. tokens_among p line true parts) one)
  skipped further tokens begun h (inr (hash, all, ends)) (parts, covers, given) =
      let text : byte ∷ rest ≡ 35 ∷ (take further rest ++ drop further rest) = ap (λ b. b ∷ rest) hash ∙ ap (λ l. 35 ∷ l) (sym (take-append-drop further rest)) in
      let len : place + (further + 1) ≡ place + length (35 ∷ take further rest) = omega (arith, length-take-le further rest h) in
      (Comment (take further rest) ∷ parts, (drop further rest, text, (all, ends), covers), given ∙ ap (λ p. tokens_among p line true parts) len)

  found : (kind : TokenKind) (further : ℕ) (tokens : List Token) (begun : Bool) → further ≤ length rest → Says byte rest (Gives kind further) → Division (place + (further + 1)) line true (drop further rest) tokens → Division place line begun (byte ∷ rest) (token kind line place (further + 1) ∷ tokens)
  found kind further tokens begun h (goes, spelled, longest, sound) (parts, covers, given) =
      let bytes = byte ∷ take further rest in
      let text : byte ∷ rest ≡ bytes ++ drop further rest = ap (λ l. byte ∷ l) (sym (take-append-drop further rest)) in
      let len : length bytes ≡ further + 1 = omega (arith, length-take-le further rest h) in
      let long : IsLongest (length bytes) (bytes ++ drop further rest) = subst (λ n. IsLongest n (bytes ++ drop further rest)) (sym len) (subst (IsLongest (further + 1)) text longest) in
      let more = given ∙ (ap (λ p. tokens_among p line true parts) (ap (λ n. place + n) (sym len)) ∙ (ap (λ l. tokens_among (place + length bytes) l true parts) (sym (same_line kind line goes))
      ∙ ap (λ b. tokens_among (place + length bytes) (line_behind kind line) b parts) (sym goes))) in
      let head = ap (λ n. token kind line place n) (sym len) in (
        Lexeme kind bytes ∷ parts,
        (drop further rest, text, (spelled, long, sound), covers),
        ap (λ l. token kind line place (further + 1) ∷ l) more ∙ ap (λ t. t ∷ tokens_among (place + length bytes) (line_behind kind line) (goes_on kind) parts) head,
      )

  ended : (tokens : List Token) (begun : Bool) → byte ≡ 10 → Division (place + 1) (line + 1) false rest tokens → Division place line begun (byte ∷ rest) (token End line place 1 ∷ tokens)
  ended tokens begun e (parts, covers, given) =
      (Lexeme End (10 ∷ []) ∷ parts, (rest, ap (λ b. b ∷ rest) e, (refl, lone 10 rest refl refl refl refl, tt), covers), ap (λ l. token End line place 1 ∷ l) given)

  by_piece : (p : Piece) (begun : Bool) (tokens : List Token) → PieceFits p (length rest) → Says byte rest p → piece_read p place line rest ≡ Tokens tokens → Division place line begun (byte ∷ rest) tokens
  by_piece (Skips further) begun tokens fits says e = skipped further tokens begun fits says (behind further tokens fits e)
  by_piece Ends begun tokens fits says e =
      let (more, read, all) = first_token (token End line place 1) (lexed_from 0 (place + 1) (line + 1) false rest) tokens e in
      subst (Division place line begun (byte ∷ rest)) (sym all) (ended more begun says (later (place + 1) (line + 1) false rest more few read))
  by_piece (Gives kind further) begun tokens fits says e =
      let (more, read, all) = first_token (token kind line place (further + 1)) (lexed_from further (place + 1) line true rest) tokens e in
      subst (Division place line begun (byte ∷ rest)) (sym all) (found kind further more begun fits says (behind further more fits read))
  by_piece (Bad further) begun tokens fits says e = absurd cc
  by_piece TooLarge begun tokens fits says e = absurd cc

divided_from : (fuel : ℕ) → Divides fuel
divided_from fuel place line begun [] tokens h e = ([], refl, cc)
divided_from zero place line begun (byte ∷ rest) tokens h e = absurd (omega (arith, h))
divided_from (suc fuel) place line begun (byte ∷ rest) tokens h e =
    by_piece fuel (divided_from fuel) byte rest (omega (arith, h)) place line (piece_at byte rest) begun tokens (piece_within byte rest) (piece_says byte rest)
    (sym (lexed_from-cons place line byte begun rest) ∙ e)

-- a text that has tokens is divided into them, blanks and comments
pub divided : (text : List ℕ) (tokens : List Token) → lexed text ≡ Tokens tokens → IsDivided text tokens
unfolding lexed
divided text tokens e =
    let (parts, covers, given) = divided_from (length text) 0 1 false text tokens (omega arith) e in
    record { parts = parts; covers = covers; given = given }
