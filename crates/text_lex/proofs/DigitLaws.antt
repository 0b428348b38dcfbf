-- Values of digits, and what fits a word.
use Rattle.std.proofs.Common.{◌≡◌, ℕ, ◌+◌, ◌*◌, ◌≤◌, ◌<◌, ◌∷◌, List, [], length, drop, get_or, arith, None, Some, Bool, true, false, ap, ◌∙◌, pos}
use Rattle.std.specs.Prelude.{if◌then◌else◌, nat_lt, neg_ℤ}
use Rattle.std.proofs.Math.Nat.{mul-le-mul_left}
use Rattle.std.proofs.lemmas.List.{drop_more}
use Rattle.std.proofs.lemmas.Bool.{lt-ltb, le-ltb, cond-true, cond-false}
use Rattle.text_lex.specs.Numbers.{value_of, digit_value, word_of, Numeral}
use Rattle.text_lex.specs.Pieces.{closed, negative}
use Rattle.text_lex.specs.declared.pieces.Piece.TheVariants.{TooLarge}

-- more digits never make a value smaller
pub front-le-value_of : (base front : ℕ) (digits : List ℕ) → 1 ≤ base → front ≤ value_of base front digits
front-le-value_of base front [] h = omega arith
front-le-value_of base front (digit ∷ digits) h =
    let more : front * base + digit_value digit ≤ value_of base (front * base + digit_value digit) digits = front-le-value_of base (front * base + digit_value digit) digits h in
    let least : front * 1 ≤ front * base = mul-le-mul_left front h in
    omega (arith, more, least)

-- a value above the word's greatest is none
pub word_of_large : (n : ℕ) → 4294967295 < n → word_of n ≡ None
word_of_large n h = cond-true (nat_lt 4294967295 n) None (Some n) (lt-ltb 4294967295 n h)

some_of_choice : (b : Bool) (n v : ℕ) → Some v ≡ (if b then None else Some n) → n ≡ v
some_of_choice true n v h = cc
some_of_choice false n v h = cc

-- a value that is a word is that word
pub word_of_some : (n v : ℕ) → Some v ≡ word_of n → n ≡ v
word_of_some n v h = some_of_choice (nat_lt 4294967295 n) n v h

-- the digits so far are too large, whatever follows
pub word_of_over : (base front value i : ℕ) (digits : List ℕ) → i < length digits → value_of base front digits ≡ value_of base value (drop i digits) → 1 ≤ base → 4294967295 < value * base + digit_value (get_or digits i 0) → word_of (value_of base front digits) ≡ None
word_of_over base front value i digits h e b large =
    let next = value * base + digit_value (get_or digits i 0) in
    let same : value_of base front digits ≡ value_of base (value * base + digit_value (get_or digits i 0)) (drop (i + 1) digits) = e ∙ ap (value_of base value) (drop_more digits i 0 h) in
    let more : value * base + digit_value (get_or digits i 0) ≤ value_of base (value * base + digit_value (get_or digits i 0)) (drop (i + 1) digits) = front-le-value_of base (value * base + digit_value (get_or digits i 0)) (drop (i + 1) digits) b in
    word_of_large (value_of base front digits) (omega (arith, same, more, large))

-- a number behind a minus sign whose digits are in range
pub negative_in_range : (n : Numeral) (rest : List ℕ) (value : ℕ) → Some value ≡ word_of n.value → value ≤ 2147483648 → negative n rest ≡ closed (neg_ℤ (pos value)) (n.further + 1) (drop n.further rest)
negative_in_range n rest value h small =
    let e : n.value ≡ value = word_of_some n.value value h in
    let in_range : n.value ≤ 2147483648 = omega (arith, e, small) in
    cond-false (nat_lt 2147483648 n.value) TooLarge (closed (neg_ℤ (pos n.value)) (n.further + 1) (drop n.further rest)) (le-ltb 2147483648 n.value in_range)
    ∙ ap (λ v. closed (neg_ℤ (pos v)) (n.further + 1) (drop n.further rest)) e
