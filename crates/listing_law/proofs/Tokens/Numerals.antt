-- Digits and what they are worth.
use Rattle.std.proofs.Common.{◌≡◌, ℕ, zero, suc, ◌+◌, ◌*◌, ◌/◌, ◌%◌, ◌^◌, ◌<◌, ◌≤◌, List, [], ◌∷◌, ◌++◌, length, take, Bool, true, false, cond, decimal, arith, refl, ap, subst, ◌∙◌}
use Rattle.std.specs.Prelude.{◌&&◌, ◌==◌}
use Rattle.std.specs.List.{list_all, prefix_len, take_while}
use Rattle.std.proofs.lemmas.Bool.{and_parts, and_from, or_parts, eqb-true}
use Rattle.std.proofs.lemmas.List.Folds.{list_all-append}
use Rattle.std.proofs.lemmas.Fmt.{decimal_by_steps}
use Rattle.text_lex.specs.Bytes.{is_digit, is_hex_digit, is_letter, is_name_byte}
use Rattle.text_lex.specs.Numbers.{digit_value, value_of}
use Rattle.text_lex.specs.Division.{BeginsNoName}

-- A test that each number below a bound passes.
abbrev pub below : ℕ → (ℕ → Bool) → Bool
below zero test = true
below (suc n) test = test n && below n test

below_by : (n k : ℕ) (test : ℕ → Bool) (b : Bool) → (k == n) ≡ b → test n ≡ true → k < suc n → (k < n → test k ≡ true) → test k ≡ true
below_by n k test true e here lt rest = let same : k ≡ n = eqb-true k n e in rw same here
below_by n k test false e here lt rest =
    let no : k ≡ n → ⊥ = λ s. let t : (n == n) ≡ false = subst (λ m. (m == n) ≡ false) s e in apart n t in rest (omega (arith, no))
  where
    apart : (m : ℕ) → (m == m) ≡ false → ⊥
    apart m t = let same : (m == m) ≡ true = grind arith in cc

pub below_at : (n : ℕ) (test : ℕ → Bool) (k : ℕ) → below n test ≡ true → k < n → test k ≡ true
below_at zero test k h lt = absurd (omega arith)
below_at (suc n) test k h lt =
    let parts = and_parts (test n) (below n test) h in
    below_by n k test (k == n) refl parts.0 lt (λ less. below_at n test k parts.1 less)

-- The longest front that passes a test.

-- nothing, or a byte first that fails a test
abbrev pub BeginsNot : (ℕ → Bool) → List ℕ → Type 0
BeginsNot p [] = Unit {0}
BeginsNot p (byte ∷ bytes) = p byte ≡ false

pub prefix_whole : (p : ℕ → Bool) (xs ys : List ℕ) → list_all p xs ≡ true → BeginsNot p ys → prefix_len p (xs ++ ys) ≡ length xs
prefix_whole p [] [] h b = refl
prefix_whole p [] (y ∷ ys) h b = ap (λ t. cond t (1 + prefix_len p ys) 0) b
prefix_whole p (x ∷ xs) ys h b =
    let parts = and_parts (p x) (list_all p xs) h in
    let rest = prefix_whole p xs ys parts.1 b in
    ap (λ t. cond t (1 + prefix_len p (xs ++ ys)) 0) parts.0 ∙ omega (arith, rest)

take_front : (xs ys : List ℕ) → take (length xs) (xs ++ ys) ≡ xs
take_front [] ys = refl
take_front (x ∷ xs) ys = ap (λ l. x ∷ l) (take_front xs ys)

pub while_whole : (p : ℕ → Bool) (xs ys : List ℕ) → list_all p xs ≡ true → BeginsNot p ys → take_while p (xs ++ ys) ≡ xs
while_whole p xs ys h b = ap (λ n. take n (xs ++ ys)) (prefix_whole p xs ys h b) ∙ take_front xs ys

-- what begins no name begins with no digit, and with no hexadecimal one
pub no_digit : (bytes : List ℕ) → BeginsNoName bytes → BeginsNot is_digit bytes
no_digit [] h = tt
no_digit (byte ∷ bytes) h = (or_parts (is_letter byte) (is_digit byte) h).1

hex_is_name : (byte : ℕ) → byte < 256 → is_hex_digit byte ≡ true → is_name_byte byte ≡ true
hex_is_name byte lt h =
    let both = below_at 256 (λ b. not_or (is_hex_digit b) (is_name_byte b)) byte refl lt in
    by (is_hex_digit byte) (is_name_byte byte) h both
  where
    not_or : Bool → Bool → Bool
    not_or true b = b
    not_or false b = true

    by : (a b : Bool) → a ≡ true → not_or a b ≡ true → b ≡ true
    by true b e f = f
    by false b e f = absurd cc

-- Decimal digits.

value_push : (base front : ℕ) (ds : List ℕ) (d : ℕ) → value_of base front (ds ++ d ∷ []) ≡ value_of base front ds * base + digit_value d
value_push base front [] d = refl
value_push base front (x ∷ xs) d = value_push base (front * base + digit_value x) xs d

pub record IsDecimalOf (n : ℕ) (ds : List ℕ) : Type 0 where
  pub digits : list_all is_digit ds ≡ true
  pub worth : value_of 10 0 ds ≡ n

digit_test : (k : ℕ) → k < 10 → (is_digit (48 + k) && digit_value (48 + k) == k) ≡ true
digit_test k lt = below_at 10 (λ k. is_digit (48 + k) && digit_value (48 + k) == k) k refl lt

digit_is : (k : ℕ) → k < 10 → (is_digit (48 + k) ≡ true) × (digit_value (48 + k) ≡ k)
digit_is k lt =
    let parts = and_parts (is_digit (48 + k)) (digit_value (48 + k) == k) (digit_test k lt) in
    (parts.0, eqb-true (digit_value (48 + k)) k parts.1)

pub decimal_is : (n : ℕ) → n < 2 ^ 64 → IsDecimalOf n (decimal n)
decimal_is n lt = decimal_by_steps IsDecimalOf one more n lt
  where
    one : (n : ℕ) → n < 10 → IsDecimalOf n ((48 + n) ∷ [])
    one n h = let d = digit_is n h in record { digits = and_from (is_digit (48 + n)) true d.0 refl; worth = omega (arith, d.1) }

    more : (n : ℕ) (ds : List ℕ) → 10 ≤ n → IsDecimalOf (n / 10) ds → IsDecimalOf n (ds ++ ((48 + n % 10) ∷ []))
    more n ds h r =
        let small : n % 10 < 10 = omega arith in
        let d = digit_is (n % 10) small in
        let whole : value_of 10 0 ds * 10 + digit_value (48 + n % 10) ≡ n = omega (arith, r.worth, d.1) in
        record {
          digits = list_all-append is_digit ds ((48 + n % 10) ∷ []) ∙ and_from (list_all is_digit ds) _ r.digits (and_from (is_digit (48 + n % 10)) true d.0 refl);
          worth = value_push 10 0 ds (48 + n % 10) ∙ whole;
        }
