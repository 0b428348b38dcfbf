-- Laws of names without the zeros at their end.
use Rattle.std.proofs.Common.{◌≡◌, ◌≢◌, ℕ, zero, suc, ◌+◌, ◌-◌, ◌<◌, ◌≤◌, List, [], ◌∷◌, ◌++◌, length, take, get_or, refl, sym, ap, ◌∙◌, arith}
use Rattle.std.proofs.lemmas.Grind.{take_at_read}
use Rattle.app_image.specs.Reading.{unless_zero, trimmed}

pub trimmed_zero : (xs : List ℕ) → trimmed (xs ++ 0 ∷ []) ≡ trimmed xs
trimmed_zero [] = refl
trimmed_zero (x ∷ xs) = ap (unless_zero x) (trimmed_zero xs)

unless_zero_some : (x : ℕ) (ys : List ℕ) (b : ℕ) → unless_zero x (ys ++ b ∷ []) ≡ x ∷ (ys ++ b ∷ [])
unless_zero_some zero [] b = refl
unless_zero_some zero (y ∷ ys) b = refl
unless_zero_some (suc n) ys b = refl

pub trimmed_kept : (xs : List ℕ) (b : ℕ) → b ≢ 0 → trimmed (xs ++ b ∷ []) ≡ xs ++ b ∷ []
trimmed_kept [] zero h = absurd (h refl)
trimmed_kept [] (suc n) h = refl
trimmed_kept (x ∷ xs) b h = ap (unless_zero x) (trimmed_kept xs b h) ∙ unless_zero_some x xs b

take_last : (xs : List ℕ) (n : ℕ) → 0 < n → n ≤ length xs → take n xs ≡ take (n - 1) xs ++ get_or xs (n - 1) 0 ∷ []
take_last xs n p h =
    let e : n ≡ (n - 1) + 1 = omega arith in
    let q = take_at_read xs (n - 1) 0 (omega arith) in
    ap (λ k. take k xs) e ∙ q.1

-- a zero at the end is dropped
pub trim_step : (xs : List ℕ) (n : ℕ) → 0 < n → n ≤ length xs → get_or xs (n - 1) 0 ≡ 0 → trimmed (take (n - 1) xs) ≡ trimmed (take n xs)
trim_step xs n p h z =
    sym (ap trimmed (take_last xs n p h ∙ ap (λ b. take (n - 1) xs ++ b ∷ []) z) ∙ trimmed_zero (take (n - 1) xs))

-- where the last byte is no zero, nothing is dropped
pub trim_end : (xs : List ℕ) (n : ℕ) → 0 < n → n ≤ length xs → get_or xs (n - 1) 0 ≢ 0 → trimmed (take n xs) ≡ take n xs
trim_end xs n p h z =
    ap trimmed (take_last xs n p h) ∙ trimmed_kept (take (n - 1) xs) (get_or xs (n - 1) 0) z ∙ sym (take_last xs n p h)

pub trim_none : (xs : List ℕ) (n : ℕ) → n ≤ 0 → trimmed (take n xs) ≡ take n xs
trim_none xs n h = let e : n ≡ 0 = omega arith in rw e refl
