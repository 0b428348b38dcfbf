-- How often a task stands in a list.
use Rattle.kern_model.proofs.Common.{◌≡◌, ◌≢◌, ℕ, zero, suc, ◌≤◌, ◌+◌, List, [], ◌∷◌, ◌++◌, length, refl, sym, ap, subst, Bool, true, false, cond, not, take, drop, arith, inl, inr, insert, ◌==◌, count_of, without, one_if}
use Rattle.std.proofs.lemmas.List.{take-append-drop}
use Rattle.std.proofs.lemmas.Bool.Decides.{nat_tests, eqb_tells}

pub count-append : (x : ℕ) (xs ys : List ℕ) → count_of x (xs ++ ys) ≡ count_of x xs + count_of x ys
count-append x [] ys = omega arith
count-append x (y ∷ xs) ys = omega (arith, count-append x xs ys)

pub count-insert : (x y : ℕ) (xs : List ℕ) (i : ℕ) → count_of x (insert xs i y) ≡ one_if (y == x) + count_of x xs
count-insert x y xs i =
    let whole : count_of x (take i xs ++ drop i xs) ≡ count_of x xs = ap (λ l. count_of x l) (take-append-drop i xs) in
    omega (arith, whole, count-append x (take i xs) (drop i xs), count-append x (take i xs) (y ∷ drop i xs))

length-cond : (b : Bool) (y : ℕ) (f : List ℕ) → length (cond (not b) (y ∷ f) f) + one_if b ≡ suc (length f)
length-cond true y f = omega arith
length-cond false y f = omega arith

pub length-without : (x : ℕ) (xs : List ℕ) → length (without x xs) + count_of x xs ≡ length xs
length-without x [] = refl
length-without x (y ∷ xs) = omega (arith, length-cond (y == x) y (without x xs), length-without x xs)

count-cond : (b : Bool) (x y : ℕ) (f : List ℕ) → count_of x (cond (not b) (y ∷ f) f) ≡ cond b 0 (one_if (y == x)) + count_of x f
count-cond true x y f = omega arith
count-cond false x y f = refl

-- x is counted as before in a list without another number, and else not at all
pub count-without_other : (x n : ℕ) (xs : List ℕ) → x ≢ n → count_of x (without n xs) ≡ count_of x xs
count-without_other x n [] h = refl
count-without_other x n (y ∷ xs) h = grind (arith, nat_tests, count-cond (y == n) x y (without n xs), count-without_other x n xs h)

pub count-without_same : (n : ℕ) (xs : List ℕ) → count_of n (without n xs) ≡ 0
count-without_same n [] = refl
count-without_same n (y ∷ xs) = grind (arith, nat_tests, count-cond (y == n) n y (without n xs), count-without_same n xs)

-- where no number stands twice, and none from n on, at most n stand there
pub length-le_by_counts : (n : ℕ) (xs : List ℕ) → ((x : ℕ) → count_of x xs ≤ 1) → ((x : ℕ) → n ≤ x → count_of x xs ≡ 0) → length xs ≤ n
length-le_by_counts zero [] once none = omega arith
length-le_by_counts zero (y ∷ ys) once none = let here : one_if (y == y) + count_of y ys ≡ 0 = none y (omega arith) in grind (arith, nat_tests)
length-le_by_counts (suc n) xs once none =
    let rest : length (without n xs) ≤ n =
    length-le_by_counts n (without n xs)
    (λ x. elim (eqb_tells x n) [ inl e ↦ subst (λ k. count_of k (without n xs) ≤ 1) (sym e.1) (omega (arith, count-without_same n xs)) | inr e ↦ omega (arith, count-without_other x n xs e.1, once x) ])
    (λ x h. elim (eqb_tells x n) [ inl e ↦ subst (λ k. count_of k (without n xs) ≡ 0) (sym e.1) (count-without_same n xs) | inr e ↦ let far : suc n ≤ x = omega arith in omega (arith, count-without_other x n xs e.1, none x far) ]) in
    omega (arith, rest, length-without n xs, once n)
