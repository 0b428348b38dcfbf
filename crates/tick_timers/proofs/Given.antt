-- Numbers and their matches in the order of giving.
use Rattle.std.proofs.Common.{◌≡◌, ◌≢◌, ℕ, suc, ◌+◌, ◌<◌, ◌≤◌, List, [], ◌∷◌, ◌++◌, length, refl, sym, ap, ◌∙◌, true, false, cond, not, arith, inl, inr, Option, None, set, get_or, get_or-set_other, length-append}
use Rattle.std.specs.Prelude.{◌%◌, ◌==◌, if◌then◌else◌}
use Rattle.std.proofs.lemmas.Bool.Decides.{eqb_tells}
use Rattle.kern_model.specs.State.{count_of, without}
use Rattle.kern_model.specs.Effect.{unmatched}
use Rattle.kern_model.specs.Timers.{match_of}
use Rattle.kern_model.specs.Valid.{matched}
use Rattle.kern_model.proofs.Lemmas.{count-append, count-without_other, count-without_same, length-le_by_counts}
use Rattle.tick_timers.specs.Matches.{AreNumbers, with_remainder}
use Rattle.tick_timers.specs.WheelView.{count_or_zero, match_in, matches_in}

-- numbers

pub count-same : (x y : ℕ) (xs : List ℕ) → y ≡ x → count_of x (y ∷ xs) ≡ 1 + count_of x xs
count-same x y xs is = elim (eqb_tells y x) [ inl e ↦ ap (λ b. (if b then 1 else 0) + count_of x xs) e.0 | inr e ↦ absurd (e.1 is) ]

pub count-other : (x y : ℕ) (xs : List ℕ) → y ≢ x → count_of x (y ∷ xs) ≡ count_of x xs
count-other x y xs ne = elim (eqb_tells y x) [ inl e ↦ absurd (ne e.1) | inr e ↦ ap (λ b. (if b then 1 else 0) + count_of x xs) e.0 ∙ zero (count_of x xs) ]
  where
    zero : (k : ℕ) → 0 + k ≡ k
    zero k = omega arith

one-of : (x y : ℕ) → count_of x (y ∷ []) ≤ 1
one-of x y = elim (eqb_tells y x) [ inl e ↦ omega (arith, count-same x y [] e.1) | inr e ↦ omega (arith, count-other x y [] e.1) ]

none-of : (x y : ℕ) → y ≢ x → count_of x (y ∷ []) ≡ 0
none-of x y ne = count-other x y [] ne

pub numbers-push : (xs : List ℕ) (n : ℕ) → AreNumbers xs → n < 64 → count_of n xs ≡ 0 → AreNumbers (xs ++ n ∷ [])
numbers-push xs n a low fresh = record {
  once = λ x. elim (eqb_tells n x) [
    | inl e ↦ let none : count_of x xs ≡ 0 = sym (ap (λ y. count_of y xs) e.1) ∙ fresh in omega (arith, count-append x xs (n ∷ []), one-of x n)
    | inr e ↦ omega (arith, count-append x xs (n ∷ []), none-of x n e.1, a.once x)
  ];
  low = λ x some. elim (eqb_tells n x) [
    | inl e ↦ omega (arith, e.1)
    | inr e ↦ a.low x (omega (arith, count-append x xs (n ∷ []), none-of x n e.1))
  ];
}

pub numbers-without : (xs : List ℕ) (n : ℕ) → AreNumbers xs → AreNumbers (without n xs)
numbers-without xs n a = record {
  once = λ x. elim (eqb_tells x n) [
    | inl e ↦ let none : count_of x (without n xs) ≡ 0 = ap (λ y. count_of y (without n xs)) e.1 ∙ count-without_same n xs in omega (arith, none)
    | inr e ↦ omega (arith, count-without_other x n xs e.1, a.once x)
  ];
  low = λ x some. elim (eqb_tells x n) [
    | inl e ↦ let none : count_of x (without n xs) ≡ 0 = ap (λ y. count_of y (without n xs)) e.1 ∙ count-without_same n xs in absurd (omega (arith, none))
    | inr e ↦ a.low x (omega (arith, count-without_other x n xs e.1))
  ];
}

-- there are at most 64
pub numbers-few : (xs : List ℕ) → AreNumbers xs → length xs ≤ 64
numbers-few xs a =
    length-le_by_counts 64 xs a.once (λ x h. zero-or (count_of x xs) (λ some. let l = a.low x some in absurd (omega arith)))
  where
    zero-or : (k : ℕ) → (0 < k → k ≡ 0) → k ≡ 0
    zero-or k f = elim (eqb_tells k 0) [ inl e ↦ e.1 | inr e ↦ f (omega (arith, e.1)) ]

-- there is room for one more
pub numbers-room : (xs : List ℕ) (n : ℕ) → AreNumbers xs → n < 64 → count_of n xs ≡ 0 → length xs < 64
numbers-room xs n a low fresh =
    let more = numbers-push xs n a low fresh in
    let high : (x : ℕ) → 64 ≤ x → count_of x (xs ++ n ∷ []) ≡ 0 = λ x h. zero-or (count_of x (xs ++ n ∷ [])) (λ some. let l = more.low x some in absurd (omega arith)) in
    let few = length-le_by_counts 64 (xs ++ n ∷ []) more.once high in
    omega (arith, few, length-append xs (n ∷ []))
  where
    zero-or : (k : ℕ) → (0 < k → k ≡ 0) → k ≡ 0
    zero-or k f = elim (eqb_tells k 0) [ inl e ↦ e.1 | inr e ↦ f (omega (arith, e.1)) ]

-- matches of numbers

pub count-matches : (counts : List (Option ℕ)) (xs : List ℕ) (x : ℕ) → count_of x (matched (matches_in counts xs)) ≡ count_of x xs
count-matches counts [] x = refl
count-matches counts (y ∷ xs) x = ap (λ k. (if y == x then 1 else 0) + k) (count-matches counts xs x)

pub length-matches : (counts : List (Option ℕ)) (xs : List ℕ) → length (matches_in counts xs) ≡ length xs
length-matches counts [] = refl
length-matches counts (y ∷ xs) = ap suc (length-matches counts xs)

pub matches-set : (counts : List (Option ℕ)) (xs : List ℕ) (n : ℕ) (v : Option ℕ) → count_of n xs ≡ 0 → matches_in (set counts n v) xs ≡ matches_in counts xs
matches-set counts [] n v h = refl
matches-set counts (y ∷ xs) n v h =
    elim (eqb_tells y n) [
      | inl e ↦ absurd (omega (arith, count-same n y xs e.1))
      | inr e ↦
          let here : get_or (set counts n v) y None ≡ get_or counts y None = get_or-set_other counts n y v None e.1 in
          ap (λ o. (y, count_or_zero o) ∷ matches_in (set counts n v) xs) here ∙ ap (λ ms. match_in counts y ∷ ms) (matches-set counts xs n v (sym (count-other n y xs e.1) ∙ h))
    ]

pub matches-push : (counts : List (Option ℕ)) (xs : List ℕ) (n : ℕ) → matches_in counts (xs ++ n ∷ []) ≡ matches_in counts xs ++ match_in counts n ∷ []
matches-push counts [] n = refl
matches-push counts (y ∷ xs) n = ap (λ ms. match_in counts y ∷ ms) (matches-push counts xs n)

pub matches-without : (counts : List (Option ℕ)) (xs : List ℕ) (n : ℕ) → unmatched n (matches_in counts xs) ≡ matches_in counts (without n xs)
matches-without counts [] n = refl
matches-without counts (y ∷ xs) n =
    ap (λ ms. cond (not (y == n)) (match_in counts y ∷ ms) ms) (matches-without counts xs n)
    ∙ elim (y == n) as (λ b. cond (not b) (match_in counts y ∷ matches_in counts (without n xs)) (matches_in counts (without n xs)) ≡ matches_in counts (cond (not b) (y ∷ without n xs) (without n xs))) [ true ↦ refl | false ↦ refl ]

-- the count of a number that was given
pub match_of-matches : (counts : List (Option ℕ)) (xs : List ℕ) (n : ℕ) → (count_of n xs ≡ 0 → get_or counts n None ≡ None) → match_of n (matches_in counts xs) ≡ count_or_zero (get_or counts n None)
match_of-matches counts [] n h = sym (ap count_or_zero (h refl))
match_of-matches counts (y ∷ xs) n h =
    elim (eqb_tells y n) [
      | inl e ↦ ap (λ b. cond b (count_or_zero (get_or counts y None)) (match_of n (matches_in counts xs))) e.0 ∙ ap (λ x. count_or_zero (get_or counts x None)) e.1
      | inr e ↦
          ap (λ b. cond b (count_or_zero (get_or counts y None)) (match_of n (matches_in counts xs))) e.0 ∙ match_of-matches counts xs n (λ z. h (count-other n y xs e.1 ∙ z))
    ]

-- a slot has no match of another remainder
pub slot-other : (counts : List (Option ℕ)) (xs : List ℕ) (n r : ℕ) → (match_in counts n).1 % 64 ≢ r → with_remainder r (unmatched n (matches_in counts xs)) ≡ with_remainder r (matches_in counts xs)
slot-other counts [] n r ne = refl
slot-other counts (y ∷ xs) n r ne = elim (eqb_tells y n) [ inl e ↦ own e.0 e.1 (slot-other counts xs n r ne) | inr e ↦ other e.0 (slot-other counts xs n r ne) ]
  where
    own : (y == n) ≡ true → y ≡ n → with_remainder r (unmatched n (matches_in counts xs)) ≡ with_remainder r (matches_in counts xs)
        → with_remainder r (unmatched n (match_in counts y ∷ matches_in counts xs)) ≡ with_remainder r (match_in counts y ∷ matches_in counts xs)
    own e is rest =
        let out : ((match_in counts y).1 % 64 == r) ≡ false = elim (eqb_tells ((match_in counts y).1 % 64) r) [
          | inl t ↦ absurd (ne (sym (ap (λ z. (match_in counts z).1 % 64) is) ∙ t.1))
          | inr t ↦ t.0
        ] in
        ap (λ b. with_remainder r (cond (not b) (match_in counts y ∷ unmatched n (matches_in counts xs)) (unmatched n (matches_in counts xs)))) e
        ∙ rest ∙ sym (ap (λ b. cond b (match_in counts y ∷ with_remainder r (matches_in counts xs)) (with_remainder r (matches_in counts xs))) out)

    other : (y == n) ≡ false → with_remainder r (unmatched n (matches_in counts xs)) ≡ with_remainder r (matches_in counts xs)
        → with_remainder r (unmatched n (match_in counts y ∷ matches_in counts xs)) ≡ with_remainder r (match_in counts y ∷ matches_in counts xs)
    other e rest =
        ap (λ b. with_remainder r (cond (not b) (match_in counts y ∷ unmatched n (matches_in counts xs)) (unmatched n (matches_in counts xs)))) e
        ∙ ap (λ ms. cond ((match_in counts y).1 % 64 == r) (match_in counts y ∷ ms) ms) rest
