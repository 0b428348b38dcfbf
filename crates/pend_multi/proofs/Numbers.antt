-- Different objects.
use Rattle.std.proofs.Common.{◌≡◌, ◌≢◌, ℕ, zero, suc, ◌+◌, ◌<◌, ◌≤◌, List, [], ◌∷◌, ◌++◌, length, take, drop, get_or, refl, sym, ap, ◌∙◌, arith, inl, inr}
use Rattle.std.specs.Prelude.{if◌then◌else◌}
use Rattle.std.proofs.Math.Seq.{drop-cons}
use Rattle.std.proofs.lemmas.Bool.Decides.{eqb_tells}
use Rattle.std.proofs.lemmas.List.{take-append-drop}
use Rattle.kern_model.specs.State.{count_of}
use Rattle.kern_model.proofs.Lemmas.{count-append}

pub count-same : (x y : ℕ) (xs : List ℕ) → y ≡ x → count_of x (y ∷ xs) ≡ 1 + count_of x xs
count-same x y xs is = elim (eqb_tells y x) [ inl e ↦ ap (λ b. (if b then 1 else 0) + count_of x xs) e.0 | inr e ↦ absurd (e.1 is) ]

-- the list around an entry
pub around : (ids : List ℕ) (i : ℕ) → i < length ids → take i ids ++ get_or ids i 0 ∷ drop (suc i) ids ≡ ids
around ids i h = ap (λ xs. take i ids ++ xs) (sym (drop-cons ids i 0 h)) ∙ take-append-drop i ids

-- an entry does not stand among those before it
pub not-before : (ids : List ℕ) (i : ℕ) → ((o : ℕ) → count_of o ids ≤ 1) → i < length ids → count_of (get_or ids i 0) (take i ids) ≡ 0
not-before ids i different h =
    let o = get_or ids i 0 in
    let all : count_of o (take i ids ++ o ∷ drop (suc i) ids) ≡ count_of o ids = ap (λ xs. count_of o xs) (around ids i h) in
    let parts = count-append o (take i ids) (o ∷ drop (suc i) ids) in
    let here = count-same o o (drop (suc i) ids) refl in
    let once = different o in
    omega arith

count-taken : (ids : List ℕ) (i j : ℕ) → j < i → i ≤ length ids → 1 ≤ count_of (get_or ids j 0) (take i ids)
count-taken [] i j less h = absurd (omega arith)
count-taken (x ∷ xs) zero j less h = absurd (omega arith)
count-taken (x ∷ xs) (suc i) zero less h = let here = count-same x x (take i xs) refl in omega arith
count-taken (x ∷ xs) (suc i) (suc j) less h = let rest = count-taken xs i j (omega arith) (omega arith) in omega arith

-- two entries differ
pub apart : (ids : List ℕ) (i j : ℕ) → ((o : ℕ) → count_of o ids ≤ 1) → j < i → i < length ids → get_or ids j 0 ≢ get_or ids i 0
apart ids i j different less h e =
    let none = not-before ids i different h in
    let some = count-taken ids i j less (omega arith) in
    let same : count_of (get_or ids j 0) (take i ids) ≡ count_of (get_or ids i 0) (take i ids) = ap (λ o. count_of o (take i ids)) e in
    absurd (omega arith)
