-- The least of a run of nodes, and what a write does to the nodes above it.
use Rattle.std.proofs.Common.{◌≡◌, ℕ, zero, suc, ◌+◌, ◌-◌, ◌*◌, ◌/◌, ◌%◌, ◌<◌, ◌≤◌, List, [], ◌∷◌, ◌++◌, length, get_or, take, drop, refl, sym, ap, ◌∙◌, subst, arith, drop-cons}
use Rattle.std.specs.Prelude.{min, slice_index}
use Rattle.std.proofs.lemmas.List.{take_more, get_or-drop, length-drop}
use Rattle.isr_nesting.specs.Least.{least, nothing}
use Rattle.isr_nesting.specs.Tree.{IsNode}

-- the least of m nodes from a place on
abbrev pub run : List ℕ → ℕ → ℕ → ℕ
run xs l m = least (take m (drop l xs))

pub least-low : (xs : List ℕ) → least xs ≤ nothing
least-low [] = omega arith
least-low (x ∷ xs) = omega (arith, least-low xs)

pub least-more : (xs : List ℕ) (y : ℕ) → least (xs ++ y ∷ []) ≡ min (least xs) (min y nothing)
least-more [] y = omega arith
least-more (x ∷ xs) y = omega (arith, least-more xs y)

pub run-first : (xs : List ℕ) (l m : ℕ) → l < length xs → run xs l (suc m) ≡ min (slice_index xs l) (run xs (suc l) m)
run-first xs l m h = rw (drop-cons xs l 0) refl

pub run-last : (xs : List ℕ) (l m : ℕ) → l + m < length xs → run xs l (m + 1) ≡ min (run xs l m) (min (slice_index xs (l + m)) nothing)
run-last xs l m h =
    let here : m < length (drop l xs) = omega (arith, length-drop l xs) in
    ap least (take_more (drop l xs) m 0 here)
    ∙ least-more (take m (drop l xs)) (get_or (drop l xs) m 0)
    ∙ ap (λ v. min (run xs l m) (min v nothing)) (get_or-drop l xs m 0)

-- a run of nodes has the least of the run below it
pub run-above : (xs : List ℕ) (l m : ℕ) → 2 * (l + m) ≤ length xs → ((i : ℕ) → l ≤ i → i < l + m → IsNode xs i) → run xs (2 * l) (2 * m) ≡ run xs l m
run-above xs l zero h nodes = refl
run-above xs l (suc m) h nodes =
    let more : run xs (2 * suc l) (2 * m) ≡ run xs (suc l) m = run-above xs (suc l) m (omega arith) (λ i low high. nodes i (omega arith) (omega arith)) in
    let here : IsNode xs l = nodes l (omega arith) (omega arith) in
    let two : 2 * suc m ≡ suc (suc (2 * m)) = omega arith in
    let place : suc (suc (2 * l)) ≡ 2 * suc l = omega arith in
    let one : 2 * l + 1 ≡ suc (2 * l) = omega arith in
    let left : run xs (2 * l) (suc (suc (2 * m))) ≡ min (slice_index xs (2 * l)) (run xs (suc (2 * l)) (suc (2 * m))) = run-first xs (2 * l) (suc (2 * m)) (omega arith) in
    let right : run xs (suc (2 * l)) (suc (2 * m)) ≡ min (slice_index xs (suc (2 * l))) (run xs (suc (suc (2 * l))) (2 * m)) = run-first xs (suc (2 * l)) (2 * m) (omega arith) in
    let top : run xs l (suc m) ≡ min (slice_index xs l) (run xs (suc l) m) = run-first xs l m (omega arith) in
    let rest : run xs (suc (suc (2 * l))) (2 * m) ≡ run xs (suc l) m = ap (λ n. run xs n (2 * m)) place ∙ more in
    let child : slice_index xs (2 * l + 1) ≡ slice_index xs (suc (2 * l)) = ap (λ n. slice_index xs n) one in
    let all : run xs (2 * l) (suc (suc (2 * m))) ≡ run xs l (suc m) = omega (arith, left, right, top, rest, here, child) in
    ap (λ n. run xs (2 * l) n) two ∙ all

-- the first of a run from an odd place on is looked at by itself
pub left-odd : (xs : List ℕ) (low high best : ℕ) → low < high → high ≤ length xs → low % 2 ≡ 1 → min best (run xs low (high - low)) ≡ min (min best (slice_index xs low)) (run xs (2 * ((low + 1) / 2)) (high - 2 * ((low + 1) / 2)))
left-odd xs low high best h long odd =
    let place : 2 * ((low + 1) / 2) ≡ suc low = omega arith in
    let count : high - low ≡ suc (high - suc low) = omega arith in
    let first : run xs low (suc (high - suc low)) ≡ min (slice_index xs low) (run xs (suc low) (high - suc low)) = run-first xs low (high - suc low) (omega arith) in
    let all : min best (run xs low (suc (high - suc low))) ≡ min (min best (slice_index xs low)) (run xs (suc low) (high - suc low)) = omega (arith, first) in
    subst (λ n. min best (run xs low n) ≡ min (min best (slice_index xs low)) (run xs (2 * ((low + 1) / 2)) (high - 2 * ((low + 1) / 2)))) (sym count)
    (subst (λ n. min best (run xs low (suc (high - suc low))) ≡ min (min best (slice_index xs low)) (run xs n (high - n))) (sym place) all)

pub left-even : (xs : List ℕ) (low high best : ℕ) → (low % 2 ≡ 1 → ⊥) → min best (run xs low (high - low)) ≡ min best (run xs (2 * ((low + 1) / 2)) (high - 2 * ((low + 1) / 2)))
left-even xs low high best even =
    let place : low ≡ 2 * ((low + 1) / 2) = omega arith in
    ap (λ n. min best (run xs n (high - n))) place

-- and so is the last of a run up to an odd place
pub right-odd : (xs : List ℕ) (low high best : ℕ) → low < high → high ≤ length xs → best ≤ nothing → high % 2 ≡ 1 → min best (run xs low (high - low)) ≡ min (min best (slice_index xs (high - 1))) (run xs low (2 * (high / 2) - low))
right-odd xs low high best h long small odd =
    let place : 2 * (high / 2) ≡ high - 1 = omega arith in
    let count : high - low ≡ (high - 1 - low) + 1 = omega arith in
    let end : low + (high - 1 - low) ≡ high - 1 = omega arith in
    let last : run xs low ((high - 1 - low) + 1) ≡ min (run xs low (high - 1 - low)) (min (slice_index xs (low + (high - 1 - low))) nothing) = run-last xs low (high - 1 - low) (omega arith) in
    let there : slice_index xs (low + (high - 1 - low)) ≡ slice_index xs (high - 1) = ap (λ n. slice_index xs n) end in
    let all : min best (run xs low ((high - 1 - low) + 1)) ≡ min (min best (slice_index xs (high - 1))) (run xs low (high - 1 - low)) = omega (arith, last, there) in
    subst (λ n. min best (run xs low n) ≡ min (min best (slice_index xs (high - 1))) (run xs low (2 * (high / 2) - low))) (sym count)
    (subst (λ n. min best (run xs low ((high - 1 - low) + 1)) ≡ min (min best (slice_index xs (high - 1))) (run xs low (n - low))) (sym place) all)

pub right-even : (xs : List ℕ) (low high best : ℕ) → (high % 2 ≡ 1 → ⊥) → min best (run xs low (high - low)) ≡ min best (run xs low (2 * (high / 2) - low))
right-even xs low high best even =
    let place : high ≡ 2 * (high / 2) = omega arith in
    ap (λ n. min best (run xs low (n - low))) place

-- the rest of the run has the least of the run above it
pub run-halved : (xs : List ℕ) (n a b : ℕ) → length xs ≡ 2 * n → 1 ≤ a → a ≤ b → b ≤ n → ((i : ℕ) → 1 ≤ i → i < n → IsNode xs i) → run xs (2 * a) (2 * b - 2 * a) ≡ run xs a (b - a)
run-halved xs n a b size some ordered inside nodes =
    let twice : 2 * b - 2 * a ≡ 2 * (b - a) = omega arith in
    ap (λ m. run xs (2 * a) m) twice ∙ run-above xs a (b - a) (omega arith) (λ i low high. nodes i (omega arith) (omega arith))
