-- How often a number stands in a list, and in the lists.
use Rattle.std.proofs.Common.{◌≡◌, ◌≢◌, ℕ, suc, ◌+◌, ◌<◌, ◌≤◌, List, [], ◌∷◌, ◌++◌, length, get_or, set, take, drop, insert, reverse, refl, sym, ap, subst, ◌∙◌, inl, inr, arith, zero-add, get_or-set_other, get_or-set_same, length-set}
use Rattle.std.proofs.Math.Nat.{eq-zero-or-pos, not-suc-le-zero}
use Rattle.std.proofs.lemmas.Bool.Decides.{eqb_tells}
use Rattle.std.proofs.lemmas.List.{reverse-append, take-append-drop}
use Rattle.std.proofs.lemmas.List.Sums.{get_or-le-sum_by, sum_by-cons, sum_by-set}
use Rattle.links.specs.Chain.{times, total, list_at, inserted}

pub times_here : (x : ℕ) (xs : List ℕ) → times x (x ∷ xs) ≡ 1 + times x xs
times_here x xs = grind arith

pub times_same : (x y : ℕ) (xs : List ℕ) → x ≡ y → times x (y ∷ xs) ≡ 1 + times x xs
times_same x y xs e = grind arith

pub times_other : (x y : ℕ) (xs : List ℕ) → y ≢ x → times x (y ∷ xs) ≡ times x xs
times_other x y xs ne = grind arith

pub times-le : (x y : ℕ) (xs : List ℕ) → times x xs ≤ times x (y ∷ xs)
times-le x y xs = grind arith

pub times-append : (x : ℕ) (xs ys : List ℕ) → times x (xs ++ ys) ≡ times x xs + times x ys
times-append x [] ys = sym (zero-add (times x ys))
times-append x (y ∷ xs) ys = let h = times-append x xs ys in omega (arith, h)

-- what stands in a list is not what does not
pub times_apart : (x y : ℕ) (xs : List ℕ) → 0 < times x xs → times y xs ≡ 0 → x ≢ y
times_apart x y xs h none e = let h' : 0 < times y xs = subst (λ z. 0 < times z xs) e h in absurd (not-suc-le-zero {n = 0} (omega arith))

pub times_single : (x y : ℕ) → 0 < times x (y ∷ []) → x ≡ y
times_single x y h = grind arith

pub times-reverse : (x : ℕ) (xs : List ℕ) → times x (reverse xs) ≡ times x xs
times-reverse x [] = refl
times-reverse x (y ∷ xs) =
    let back : reverse (y ∷ xs) ≡ reverse xs ++ y ∷ [] = reverse-append (y ∷ []) xs in
    let parts = times-append x (reverse xs) (y ∷ []) in
    let rest = times-reverse x xs in
    rw (back, parts) (omega (arith, rest))

-- a list in which x stands, in two parts around it
pub times_split : (x : ℕ) (xs : List ℕ) → 0 < times x xs → (us : List ℕ) × (vs : List ℕ) × (us ++ x ∷ vs ≡ xs)
times_split x [] h = absurd (not-suc-le-zero {n = 0} h)
times_split x (y ∷ xs) h =
    elim (eqb_tells y x) [
      | inl e ↦ ([], xs, ap (λ z. z ∷ xs) (sym e.1))
      | inr e ↦ let rest = times_split x xs (let same = times_other x y xs e.1 in omega (arith, same)) in (y ∷ rest.0, rest.1, ap (λ zs. y ∷ zs) rest.2)
    ]

pub times-insert : (x : ℕ) (xs : List ℕ) (i y : ℕ) → times x (insert xs i y) ≡ times x (y ∷ xs)
times-insert x xs i y =
    let cut = times-append x (take i xs) (y ∷ drop i xs) in
    let whole : times x (take i xs) + times x (drop i xs) ≡ times x xs = sym (times-append x (take i xs) (drop i xs)) ∙ ap (times x) (take-append-drop i xs) in
    elim (eqb_tells y x) [
      | inl e ↦ let one = times_same x y (drop i xs) (sym e.1) in let two = times_same x y xs (sym e.1) in omega (arith, cut, whole, one, two)
      | inr e ↦ let one = times_other x y (drop i xs) e.1 in let two = times_other x y xs e.1 in omega (arith, cut, whole, one, two)
    ]

-- ---- many lists
pub times-le-total : (x : ℕ) (lists : List (List ℕ)) (i : ℕ) → i < length lists → times x (list_at lists i) ≤ total x lists
times-le-total x lists i h = get_or-le-sum_by (times x) lists i [] h

-- two lists
pub times-two-le-total : (x : ℕ) (lists : List (List ℕ)) (i j : ℕ) → i < length lists → j < length lists → j ≢ i → times x (list_at lists i) + times x (list_at lists j) ≤ total x lists
times-two-le-total x lists i j h k ne =
    let moved : total x (set lists i []) + times x (get_or lists i []) ≡ total x lists + 0 = sum_by-set (times x) lists i [] [] h in
    let long : length (set lists i []) ≡ length lists = length-set lists i [] in
    let same : get_or (set lists i []) j [] ≡ get_or lists j [] = get_or-set_other lists i j [] [] ne in
    let one : times x (get_or (set lists i []) j []) ≤ total x (set lists i []) = times-le-total x (set lists i []) j (omega arith) in
    let one' : times x (get_or lists j []) ≤ total x (set lists i []) = rw same at one in
    omega arith

-- the list at i is replaced
pub total-set : (x : ℕ) (lists : List (List ℕ)) (i : ℕ) (ys : List ℕ) → i < length lists → total x (set lists i ys) + times x (list_at lists i) ≡ total x lists + times x ys
total-set x lists i ys h = sum_by-set (times x) lists i ys [] h

-- a list in which x stands
pub total_at : (x : ℕ) (lists : List (List ℕ)) → 0 < total x lists → (i : ℕ) × (i < length lists) × (0 < times x (list_at lists i))
total_at x [] h = absurd (not-suc-le-zero {n = 0} h)
total_at x (xs ∷ lists) h =
    let parts : total x (xs ∷ lists) ≡ times x xs + total x lists = sum_by-cons (times x) xs lists in
    elim (eq-zero-or-pos (times x xs)) [
      | inl none ↦ let rest = total_at x lists (omega (arith, none, parts)) in (suc rest.0, omega (arith, rest.1), rest.2)
      | inr some ↦ (0, omega arith, some)
    ]

-- x joins the list at p
pub total-inserted : (lists : List (List ℕ)) (p i x y : ℕ) → p < length lists → total x (inserted lists p i y) ≡ times x (y ∷ []) + total x lists
total-inserted lists p i x y h =
    let now = total-set x lists p (insert (list_at lists p) i y) h in
    let more = times-insert x (list_at lists p) i y in
    elim (eqb_tells y x) [
      | inl e ↦ let one = times_same x y (list_at lists p) (sym e.1) in let two = times_same x y [] (sym e.1) in omega (arith, now, more, one, two)
      | inr e ↦ let one = times_other x y (list_at lists p) e.1 in let two = times_other x y [] e.1 in omega (arith, now, more, one, two)
    ]

pub times-inserted : (lists : List (List ℕ)) (p i x y : ℕ) → p < length lists → times x (list_at (inserted lists p i y) p) ≡ times x (y ∷ list_at lists p)
times-inserted lists p i x y h = ap (times x) (get_or-set_same lists p (insert (list_at lists p) i y) [] h) ∙ times-insert x (list_at lists p) i y
