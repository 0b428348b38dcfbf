-- How often a task stands in the lists of the kernel after a change of one or more of them.
use Rattle.kern_model.proofs.Common.{◌≡◌, ◌≢◌, ℕ, zero, suc, ◌<◌, ◌≤◌, ◌+◌, List, [], ◌∷◌, length, refl, sym, ap, ◌∙◌, subst, cond, not, arith, inl, inr, insert, ◌==◌, All, list_at, update_list, without, count_of, wait_place, joined, left_all, stands_in, unmatched, one_if, matched}
use Rattle.std.proofs.lemmas.List.{length-set, get_or-set_same, get_or-set_other}
use Rattle.std.proofs.lemmas.List.Elements.{All-filter, All-head, All-tail}
use Rattle.std.proofs.lemmas.Bool.Decides.{eqb_tells}
use Rattle.kern_model.proofs.Lists.Counts.{count-insert, count-without_other, count-without_same}

-- the list at i after a change that leaves the empty list empty
pub list-same : (f : List ℕ → List ℕ) → f [] ≡ [] → (lists : List (List ℕ)) (i : ℕ) → list_at (update_list lists i f) i ≡ f (list_at lists i)
list-same f none [] i = sym none
list-same f none (xs ∷ lists) zero = refl
list-same f none (xs ∷ lists) (suc i) = list-same f none lists i

pub list-inside : (f : List ℕ → List ℕ) (lists : List (List ℕ)) (i : ℕ) → i < length lists → list_at (update_list lists i f) i ≡ f (list_at lists i)
list-inside f lists i h = get_or-set_same lists i (f (list_at lists i)) [] h

pub list-other : (f : List ℕ → List ℕ) (lists : List (List ℕ)) (i q : ℕ) → i ≢ q → list_at (update_list lists i f) q ≡ list_at lists q
list-other f lists i q h = get_or-set_other lists i q (f (list_at lists i)) [] (λ d. h (sym d))

-- x joins the list at p
module _ (place : List ℕ → ℕ) (x p : ℕ) (lists : List (List ℕ)) where
  pub count-joined_other : (q y : ℕ) → x ≢ y → p < length lists → count_of y (list_at (joined place x p lists) q) ≡ count_of y (list_at lists q)
  count-joined_other q y d h =
      let xs = list_at lists p in
      elim (eqb_tells p q) [
        | inl e ↦ subst (λ z. count_of y (list_at (joined place x p lists) z) ≡ count_of y (list_at lists z)) e.1
            (ap (λ l. count_of y l) (list-inside (λ ys. insert ys (place ys) x) lists p h)
            ∙ count-insert y x xs (place xs)
            ∙ elim (eqb_tells x y) as (λ _. one_if (x == y) + count_of y xs ≡ count_of y xs) [ inl s ↦ absurd (d s.1) | inr s ↦ omega (arith, ap one_if s.0) ])
        | inr e ↦ ap (λ l. count_of y l) (list-other (λ ys. insert ys (place ys) x) lists p q e.1)
      ]

  pub count-joined_own : (q : ℕ) → p < length lists → count_of x (list_at (joined place x p lists) q) ≡ one_if (p == q) + count_of x (list_at lists q)
  count-joined_own q h =
      let xs = list_at lists p in
      elim (eqb_tells p q) [
        | inl e ↦ subst (λ z. count_of x (list_at (joined place x p lists) z) ≡ one_if (p == z) + count_of x (list_at lists z)) e.1
            (ap (λ l. count_of x l) (list-inside (λ ys. insert ys (place ys) x) lists p h)
            ∙ count-insert x x xs (place xs)
            ∙ ap (λ n. n + count_of x xs) (self x ∙ sym (self p)))
        | inr e ↦ ap (λ l. count_of x l) (list-other (λ ys. insert ys (place ys) x) lists p q e.1) ∙ omega (arith, ap one_if e.0)
      ]
    where
      self : (n : ℕ) → one_if (n == n) ≡ 1
      self n = elim (eqb_tells n n) [ inl e ↦ ap one_if e.0 | inr e ↦ absurd (e.1 refl) ]

-- x leaves the list at p
module _ (x p : ℕ) (lists : List (List ℕ)) where
  pub count-left_other : (q y : ℕ) → x ≢ y → count_of y (list_at (update_list lists p (without x)) q) ≡ count_of y (list_at lists q)
  count-left_other q y d =
      elim (eqb_tells p q) [
        | inl e ↦ subst (λ z. count_of y (list_at (update_list lists p (without x)) z) ≡ count_of y (list_at lists z)) e.1
            (ap (λ l. count_of y l) (list-same (without x) refl lists p) ∙ count-without_other y x (list_at lists p) (λ s. d (sym s)))
        | inr e ↦ ap (λ l. count_of y l) (list-other (without x) lists p q e.1)
      ]

  pub count-left_here : count_of x (list_at (update_list lists p (without x)) p) ≡ 0
  count-left_here = ap (λ l. count_of x l) (list-same (without x) refl lists p) ∙ count-without_same x (list_at lists p)

  pub count-left_none : (q : ℕ) → count_of x (list_at lists q) ≡ 0 → count_of x (list_at (update_list lists p (without x)) q) ≡ 0
  count-left_none q h =
      elim (eqb_tells p q) [
        | inl e ↦ subst (λ z. count_of x (list_at (update_list lists p (without x)) z) ≡ 0) e.1 count-left_here
        | inr e ↦ ap (λ l. count_of x l) (list-other (without x) lists p q e.1) ∙ h
      ]

-- x leaves the lists of these objects
pub count-left_all_other : (x : ℕ) (os : List ℕ) (lists : List (List ℕ)) (q y : ℕ) → x ≢ y → count_of y (list_at (left_all x os lists) q) ≡ count_of y (list_at lists q)
count-left_all_other x [] lists q y d = refl
count-left_all_other x (o ∷ os) lists q y d = count-left_all_other x os (update_list lists o (without x)) q y d ∙ count-left_other x o lists q y d

pub count-left_all_none : (x : ℕ) (os : List ℕ) (lists : List (List ℕ)) (q : ℕ) → count_of x (list_at lists q) ≡ 0 → count_of x (list_at (left_all x os lists) q) ≡ 0
count-left_all_none x [] lists q h = h
count-left_all_none x (o ∷ os) lists q h = count-left_all_none x os (update_list lists o (without x)) q (count-left_none x o lists q h)

pub count-left_all_here : (x : ℕ) (os : List ℕ) (lists : List (List ℕ)) (q : ℕ) → count_of x (list_at lists q) ≤ count_of q os → count_of x (list_at (left_all x os lists) q) ≡ 0
count-left_all_here x [] lists q h = omega arith
count-left_all_here x (o ∷ os) lists q h =
    elim (eqb_tells o q) [
      | inl e ↦ count-left_all_none x os (update_list lists o (without x)) q
          (subst (λ z. count_of x (list_at (update_list lists o (without x)) z) ≡ 0) e.1 (count-left_here x o lists))
      | inr e ↦ count-left_all_here x os (update_list lists o (without x)) q
          (subst (λ l. count_of x l ≤ count_of q os) (sym (list-other (without x) lists o q e.1)) (omega (arith, h, ap one_if e.0)))
    ]

-- x joins the waiters of these objects
module _ (prio : ℕ → ℕ) (x p : ℕ) where
  pub count-stands_in_other : (os : List ℕ) (lists : List (List ℕ)) (q y : ℕ) → x ≢ y → All (λ o. o < length lists) os → count_of y (list_at (stands_in prio x p os lists) q) ≡ count_of y (list_at lists q)
  count-stands_in_other [] lists q y d h = refl
  count-stands_in_other (o ∷ os) lists q y d h =
      let place = wait_place prio p in
      let more = joined place x o lists in
      count-stands_in_other os more q y d (subst (λ n. All (λ i. i < n) os) (sym (length-set lists o _)) (All-tail (λ i. i < length lists) o os h))
      ∙ count-joined_other place x o lists q y d (All-head (λ i. i < length lists) o os h)

  pub count-stands_in_own : (os : List ℕ) (lists : List (List ℕ)) (q : ℕ) → All (λ o. o < length lists) os → count_of x (list_at (stands_in prio x p os lists) q) ≡ count_of q os + count_of x (list_at lists q)
  count-stands_in_own [] lists q h = omega arith
  count-stands_in_own (o ∷ os) lists q h =
      let place = wait_place prio p in
      let more = joined place x o lists in
      omega (arith, count-stands_in_own os more q (subst (λ n. All (λ i. i < n) os) (sym (length-set lists o _)) (All-tail (λ i. i < length lists) o os h)), count-joined_own place x o lists q (All-head (λ i. i < length lists) o os h))

-- matches
pub count-unmatched_other : (x : ℕ) (ms : List (ℕ × ℕ)) (y : ℕ) → x ≢ y → count_of y (matched (unmatched x ms)) ≡ count_of y (matched ms)
count-unmatched_other x [] y d = refl
count-unmatched_other x (m ∷ ms) y d =
    elim (eqb_tells m.0 x) as (λ _. count_of y (matched (cond (not (m.0 == x)) (m ∷ unmatched x ms) (unmatched x ms))) ≡ one_if (m.0 == y) + count_of y (matched ms)) [
      | inl e ↦ ap (λ b. count_of y (matched (cond (not b) (m ∷ unmatched x ms) (unmatched x ms)))) e.0 ∙ count-unmatched_other x ms y d
          ∙ elim (eqb_tells m.0 y) as (λ _. count_of y (matched ms) ≡ one_if (m.0 == y) + count_of y (matched ms)) [ inl s ↦ absurd (d (sym e.1 ∙ s.1)) | inr s ↦ omega (arith, ap one_if s.0) ]
      | inr e ↦ ap (λ b. count_of y (matched (cond (not b) (m ∷ unmatched x ms) (unmatched x ms)))) e.0 ∙ ap (λ n. one_if (m.0 == y) + n) (count-unmatched_other x ms y d)
    ]

pub count-unmatched_own : (x : ℕ) (ms : List (ℕ × ℕ)) → count_of x (matched (unmatched x ms)) ≡ 0
count-unmatched_own x [] = refl
count-unmatched_own x (m ∷ ms) =
    elim (eqb_tells m.0 x) as (λ _. count_of x (matched (cond (not (m.0 == x)) (m ∷ unmatched x ms) (unmatched x ms))) ≡ 0) [
      | inl e ↦ ap (λ b. count_of x (matched (cond (not b) (m ∷ unmatched x ms) (unmatched x ms)))) e.0 ∙ count-unmatched_own x ms
      | inr e ↦ ap (λ b. count_of x (matched (cond (not b) (m ∷ unmatched x ms) (unmatched x ms)))) e.0 ∙ omega (arith, ap one_if e.0, count-unmatched_own x ms)
    ]

pub unmatched-keeps : (P : ℕ × ℕ → Type 0) (x : ℕ) (ms : List (ℕ × ℕ)) → All P ms → All P (unmatched x ms)
unmatched-keeps P x ms h = All-filter (λ m. not (m.0 == x)) P ms h
