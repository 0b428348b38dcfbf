-- What lists that rise in priority number stay so under: a task leaves them, or joins them at its place.
use Rattle.kern_model.proofs.Common.{◌≡◌, ◌≢◌, ℕ, zero, suc, ◌≤◌, ◌+◌, List, [], ◌∷◌, map, refl, sym, ap, ◌∙◌, subst, cond, not, arith, inl, inr, ◌==◌, nat_le, insert, list_at, update_list, without, count_of, wait_place, left_all, stands_in, rewaited, one_if, Rises}
use Rattle.std.specs.List.{prefix_len}
use Rattle.std.proofs.lemmas.Bool.Decides.{eqb_tells, leb_tells}
use Rattle.std.proofs.lemmas.List.Folds.{length-prefix_len}
use Rattle.kern_model.proofs.Lists.Counts.{count-without_same}
use Rattle.kern_model.proofs.Lists.Members.{list-same, list-other}
use Rattle.kern_model.proofs.Basics.Choices.{choice_by}

-- a list that rises from a number on

rises-tail : (a : ℕ) (l : List ℕ) → Rises (a ∷ l) → Rises l
rises-tail a [] h = tt
rises-tail a (b ∷ l) h = h.1

rises-from : (a b : ℕ) (l : List ℕ) → a ≤ b → Rises (b ∷ l) → Rises (a ∷ l)
rises-from a b [] m h = tt
rises-from a b (c ∷ l) m h = (omega (arith, m, h.0), h.1)

rises-zero : (l : List ℕ) → Rises l → Rises (0 ∷ l)
rises-zero [] h = tt
rises-zero (b ∷ l) h = (omega arith, h)

rises-without_from : (f : ℕ → ℕ) (x a : ℕ) (xs : List ℕ) → Rises (a ∷ map f xs) → Rises (a ∷ map f (without x xs))
rises-without_from f x a [] h = tt
rises-without_from f x a (y ∷ ys) h =
    choice_by (λ zs. Rises (a ∷ map f zs)) (not (y == x)) (y ∷ without x ys) (without x ys)
    (λ _. (h.0, rises-without_from f x (f y) ys h.1))
    (λ _. rises-without_from f x a ys (rises-from a (f y) (map f ys) h.0 h.1))

-- a rising list still rises when x leaves it
pub rises-without : (f : ℕ → ℕ) (x : ℕ) (xs : List ℕ) → Rises (map f xs) → Rises (map f (without x xs))
rises-without f x xs h = rises-tail 0 (map f (without x xs)) (rises-without_from f x 0 xs (rises-zero (map f xs) h))

insert_past : (y x : ℕ) (ys : List ℕ) (n : ℕ) → insert (y ∷ ys) (1 + n) x ≡ y ∷ insert ys n x
insert_past y x ys n = let e : 1 + n ≡ suc n = omega arith in ap (λ i. insert (y ∷ ys) i x) e

rises-placed_from : (f : ℕ → ℕ) (x a : ℕ) (xs : List ℕ) → a ≤ f x → Rises (a ∷ map f xs) → Rises (a ∷ map f (insert xs (prefix_len (λ y. nat_le (f y) (f x)) xs) x))
rises-placed_from f x a [] m h = (m, tt)
rises-placed_from f x a (y ∷ ys) m h =
    let n = prefix_len (λ z. nat_le (f z) (f x)) ys in
    elim (leb_tells (f y) (f x)) [
      | inl e ↦ subst (λ zs. Rises (a ∷ map f zs)) (sym (ap (λ b. insert (y ∷ ys) (cond b (1 + n) 0) x) e.0 ∙ insert_past y x ys n))
          (h.0, rises-placed_from f x (f y) ys e.1 h.1)
      | inr e ↦ subst (λ zs. Rises (a ∷ map f zs)) (sym (ap (λ b. insert (y ∷ ys) (cond b (1 + n) 0) x) e.0))
          (m, (omega (arith, e.1), h.1))
    ]

-- it still rises when x joins it after those whose number is at most its own
pub rises-placed : (f : ℕ → ℕ) (x : ℕ) (xs : List ℕ) → Rises (map f xs) → Rises (map f (insert xs (wait_place f (f x) xs) x))
rises-placed f x xs h =
    subst (λ i. Rises (map f (insert xs i x))) (sym (length-prefix_len (λ y. nat_le (f y) (f x)) xs))
    (rises-tail 0 (map f (insert xs (prefix_len (λ y. nat_le (f y) (f x)) xs) x)) (rises-placed_from f x 0 xs (omega arith) (rises-zero (map f xs) h)))

pub map-same : (f g : ℕ → ℕ) → ((y : ℕ) → g y ≡ f y) → (xs : List ℕ) → map g xs ≡ map f xs
map-same f g same [] = refl
map-same f g same (y ∷ ys) = ap (λ n. n ∷ map g ys) (same y) ∙ ap (λ l. f y ∷ l) (map-same f g same ys)

-- priorities that differ at x alone are the same in a list without x
module _ (f g : ℕ → ℕ) (x : ℕ) (same : (y : ℕ) → x ≢ y → g y ≡ f y) where
  absent-head : (y : ℕ) (ys : List ℕ) → count_of x (y ∷ ys) ≡ 0 → x ≢ y
  absent-head y ys h = elim (eqb_tells y x) [ inl e ↦ absurd (omega (arith, h, ap one_if e.0)) | inr e ↦ (λ s. e.1 (sym s)) ]

  pub map-agree : (xs : List ℕ) → count_of x xs ≡ 0 → map g xs ≡ map f xs
  map-agree [] h = refl
  map-agree (y ∷ ys) h =
      let rest : count_of x ys ≡ 0 = omega (arith, h) in
      ap (λ n. n ∷ map g ys) (same y (absent-head y ys h)) ∙ ap (λ l. f y ∷ l) (map-agree ys rest)

  prefix_len-agree : (p : ℕ) (xs : List ℕ) → count_of x xs ≡ 0 → prefix_len (λ y. nat_le (f y) p) xs ≡ prefix_len (λ y. nat_le (g y) p) xs
  prefix_len-agree p [] h = refl
  prefix_len-agree p (y ∷ ys) h =
      let rest : count_of x ys ≡ 0 = omega (arith, h) in
      ap (λ n. cond (nat_le n p) (1 + prefix_len (λ z. nat_le (f z) p) ys) 0) (sym (same y (absent-head y ys h)))
      ∙ ap (λ n. cond (nat_le (g y) p) (1 + n) 0) (prefix_len-agree p ys rest)

  pub wait_place-agree : (p : ℕ) (xs : List ℕ) → count_of x xs ≡ 0 → wait_place f p xs ≡ wait_place g p xs
  wait_place-agree p xs h =
      length-prefix_len (λ y. nat_le (f y) p) xs ∙ prefix_len-agree p xs h ∙ sym (length-prefix_len (λ y. nat_le (g y) p) xs)

-- lists of waiters

changed_here : (P : List ℕ → Type 0) (f : List ℕ → List ℕ) (lists : List (List ℕ)) (o : ℕ) → P [] → P (f (list_at lists o)) → P (list_at (update_list lists o f) o)
changed_here P f [] o none h = none
changed_here P f (xs ∷ lists) zero none h = h
changed_here P f (xs ∷ lists) (suc o) none h = changed_here P f lists o none h

-- what holds of the empty list, of the changed list and of the others holds of each
pub list_changed : (P : List ℕ → Type 0) (f : List ℕ → List ℕ) (lists : List (List ℕ)) (o : ℕ) → P [] → P (f (list_at lists o)) → (q : ℕ) → (o ≢ q → P (list_at lists q)) → P (list_at (update_list lists o f) q)
list_changed P f lists o none h q others =
    elim (eqb_tells o q) [
      | inl e ↦ subst (λ z. P (list_at (update_list lists o f) z)) e.1 (changed_here P f lists o none h)
      | inr e ↦ subst P (sym (list-other f lists o q e.1)) (others e.1)
    ]

abbrev pub AllRise : (ℕ → ℕ) → List (List ℕ) → Type 0
AllRise f lists = (q : ℕ) → Rises (map f (list_at lists q))

pub rises-left_all : (f : ℕ → ℕ) (x : ℕ) (os : List ℕ) (lists : List (List ℕ)) → AllRise f lists → AllRise f (left_all x os lists)
rises-left_all f x [] lists h = h
rises-left_all f x (o ∷ os) lists h =
    rises-left_all f x os (update_list lists o (without x))
    (λ q. list_changed (λ l. Rises (map f l)) (without x) lists o tt (rises-without f x (list_at lists o) (h o)) q (λ d. h q))

pub rises-stands_in : (f : ℕ → ℕ) (x : ℕ) (os : List ℕ) (lists : List (List ℕ)) → AllRise f lists → AllRise f (stands_in f x (f x) os lists)
rises-stands_in f x [] lists h = h
rises-stands_in f x (o ∷ os) lists h =
    let join : List ℕ → List ℕ = λ xs. insert xs (wait_place f (f x) xs) x in
    rises-stands_in f x os (update_list lists o join)
    (λ q. list_changed (λ l. Rises (map f l)) join lists o tt (rises-placed f x (list_at lists o) (h o)) q (λ d. h q))

-- x leaves these lists and joins them again at its new number: priorities were f, and are g
module _ (f g : ℕ → ℕ) (x : ℕ) (same : (y : ℕ) → x ≢ y → g y ≡ f y) where
  -- every list without x rises
  abbrev pub RestRise : List (List ℕ) → Type 0
  RestRise lists = (q : ℕ) → Rises (map g (without x (list_at lists q)))

  pub rest-old : (lists : List (List ℕ)) → AllRise f lists → RestRise lists
  rest-old lists h q =
      subst Rises (sym (map-agree f g x same (without x (list_at lists q)) (count-without_same x (list_at lists q)))) (rises-without f x (list_at lists q) (h q))

  abbrev joins : List ℕ → List ℕ
  joins xs = insert xs (wait_place f (g x) xs) x

  abbrev again : ℕ → List (List ℕ) → List (List ℕ)
  again o lists = update_list (update_list lists o (without x)) o joins

  again-here : (o : ℕ) (lists : List (List ℕ)) → RestRise lists → Rises (map g (list_at (again o lists) o))
  again-here o lists rest =
      let ys = without x (list_at lists o) in
      changed_here (λ l. Rises (map g l)) joins (update_list lists o (without x)) o tt
      (subst (λ l. Rises (map g (joins l))) (sym (list-same (without x) refl lists o))
      (subst (λ i. Rises (map g (insert ys i x))) (sym (wait_place-agree f g x same (g x) ys (count-without_same x (list_at lists o)))) (rises-placed g x ys (rest o))))

  again-other : (o q : ℕ) (lists : List (List ℕ)) → o ≢ q → list_at (again o lists) q ≡ list_at lists q
  again-other o q lists d = list-other joins (update_list lists o (without x)) o q d ∙ list-other (without x) lists o q d

  rest-again : (o : ℕ) (lists : List (List ℕ)) → RestRise lists → RestRise (again o lists)
  rest-again o lists rest q =
      elim (eqb_tells o q) [
        | inl e ↦ subst (λ z. Rises (map g (without x (list_at (again o lists) z)))) e.1 (rises-without g x (list_at (again o lists) o) (again-here o lists rest))
        | inr e ↦ subst (λ l. Rises (map g (without x l))) (sym (again-other o q lists e.1)) (rest q)
      ]

  pub rises-rewaited : (os : List ℕ) (lists : List (List ℕ)) → RestRise lists → ((q : ℕ) → count_of q os ≡ 0 → Rises (map g (list_at lists q))) → AllRise g (rewaited f x (g x) os lists)
  rises-rewaited [] lists rest old = λ q. old q refl
  rises-rewaited (o ∷ os) lists rest old =
      rises-rewaited os (again o lists) (rest-again o lists rest)
      (λ q n. elim (eqb_tells o q) [
        | inl e ↦ subst (λ z. Rises (map g (list_at (again o lists) z))) e.1 (again-here o lists rest)
        | inr e ↦ subst (λ l. Rises (map g l)) (sym (again-other o q lists e.1)) (old q (omega (arith, n, ap one_if e.0)))
      ])
