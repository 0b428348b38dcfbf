-- What a link that is made or removed does to the lists: what the crates of lists cite.
use Rattle.std.proofs.Common.{◌≡◌, ◌≢◌, ℕ, suc, not, ◌+◌, ◌<◌, ◌≤◌, ◌==◌, List, [], ◌∷◌, ◌++◌, length, get_or, set, take, drop, refl, sym, ap, subst, ◌∙◌, arith, inl, inr, get_or-set_same}
use Rattle.std.proofs.lemmas.List.{drop_all, take-append-drop}
use Rattle.std.proofs.Math.Seq.{drop-cons}
use Rattle.std.proofs.lemmas.Bool.Decides.{eqb_tells}
use Rattle.links.proofs.Runs.{last_in}
use Rattle.std.proofs.lemmas.List.Elements.{filter-append}
use Rattle.links.specs.Chain.{times, total, list_at, AreChained, forward_lists, back_lists, last_of, first_of, linked_after, unlinked_after, without, inserted, left, node_before}
use Rattle.links.proofs.Times.{times_here, times_other, times-le, times-append, times_apart, times_split, total_at, total-set}
use Rattle.links.proofs.Both.{forward_count, back_count, next-last, next-node, prev-node, forward-link, forward-unlink, back-link, back-unlink, forward_once, forward_low, back_once}

pub without_none : (x : ℕ) (xs : List ℕ) → times x xs ≡ 0 → without x xs ≡ xs
without_none x [] none = refl
without_none x (y ∷ xs) none =
    let ne : y ≢ x = times_apart y x (y ∷ xs) (let here = times_here y xs in omega arith) none in
    let rest = without_none x xs (let more = times-le x y xs in omega arith) in
    grind (arith, rest)

without_here : (x : ℕ) (xs : List ℕ) → without x (x ∷ xs) ≡ without x xs
without_here x xs = grind arith

pub times-without : (x : ℕ) (xs : List ℕ) → times x (without x xs) ≡ 0
times-without x [] = refl
times-without x (y ∷ xs) = let rest = times-without x xs in grind (arith, rest)

pub times-without-le : (x y : ℕ) (xs : List ℕ) → times x (without y xs) ≤ times x xs
times-without-le x y [] = omega arith
times-without-le x y (z ∷ xs) = let rest = times-without-le x y xs in grind (arith, rest)

-- a list that a number leaves gets none
pub total-left-le : (lists : List (List ℕ)) (p x y : ℕ) → p < length lists → total x (left lists p y) ≤ total x lists
total-left-le lists p x y h = let now = total-set x lists p (without y (list_at lists p)) h in let less = times-without-le x y (list_at lists p) in omega (arith, now, less)

-- a number that stands once leaves
pub without_split : (x : ℕ) (us vs : List ℕ) → times x (us ++ x ∷ vs) ≤ 1 → without x (us ++ x ∷ vs) ≡ us ++ vs
without_split x us vs once =
    let parts = times-append x us (x ∷ vs) in let here = times_here x vs in
    let left : without x us ≡ us = without_none x us (omega arith) in
    let right : without x vs ≡ vs = without_none x vs (omega arith) in
    filter-append (λ y. not (y == x)) us (x ∷ vs) ∙ ap (λ zs. zs ++ without x (x ∷ vs)) left ∙ ap (λ zs. us ++ zs) (without_here x vs ∙ right)

module _ (first count : ℕ) (n m : List ℕ) (r : AreChained first count n m) where
  abbrev F : List (List ℕ)
  F = forward_lists first count n

  abbrev B : List (List ℕ)
  B = back_lists first count m

  -- ---- a node joins
  -- c is the node before the place
  pub forward-inserted : (p y i c : ℕ) → p < count → y < first → total y F ≡ 0 → c ≡ node_before (first + p) (list_at F p) i
      → (forward_lists first count (linked_after n c y) ≡ inserted F p i y) × AreChained first count (linked_after n c y) m
  forward-inserted p y i c h low fresh is =
      let xs = list_at F p in
      subst (λ d. (forward_lists first count (linked_after n d y) ≡ inserted F p i y) × AreChained first count (linked_after n d y) m) (sym is)
      (forward-link first count n m r p y (take i xs) (drop i xs) h low fresh (take-append-drop i xs))

  -- the node joined the forward list before
  pub back-inserted : (p y i a : ℕ) → p < count → y < first → F ≡ inserted B p i y → total y B ≡ 0 → a ≡ get_or n y 0
      → (back_lists first count (linked_after m a y) ≡ inserted B p i y) × AreChained first count n (linked_after m a y)
  back-inserted p y i a h low half fresh is =
      let xs = list_at B p in let us = take i xs in let vs = drop i xs in let many = back_count first count n m r in
      let at : us ++ y ∷ vs ≡ list_at F p = sym (get_or-set_same B p (us ++ y ∷ vs) [] (omega arith)) ∙ ap (λ ls. list_at ls p) (sym half) in
      let is' : first_of vs (first + p) ≡ a = sym (next-node first count n m r p y us vs h at) ∙ sym is in
      subst (λ d. (back_lists first count (linked_after m d y) ≡ inserted B p i y) × AreChained first count n (linked_after m d y)) is'
      (back-link first count n m r p y us vs h low fresh (take-append-drop i xs))

  -- ---- a node leaves
  forward_left_at : (p y c : ℕ) → p < count → F ≡ B → 0 < times y (list_at F p) → c ≡ get_or m y 0
      → (forward_lists first count (unlinked_after n c y) ≡ left F p y) × AreChained first count (unlinked_after n c y) m
  forward_left_at p y c h whole stands is =
      let parts = times_split y (list_at F p) stands in let us = parts.0 in let vs = parts.1 in
      let at : us ++ y ∷ vs ≡ list_at B p = parts.2 ∙ ap (λ ls. list_at ls p) whole in
      let is' : last_of (first + p) us ≡ c = sym (prev-node first count n m r p y us vs h at) ∙ sym is in
      let once = subst (λ zs. times y zs ≤ 1) (sym parts.2) (forward_once first count n m r p y h) in
      let gone : us ++ vs ≡ without y (us ++ y ∷ vs) = sym (without_split y us vs once) in
      let now = forward-unlink first count n m r p y us vs h parts.2 in
      subst (λ d. (forward_lists first count (unlinked_after n d y) ≡ left F p y) × AreChained first count (unlinked_after n d y) m) is'
      (now.0 ∙ ap (set F p) (gone ∙ ap (without y) parts.2), now.1)

  -- a node that left stands nowhere
  pub left-nowhere : (p y : ℕ) → p < count → 0 < times y (list_at F p) → total y (left F p y) ≡ 0
  left-nowhere p y h stands =
      let many = forward_count first count n m r in let all = r.forward_chains.once y in
      let now = total-set y F p (without y (list_at F p)) (omega arith) in let none = times-without y (list_at F p) in
      omega (arith, now, none, all, stands)

  -- both lists are the same before
  pub forward-left : (y c : ℕ) → F ≡ B → 0 < total y F → c ≡ get_or m y 0
      → ((p : ℕ) → p < count → 0 < times y (list_at F p) → forward_lists first count (unlinked_after n c y) ≡ left F p y)
      × (total y (forward_lists first count (unlinked_after n c y)) ≡ 0)
      × AreChained first count (unlinked_after n c y) m
  forward-left y c whole stands is =
      let some = total_at y F stands in let many = forward_count first count n m r in
      let low : some.0 < count = omega (arith, some.1, many) in
      let at = forward_left_at some.0 y c low whole some.2 is in
      (λ p h here. (forward_left_at p y c h whole here is).0, ap (total y) at.0 ∙ left-nowhere some.0 y low some.2, at.1)

  -- the node left the forward list before
  pub back-left : (p y b a : ℕ) → p < count → F ≡ left B p y → 0 < times y (list_at B p) → b ≡ get_or m y 0 → a ≡ get_or n b 0
      → (back_lists first count (unlinked_after m a y) ≡ left B p y) × AreChained first count n (unlinked_after m a y)
  back-left p y b a h half stands is_b is_a =
      let parts = times_split y (list_at B p) stands in let us = parts.0 in let vs = parts.1 in let many = back_count first count n m r in
      let once = subst (λ zs. times y zs ≤ 1) (sym parts.2) (back_once first count n m r p y h) in
      let gone : us ++ vs ≡ without y (us ++ y ∷ vs) = sym (without_split y us vs once) in
      let at : us ++ vs ≡ list_at F p = gone ∙ ap (without y) parts.2 ∙ sym (get_or-set_same B p (without y (list_at B p)) [] (omega arith)) ∙ ap (λ ls. list_at ls p) (sym half) in
      let before : b ≡ last_of (first + p) us = is_b ∙ prev-node first count n m r p y us vs h parts.2 in
      let is' : first_of vs (first + p) ≡ a = sym (next-last first count n m r p us vs h at) ∙ ap (λ x. get_or n x 0) (sym before) ∙ sym is_a in
      let now = back-unlink first count n m r p y us vs h parts.2 in
      subst (λ d. (back_lists first count (unlinked_after m d y) ≡ left B p y) × AreChained first count n (unlinked_after m d y)) is'
      (now.0 ∙ ap (set B p) (gone ∙ ap (without y) parts.2), now.1)

  -- ---- places
  pub node_before-low : (p i : ℕ) → p < count → node_before (first + p) (list_at F p) i < first + count
  node_before-low p i h =
      let xs = list_at F p in let us = take i xs in let c = last_of (first + p) us in
      let some = last_in (first + p) us in
      elim (eqb_tells (first + p) c) [
        | inl e ↦ omega (arith, e.1)
        | inr e ↦
            let mine = times_other c (first + p) us e.1 in
            let parts : times c us + times c (drop i xs) ≡ times c xs = sym (times-append c us (drop i xs)) ∙ ap (times c) (take-append-drop i xs) in
            let low = forward_low first count n m r p c h (omega arith) in omega arith
      ]

  -- the node behind a place is the entry there
  pub next-entry : (p i : ℕ) → p < count → i < length (list_at F p) → (get_or n (node_before (first + p) (list_at F p) i) 0 ≡ get_or (list_at F p) i 0) × (get_or (list_at F p) i 0 < first)
  next-entry p i h inside =
      let xs = list_at F p in let us = take i xs in let x = get_or xs i 0 in
      let parts : drop i xs ≡ x ∷ drop (suc i) xs = drop-cons xs i 0 inside in
      let whole : us ++ x ∷ drop (suc i) xs ≡ xs = ap (λ zs. us ++ zs) (sym parts) ∙ take-append-drop i xs in
      let some : 0 < times x xs = subst (λ zs. 0 < times x zs) whole (let cut = times-append x us (x ∷ drop (suc i) xs) in let here = times_here x (drop (suc i) xs) in omega arith) in
      (next-last first count n m r p us (x ∷ drop (suc i) xs) h whole, forward_low first count n m r p x h some)

  -- behind the last entry comes the head
  pub next-head : (p i : ℕ) → p < count → length (list_at F p) ≤ i → get_or n (node_before (first + p) (list_at F p) i) 0 ≡ first + p
  next-head p i h outside =
      let xs = list_at F p in
      next-last first count n m r p (take i xs) (drop i xs) h (take-append-drop i xs) ∙ ap (λ zs. first_of zs (first + p)) (drop_all i xs outside)
