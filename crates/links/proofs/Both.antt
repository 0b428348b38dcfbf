-- Chains of both directions, as the lists that they stand for: what heads and nodes read.
use Rattle.std.proofs.Common.{◌≡◌, ◌≢◌, ℕ, zero, suc, ◌+◌, ◌<◌, ◌≤◌, List, [], ◌∷◌, ◌++◌, length, get_or, set, map, reverse, replicate, refl, sym, ap, subst, ◌∙◌, arith, zero-add, length-set, append_assoc}
use Rattle.std.proofs.Math.Nat.{not-suc-le-zero}
use Rattle.std.proofs.lemmas.List.{append-nil, get_or-map, get_or-replicate, length-map, length-replicate, map-set, reverse-append, reverse-reverse}
use Rattle.std.proofs.lemmas.List.FromFn.{length-map-range_with_len}
use Rattle.std.proofs.lemmas.List.Sums.{sum_by-cons}
use Rattle.links.specs.Nodes.{AreOwn}
use Rattle.links.specs.Chain.{times, total, list_at, Runs, chain, chains, IsChained, AreChained, forward_lists, back_lists, last_of, first_of, linked_after, unlinked_after}
use Rattle.links.proofs.Times.{times_here, times-reverse, times-le-total}
use Rattle.links.proofs.Runs.{Runs-at, last_in, last_of-append, last_of-reverse, first_of-reverse}
use Rattle.links.proofs.Chained.{chains-IsChained, IsChained-link, IsChained-unlink}

-- ---- lists that are reversed
pub list_at-reverse : (lists : List (List ℕ)) (i : ℕ) → i < length lists → list_at (map reverse lists) i ≡ reverse (list_at lists i)
list_at-reverse lists i h = get_or-map reverse lists i [] [] h

pub total-reverse : (x : ℕ) (lists : List (List ℕ)) → total x (map reverse lists) ≡ total x lists
total-reverse x [] = refl
total-reverse x (xs ∷ lists) =
    sum_by-cons (times x) (reverse xs) (map reverse lists)
    ∙ ap (λ k. k + total x (map reverse lists)) (times-reverse x xs)
    ∙ ap (λ k. times x xs + k) (total-reverse x lists)
    ∙ sym (sum_by-cons (times x) xs lists)

pub set-reverse : (lists : List (List ℕ)) (i : ℕ) (ys : List ℕ) → map reverse (set lists i (reverse ys)) ≡ set (map reverse lists) i ys
set-reverse lists i ys = map-set reverse lists i (reverse ys) ∙ ap (set (map reverse lists) i) (reverse-reverse ys)

-- the lists that are linked are those that a walk finds
pub settle : (first count : ℕ) (n : List ℕ) (lists : List (List ℕ)) → length lists ≡ count → IsChained n first lists → (chains n first count ≡ lists) × IsChained n first (chains n first count)
settle first count n lists e c =
    let found : chains n first count ≡ lists = subst (λ k. chains n first k ≡ lists) e (chains-IsChained n first lists c) in
    (found, subst (λ ls. IsChained n first ls) (sym found) c)

module _ (first count : ℕ) (n m : List ℕ) (r : AreChained first count n m) where
  -- ---- how many lists there are
  pub forward_count : length (forward_lists first count n) ≡ count
  forward_count = length-map-range_with_len (chain n) first count

  pub chain_count : length (chains m first count) ≡ count
  chain_count = length-map-range_with_len (chain m) first count

  pub back_count : length (back_lists first count m) ≡ count
  back_count = length-map (chains m first count) reverse ∙ chain_count

  chain_at : (p : ℕ) → p < count → list_at (chains m first count) p ≡ reverse (list_at (back_lists first count m) p)
  chain_at p h =
      let many = chain_count in
      sym (reverse-reverse (list_at (chains m first count) p)) ∙ ap reverse (sym (list_at-reverse (chains m first count) p (omega arith)))

  -- ---- what is read
  pub next-last : (p : ℕ) (us vs : List ℕ) → p < count → us ++ vs ≡ list_at (forward_lists first count n) p → get_or n (last_of (first + p) us) 0 ≡ first_of vs (first + p)
  next-last p us vs h is =
      let many = forward_count in
      Runs-at n (first + p) us vs (first + p) (subst (λ zs. Runs n (first + p) zs (first + p)) (sym is) (r.forward_chains.runs p (omega arith)))

  pub next-node : (p y : ℕ) (us vs : List ℕ) → p < count → us ++ y ∷ vs ≡ list_at (forward_lists first count n) p → get_or n y 0 ≡ first_of vs (first + p)
  next-node p y us vs h is =
      ap (λ x. get_or n x 0) (sym (last_of-append (first + p) us y)) ∙ next-last p (us ++ y ∷ []) vs h (append_assoc us (y ∷ []) vs ∙ is)

  pub prev-first : (p : ℕ) (us vs : List ℕ) → p < count → us ++ vs ≡ list_at (back_lists first count m) p → get_or m (first_of vs (first + p)) 0 ≡ last_of (first + p) us
  prev-first p us vs h is =
      let many = chain_count in
      let parts : reverse vs ++ reverse us ≡ list_at (chains m first count) p = sym (reverse-append us vs) ∙ ap reverse is ∙ sym (chain_at p h) in
      let read = Runs-at m (first + p) (reverse vs) (reverse us) (first + p) (subst (λ zs. Runs m (first + p) zs (first + p)) (sym parts) (r.back_chains.runs p (omega arith))) in
      ap (λ x. get_or m x 0) (sym (last_of-reverse (first + p) vs)) ∙ read ∙ first_of-reverse (first + p) us

  pub prev-node : (p y : ℕ) (us vs : List ℕ) → p < count → us ++ y ∷ vs ≡ list_at (back_lists first count m) p → get_or m y 0 ≡ last_of (first + p) us
  prev-node p y us vs h is = prev-first p us (y ∷ vs) h is

  -- ---- what is linked
  module _ (p y : ℕ) (us vs : List ℕ) (h : p < count) where
    pub forward-link : y < first → total y (forward_lists first count n) ≡ 0 → us ++ vs ≡ list_at (forward_lists first count n) p
        → (forward_lists first count (linked_after n (last_of (first + p) us) y) ≡ set (forward_lists first count n) p (us ++ y ∷ vs)) × AreChained first count (linked_after n (last_of (first + p) us) y) m
    forward-link low fresh is =
        let c = last_of (first + p) us in let many = forward_count in
        let long = length-set (forward_lists first count n) p (us ++ y ∷ vs) in
        let one = length-set n y (get_or n c 0) in let two = length-set (set n y (get_or n c 0)) c y in let nodes = r.forward_nodes in
        let now = settle first count (linked_after n c y) (set (forward_lists first count n) p (us ++ y ∷ vs)) (omega arith) (IsChained-link n first (forward_lists first count n) r.forward_chains p (omega arith) us vs y low fresh is) in
        (now.0, record { forward_nodes = omega arith; back_nodes = r.back_nodes; forward_chains = now.1; back_chains = r.back_chains })

    pub forward-unlink : us ++ y ∷ vs ≡ list_at (forward_lists first count n) p
        → (forward_lists first count (unlinked_after n (last_of (first + p) us) y) ≡ set (forward_lists first count n) p (us ++ vs)) × AreChained first count (unlinked_after n (last_of (first + p) us) y) m
    forward-unlink is =
        let c = last_of (first + p) us in let many = forward_count in
        let long = length-set (forward_lists first count n) p (us ++ vs) in
        let one = length-set n c (get_or n y 0) in let nodes = r.forward_nodes in
        let now = settle first count (unlinked_after n c y) (set (forward_lists first count n) p (us ++ vs)) (omega arith) (IsChained-unlink n first (forward_lists first count n) r.forward_chains p (omega arith) us vs y is) in
        (now.0, record { forward_nodes = omega arith; back_nodes = r.back_nodes; forward_chains = now.1; back_chains = r.back_chains })

    around : reverse vs ++ y ∷ reverse us ≡ reverse (us ++ y ∷ vs)
    around =
        sym (append_assoc (reverse vs) (y ∷ []) (reverse us))
        ∙ ap (λ zs. zs ++ reverse us) (sym (reverse-append (y ∷ []) vs))
        ∙ sym (reverse-append us (y ∷ vs))

    -- the chains of the other direction, where one list is changed
    turned : (k : List ℕ) (zs : List ℕ) → length k ≡ first + count → IsChained k first (set (chains m first count) p (reverse zs)) → (back_lists first count k ≡ set (back_lists first count m) p zs) × AreChained first count n k
    turned k zs long c =
        let many = chain_count in let kept = length-set (chains m first count) p (reverse zs) in
        let now = settle first count k (set (chains m first count) p (reverse zs)) (omega arith) c in
        (ap (map reverse) now.0 ∙ set-reverse (chains m first count) p zs, record { forward_nodes = r.forward_nodes; back_nodes = long; forward_chains = r.forward_chains; back_chains = now.1 })

    pub back-link : y < first → total y (back_lists first count m) ≡ 0 → us ++ vs ≡ list_at (back_lists first count m) p
        → (back_lists first count (linked_after m (first_of vs (first + p)) y) ≡ set (back_lists first count m) p (us ++ y ∷ vs)) × AreChained first count n (linked_after m (first_of vs (first + p)) y)
    back-link low fresh is =
        let c = last_of (first + p) (reverse vs) in let many = chain_count in
        let none : total y (chains m first count) ≡ 0 = sym (total-reverse y (chains m first count)) ∙ fresh in
        let parts : reverse vs ++ reverse us ≡ list_at (chains m first count) p = sym (reverse-append us vs) ∙ ap reverse is ∙ sym (chain_at p h) in
        let made = IsChained-link m first (chains m first count) r.back_chains p (omega arith) (reverse vs) (reverse us) y low none parts in
        let made' : IsChained (linked_after m c y) first (set (chains m first count) p (reverse (us ++ y ∷ vs))) = subst (λ zs. IsChained (linked_after m c y) first (set (chains m first count) p zs)) around made in
        let one = length-set m y (get_or m c 0) in let two = length-set (set m y (get_or m c 0)) c y in let nodes = r.back_nodes in
        subst (λ d. (back_lists first count (linked_after m d y) ≡ set (back_lists first count m) p (us ++ y ∷ vs)) × AreChained first count n (linked_after m d y)) (last_of-reverse (first + p) vs)
        (turned (linked_after m c y) (us ++ y ∷ vs) (omega arith) made')

    pub back-unlink : us ++ y ∷ vs ≡ list_at (back_lists first count m) p
        → (back_lists first count (unlinked_after m (first_of vs (first + p)) y) ≡ set (back_lists first count m) p (us ++ vs)) × AreChained first count n (unlinked_after m (first_of vs (first + p)) y)
    back-unlink is =
        let c = last_of (first + p) (reverse vs) in let many = chain_count in
        let parts : reverse vs ++ y ∷ reverse us ≡ list_at (chains m first count) p = around ∙ ap reverse is ∙ sym (chain_at p h) in
        let made = IsChained-unlink m first (chains m first count) r.back_chains p (omega arith) (reverse vs) (reverse us) y parts in
        let made' : IsChained (unlinked_after m c y) first (set (chains m first count) p (reverse (us ++ vs))) = subst (λ zs. IsChained (unlinked_after m c y) first (set (chains m first count) p zs)) (sym (reverse-append us vs)) made in
        let one = length-set m c (get_or m y 0) in let nodes = r.back_nodes in
        subst (λ d. (back_lists first count (unlinked_after m d y) ≡ set (back_lists first count m) p (us ++ vs)) × AreChained first count n (unlinked_after m d y)) (last_of-reverse (first + p) vs)
        (turned (unlinked_after m c y) (us ++ vs) (omega arith) made')

  -- ---- what stands in a list
  pub forward_once : (p y : ℕ) → p < count → times y (list_at (forward_lists first count n) p) ≤ 1
  forward_once p y h = let many = forward_count in let all = r.forward_chains.once y in let part = times-le-total y (forward_lists first count n) p (omega arith) in omega arith

  pub back_once : (p y : ℕ) → p < count → times y (list_at (back_lists first count m) p) ≤ 1
  back_once p y h =
      let many = back_count in let all = r.back_chains.once y in let turned = total-reverse y (chains m first count) in let part = times-le-total y (back_lists first count m) p (omega arith) in omega arith

  pub forward_low : (p x : ℕ) → p < count → 0 < times x (list_at (forward_lists first count n) p) → x < first
  forward_low p x h some = let many = forward_count in r.forward_chains.below p (omega arith) x some

  pub back_low : (p x : ℕ) → p < count → 0 < times x (list_at (back_lists first count m) p) → x < first
  back_low p x h some =
      let many = chain_count in
      let turned = ap (times x) (list_at-reverse (chains m first count) p (omega arith)) ∙ times-reverse x (list_at (chains m first count) p) in
      r.back_chains.below p (omega arith) x (omega (arith, turned, some))

  -- ---- heads
  pub last_read : (p : ℕ) → p < count → get_or m (first + p) 0 ≡ last_of (first + p) (list_at (back_lists first count m) p)
  last_read p h = prev-first p (list_at (back_lists first count m) p) [] h (append-nil (list_at (back_lists first count m) p))

  pub first_read : (p : ℕ) → p < count → get_or n (first + p) 0 ≡ first_of (list_at (forward_lists first count n) p) (first + p)
  first_read p h = next-last p [] (list_at (forward_lists first count n) p) h refl

  -- the list is empty where its head is its own last node, and where its first node is a head
  pub empty_read : (p : ℕ) → p < count → get_or m (first + p) 0 ≡ first + p → list_at (back_lists first count m) p ≡ []
  empty_read p h is = empty (list_at (back_lists first count m) p) (λ x some. back_low p x h some) (sym (last_read p h) ∙ is)
    where
      empty : (xs : List ℕ) → ((x : ℕ) → 0 < times x xs → x < first) → last_of (first + p) xs ≡ first + p → xs ≡ []
      empty [] low e = refl
      empty (x ∷ xs) low e = let below = low (last_of x xs) (last_in x xs) in absurd (not-suc-le-zero {n = 0} (omega arith))

  pub full_read : (p : ℕ) → p < count → get_or m (first + p) 0 ≢ first + p → list_at (back_lists first count m) p ≢ []
  full_read p h ne is = ne (last_read p h ∙ ap (last_of (first + p)) is)

  pub none_read : (p : ℕ) → p < count → first ≤ get_or n (first + p) 0 → list_at (forward_lists first count n) p ≡ []
  none_read p h none = empty (list_at (forward_lists first count n) p) (λ x some. forward_low p x h some) (first_read p h)
    where
      empty : (xs : List ℕ) → ((x : ℕ) → 0 < times x xs → x < first) → get_or n (first + p) 0 ≡ first_of xs (first + p) → xs ≡ []
      empty [] low e = refl
      empty (x ∷ xs) low e = let here = times_here x xs in let below = low x (omega arith) in absurd (not-suc-le-zero {n = 0} (omega arith))

-- ---- fresh nodes
abbrev pub empties : ℕ → List (List ℕ)
empties k = replicate k []

pub total_none : (x k : ℕ) → total x (empties k) ≡ 0
total_none x zero = refl
total_none x (suc k) = sum_by-cons (times x) [] (empties k) ∙ zero-add (total x (empties k)) ∙ total_none x k

reverse_none : (k : ℕ) → map reverse (empties k) ≡ empties k
reverse_none zero = refl
reverse_none (suc k) = ap (λ ls. [] ∷ ls) (reverse_none k)

fresh_chains : (first count : ℕ) (n : List ℕ) → AreOwn (first + count) n → IsChained n first (empties count)
fresh_chains first count n own =
    let long : length (empties count) ≡ count = length-replicate {A = List ℕ} count [] in let all = own.count in
    let at : (i : ℕ) → i < count → list_at (empties count) i ≡ [] = λ i h. get_or-replicate count i [] [] h in
    record {
      heads = omega arith;
      runs = λ i h. subst (λ zs. Runs n (first + i) zs (first + i)) (sym (at i (omega arith))) (own.own (first + i) (omega arith));
      below = λ i h x some. let none : times x (list_at (empties count) i) ≡ 0 = ap (times x) (at i (omega arith)) in absurd (not-suc-le-zero {n = 0} (omega arith));
      once = λ x. let none = total_none x count in omega arith;
    }

pub fresh : (first count : ℕ) (n m : List ℕ) → AreOwn (first + count) n → AreOwn (first + count) m
    → (forward_lists first count n ≡ replicate count []) × (back_lists first count m ≡ replicate count []) × AreChained first count n m
fresh first count n m own_n own_m =
    let forward = settle first count n (empties count) (length-replicate {A = List ℕ} count []) (fresh_chains first count n own_n) in
    let back = settle first count m (empties count) (length-replicate {A = List ℕ} count []) (fresh_chains first count m own_m) in
    (forward.0, ap (map reverse) back.0 ∙ reverse_none count, record { forward_nodes = own_n.count; back_nodes = own_m.count; forward_chains = forward.1; back_chains = back.1 })
