-- Places in a list of waiters.
use Rattle.std.proofs.Common.{◌≡◌, ℕ, zero, suc, ◌+◌, ◌<◌, ◌≤◌, List, [], ◌∷◌, ◌++◌, length, take, drop, get_or, refl, sym, ap, ◌∙◌, subst, inl, inr, arith, add-one}
use Rattle.std.proofs.Math.Nat.{not-suc-le-zero}
use Rattle.std.specs.Prelude.{nat_le, if◌then◌else◌}
use Rattle.std.proofs.lemmas.Bool.Decides.{leb_tells}
use Rattle.std.proofs.lemmas.List.{length-drop, take-append-drop}
use Rattle.std.proofs.lemmas.List.Sums.{take_while-cons}
use Rattle.links.specs.Chain.{times, list_at, AreChained, forward_lists, Runs, last_of, first_of, node_before}
use Rattle.links.proofs.Both.{forward_count, forward_low}
use Rattle.links.proofs.Runs.{Runs-at}
use Rattle.links.proofs.Times.{times_here, times-le, times-append}
use Rattle.links.proofs.Walking.{few}
use Rattle.pend_lists.specs.Pending.{wait_place, Rises}

-- the first entry is passed, or none is
passed_here : (prio : ℕ → ℕ) (p x : ℕ) (xs : List ℕ) → prio x ≤ p → wait_place prio p (x ∷ xs) ≡ suc (wait_place prio p xs)
passed_here prio p x xs h =
    rw (take_while-cons (λ y. nat_le (prio y) p) x xs)
    (elim (leb_tells (prio x) p) [
      | inl e ↦ rw e.0 refl
      | inr e ↦ omega (arith, e.1, h)
    ])

stopped_here : (prio : ℕ → ℕ) (p x : ℕ) (xs : List ℕ) → p < prio x → wait_place prio p (x ∷ xs) ≡ 0
stopped_here prio p x xs h =
    rw (take_while-cons (λ y. nat_le (prio y) p) x xs)
    (elim (leb_tells (prio x) p) [
      | inl e ↦ omega (arith, e.1, h)
      | inr e ↦ rw e.0 refl
    ])

-- an entry within reach is passed
pub passes : (prio : ℕ → ℕ) (p : ℕ) (xs : List ℕ) (i : ℕ) → i ≤ wait_place prio p xs → i < length xs → prio (get_or xs i 0) ≤ p → i + 1 ≤ wait_place prio p xs
passes prio p [] i few inside h = omega arith
passes prio p (x ∷ xs) zero few inside h = omega (arith, passed_here prio p x xs h)
passes prio p (x ∷ xs) (suc i) few inside h =
    elim (leb_tells (prio x) p) [
      | inl e ↦ let here = passed_here prio p x xs e.1 in let rest = passes prio p xs i (omega (arith, here)) (omega arith) h in omega (arith, here, rest)
      | inr e ↦ let here = stopped_here prio p x xs (omega (arith, e.1)) in omega (arith, here)
    ]

-- where the next is not passed, all are
pub stops : (prio : ℕ → ℕ) (p : ℕ) (xs : List ℕ) (i : ℕ) → i ≤ wait_place prio p xs → (i < length xs → p < prio (get_or xs i 0)) → i ≡ wait_place prio p xs
stops prio p [] i few h = omega arith
stops prio p (x ∷ xs) zero few h = sym (stopped_here prio p x xs (h (omega arith)))
stops prio p (x ∷ xs) (suc i) few h =
    elim (leb_tells (prio x) p) [
      | inl e ↦ let here = passed_here prio p x xs e.1 in let rest = stops prio p xs i (omega (arith, here)) (λ inside. h (omega arith)) in omega (arith, here, rest)
      | inr e ↦ let here = stopped_here prio p x xs (omega (arith, e.1)) in omega (arith, here)
    ]

-- no more are passed than there are
pub place-le : (prio : ℕ → ℕ) (p : ℕ) (xs : List ℕ) → wait_place prio p xs ≤ length xs
place-le prio p [] = omega arith
place-le prio p (x ∷ xs) =
    elim (leb_tells (prio x) p) [
      | inl e ↦ let here = passed_here prio p x xs e.1 in let rest = place-le prio p xs in omega (arith, here, rest)
      | inr e ↦ let here = stopped_here prio p x xs (omega (arith, e.1)) in omega (arith, here)
    ]

-- in a list that rises, no entry behind one that is not passed would be passed
pub beyond : (prio : ℕ → ℕ) (p : ℕ) (xs : List ℕ) (i : ℕ) → Rises prio xs → (i < length xs → p < prio (get_or xs i 0)) → (j : ℕ) → i ≤ j → j < length xs → p < prio (get_or xs j 0)
beyond prio p xs i rises next j le inside =
    let first = next (omega (arith, le, inside)) in let up = rises i j le inside in omega (arith, first, up)

-- the node that was reached
reached_of : (head : ℕ) (xs : List ℕ) (i : ℕ) → i < length xs → last_of head (take (suc i) xs) ≡ get_or xs i 0
reached_of head [] i h = absurd (not-suc-le-zero {n = i} (omega (arith, h)))
reached_of head (x ∷ xs) zero h = refl
reached_of head (x ∷ xs) (suc i) h = reached_of x xs i (omega (arith, h))

pub reached_next : (head : ℕ) (xs : List ℕ) (i : ℕ) → i < length xs → node_before head xs (i + 1) ≡ get_or xs i 0
reached_next head xs i h = rw add-one (reached_of head xs i h)

-- ---- how many nodes are left of a walk
-- the nodes from x on until a head, at most this many
abbrev pub to_head : List ℕ → ℕ → ℕ → ℕ
to_head n zero x = 0
to_head n (suc most) x = if nat_le 512 x then 0 else suc (to_head n most (get_or n x 0))

to_head-Runs : (n : List ℕ) (a : ℕ) (xs : List ℕ) (b most : ℕ) → 512 ≤ b → ((x : ℕ) → 0 < times x xs → x < 512) → length xs ≤ most → Runs n a xs b → to_head n most (get_or n a 0) ≡ length xs
to_head-Runs n a [] b zero high low fits r = refl
to_head-Runs n a [] b (suc most) high low fits r = grind (arith, r, high)
to_head-Runs n a (x ∷ xs) b zero high low fits r = absurd (not-suc-le-zero {n = 0} (omega arith))
to_head-Runs n a (x ∷ xs) b (suc most) high low fits r =
    let below : x < 512 = low x (let here = times_here x xs in omega (arith, here)) in
    let rest : to_head n most (get_or n x 0) ≡ length xs = to_head-Runs n x xs b most high (λ y some. low y (let more = times-le y x xs in omega (arith, more, some))) (omega arith) r.1 in
    let at : get_or n a 0 ≡ x = r.0 in
    rw at (grind (arith, below, rest))

Runs-rest : (n : List ℕ) (a : ℕ) (us vs : List ℕ) (b : ℕ) → Runs n a (us ++ vs) b → Runs n (last_of a us) vs b
Runs-rest n a [] vs b r = r
Runs-rest n a (x ∷ us) vs b r = Runs-rest n x us vs b r.1

module _ (n m : List ℕ) (r : AreChained 512 64 n m) (o : ℕ) (h : o < 64) where
  abbrev xs : List ℕ
  xs = list_at (forward_lists 512 64 n) o

  -- from a place on there are as many as stand behind it
  pub left_to_walk : (i : ℕ) → to_head n (length n) (get_or n (node_before (512 + o) xs i) 0) ≡ length (drop i xs)
  left_to_walk i =
      let many = forward_count 512 64 n m r in let nodes = r.forward_nodes in
      let inside : o < length (forward_lists 512 64 n) = omega (arith, many, h) in
      let whole = take-append-drop i xs in
      let runs : Runs n (512 + o) (take i xs ++ drop i xs) (512 + o) = subst (λ zs. Runs n (512 + o) zs (512 + o)) (sym whole) (r.forward_chains.runs o inside) in
      let all = few n 512 (forward_lists 512 64 n) r.forward_chains o inside in
      let short : length (drop i xs) ≤ length n = let cut = length-drop i xs in omega (arith, cut, all, nodes) in
      to_head-Runs n (last_of (512 + o) (take i xs)) (drop i xs) (512 + o) (length n) (omega arith)
      (λ x some. forward_low 512 64 n m r o x h (let parts : times x (take i xs) + times x (drop i xs) ≡ times x xs = sym (times-append x (take i xs) (drop i xs)) ∙ ap (times x) whole in omega (arith, parts, some)))
      short (Runs-rest n (512 + o) (take i xs) (drop i xs) (512 + o) runs)

  -- the same from the node behind the first i
  pub left_from : (i node : ℕ) → node ≡ first_of (drop i xs) (512 + o) → to_head n (length n) node ≡ length (drop i xs)
  left_from i node is =
      let many = forward_count 512 64 n m r in
      let runs : Runs n (512 + o) (take i xs ++ drop i xs) (512 + o) = subst (λ zs. Runs n (512 + o) zs (512 + o)) (sym (take-append-drop i xs)) (r.forward_chains.runs o (omega (arith, many, h))) in
      ap (to_head n (length n)) (is ∙ sym (Runs-at n (512 + o) (take i xs) (drop i xs) (512 + o) runs)) ∙ left_to_walk i

  -- an entry less is left
  pub one_less : (i : ℕ) → i < length xs → length (drop (i + 1) xs) < length (drop i xs)
  one_less i inside = let one = length-drop (i + 1) xs in let two = length-drop i xs in omega (arith, one, two, inside)
