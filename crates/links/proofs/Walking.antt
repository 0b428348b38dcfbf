-- A chain that is read node by node: the loop of a reader.
use Rattle.std.proofs.Common.{◌≡◌, ◌≢◌, ℕ, suc, ◌+◌, ◌<◌, ◌≤◌, List, [], ◌∷◌, ◌++◌, length, get_or, take, drop, sym, ap, subst, ◌∙◌, arith, add-one, append_assoc, inl, inr}
use Rattle.std.proofs.Math.Nat.{not-suc-le-zero}
use Rattle.std.proofs.Math.Seq.{drop-cons, take-append_seam}
use Rattle.std.proofs.lemmas.Bool.Decides.{leb_tells}
use Rattle.std.proofs.lemmas.List.{take-append-drop, take_more, take_all, drop_all}
use Rattle.std.specs.List.{refill}
use Rattle.links.specs.Chain.{times, list_at, Runs, IsChained, first_of}
use Rattle.links.proofs.Chained.{length-le_once}
use Rattle.links.proofs.Runs.{Runs-at, last_of-append}
use Rattle.links.proofs.Times.{times_here, times-append, times-le-total}

module _ (n : List ℕ) (first : ℕ) (lists : List (List ℕ)) (c : IsChained n first lists) (p : ℕ) (h : p < length lists) where
  abbrev xs : List ℕ
  xs = list_at lists p

  -- a list is no longer than there are nodes
  pub few : length xs ≤ first
  few = length-le_once xs first (λ y. let all = c.once y in let part = times-le-total y lists p h in omega arith) (c.below p h)

  -- the first node behind the head
  pub begins : get_or n (first + p) 0 ≡ first_of (drop 0 xs) (first + p)
  begins = Runs-at n (first + p) [] xs (first + p) (c.runs p h)

  entry : (k : ℕ) → k < length xs → take k xs ++ get_or xs k 0 ∷ drop (suc k) xs ≡ xs
  entry k l = ap (λ zs. take k xs ++ zs) (sym (drop-cons xs k 0 l)) ∙ take-append-drop k xs

  entry_low : (k : ℕ) → k < length xs → get_or xs k 0 < first
  entry_low k l =
      let x = get_or xs k 0 in
      c.below p h x (subst (λ zs. 0 < times x zs) (entry k l) (let cut = times-append x (take k xs) (x ∷ drop (suc k) xs) in let here = times_here x (drop (suc k) xs) in omega arith))

  read_at : (k node : ℕ) → k < length xs → node ≡ first_of (drop k xs) (first + p) → node ≡ get_or xs k 0
  read_at k node l is = is ∙ ap (λ zs. first_of zs (first + p)) (drop-cons xs k 0 l)

  -- the node after the first k is no head
  pub more : (k node : ℕ) → node ≡ first_of (drop k xs) (first + p) → node ≢ first + p
      → (k < length xs) × (node < first) × (take (k + 1) xs ≡ take k xs ++ node ∷ []) × (get_or n node 0 ≡ first_of (drop (k + 1) xs) (first + p))
  more k node is ne =
      elim (leb_tells (length xs) k) [
        | inr far ↦
            let l = far.1 in let x = get_or xs k 0 in let rest = drop (suc k) xs in
            let at = read_at k node l is in let low = entry_low k l in
            let runs = subst (λ zs. Runs n (first + p) zs (first + p)) (sym (append_assoc (take k xs) (x ∷ []) rest ∙ entry k l)) (c.runs p h) in
            let next : get_or n x 0 ≡ first_of rest (first + p) = ap (λ z. get_or n z 0) (sym (last_of-append (first + p) (take k xs) x)) ∙ Runs-at n (first + p) (take k xs ++ x ∷ []) rest (first + p) runs in
            (l, omega (arith, at, low), take_more xs k 0 l ∙ ap (λ z. take k xs ++ z ∷ []) (sym at), ap (λ z. get_or n z 0) at ∙ rw add-one next)
        | inl out ↦ absurd (ne (is ∙ ap (λ zs. first_of zs (first + p)) (drop_all k xs out.1)))
      ]

  -- the node after the first k is the head
  pub done : (k node : ℕ) → node ≡ first_of (drop k xs) (first + p) → node ≡ first + p → take k xs ≡ xs
  done k node is e =
      elim (leb_tells (length xs) k) [
        | inr far ↦ let at = read_at k node far.1 is in let low = entry_low k far.1 in absurd (not-suc-le-zero {n = 0} (omega (arith, at, e, low)))
        | inl out ↦ take_all k xs out.1
      ]

-- a list that was read is turned in place
pub refill-whole : (xs ws : List ℕ) → length ws ≡ length xs → refill (length xs) xs ws ≡ ws
refill-whole xs ws e = ap (λ k. take k (ws ++ drop (length ws) xs)) (sym e) ∙ take-append_seam ws (drop (length ws) xs)
