-- What the heads of the lists say.
use Rattle.std.proofs.Common.{◌≡◌, ◌≢◌, ℕ, ◌+◌, ◌<◌, Bool, true, false, List, [], ◌∷◌, length, get_or, set, Some, sym, ap, ◌∙◌, arith, refl}
use Rattle.std.proofs.Math.Nat.{not-suc-le-zero}
use Rattle.std.proofs.Math.Seq.{take-length}
use Rattle.std.specs.Prelude.{slice_get}
use Rattle.links.specs.Chain.{times, list_at, last_of, first_of, node_before}
use Rattle.links.proofs.Times.{times_same}
use Rattle.links.proofs.Both.{first_read, last_read, empty_read, full_read}
use Rattle.ready_list.specs.Lists.{unmarked, is_filled}
use Rattle.ready_list.specs.Ready.{forward_of, back_of, AreReady}

module _ (n m : List ℕ) (r : AreReady n m) (p : ℕ) (h : p < 64) where
  -- the node before the tail
  pub tail_read : get_or m (64 + p) 0 ≡ node_before (64 + p) (list_at (back_of m) p) (length (list_at (back_of m) p))
  tail_read = last_read 64 64 n m r p h ∙ ap (last_of (64 + p)) (sym (take-length (list_at (back_of m) p)))

  pub head_times : get_or n (64 + p) 0 < 64 → 0 < times (get_or n (64 + p) 0) (list_at (forward_of n) p)
  head_times some = first (list_at (forward_of n) p) (first_read 64 64 n m r p h)
    where
      first : (xs : List ℕ) → get_or n (64 + p) 0 ≡ first_of xs (64 + p) → 0 < times (get_or n (64 + p) 0) xs
      first [] e = absurd (not-suc-le-zero {n = 0} (omega arith))
      first (x ∷ xs) e = let same = times_same (get_or n (64 + p) 0) x xs e in omega arith

  pub head_read : get_or n (64 + p) 0 < 64 → slice_get (list_at (forward_of n) p) 0 ≡ Some (get_or n (64 + p) 0)
  head_read some = first (list_at (forward_of n) p) (first_read 64 64 n m r p h)
    where
      first : (xs : List ℕ) → get_or n (64 + p) 0 ≡ first_of xs (64 + p) → slice_get xs 0 ≡ Some (get_or n (64 + p) 0)
      first [] e = absurd (not-suc-le-zero {n = 0} (omega arith))
      first (x ∷ xs) e = ap Some (sym e)

-- ---- the set of priorities
unmarked-empty : (lists : List (List ℕ)) (p : ℕ) (marked : List Bool) → list_at lists p ≡ [] → unmarked lists p marked ≡ set marked p false
unmarked-empty lists p marked is = rw is refl

filled : (xs : List ℕ) → xs ≢ [] → is_filled xs ≡ true
filled [] ne = absurd (ne refl)
filled (x ∷ xs) ne = refl

unmarked-full : (lists : List (List ℕ)) (p : ℕ) (marked : List Bool) → list_at lists p ≢ [] → unmarked lists p marked ≡ marked
unmarked-full lists p marked ne = let full = filled (list_at lists p) ne in rw full refl

-- the set after a task has left both lists
pub unmarked_read : (n m : List ℕ) (r : AreReady n m) (p : ℕ) (marked : List Bool) → p < 64
    → (get_or m (64 + p) 0 ≡ 64 + p → set marked p false ≡ unmarked (back_of m) p marked) × (get_or m (64 + p) 0 ≢ 64 + p → marked ≡ unmarked (back_of m) p marked)
unmarked_read n m r p marked h =
    (λ e. sym (unmarked-empty (back_of m) p marked (empty_read 64 64 n m r p h e)), λ e. sym (unmarked-full (back_of m) p marked (full_read 64 64 n m r p h e)))
