-- What the heads of the lists say.
use Rattle.std.proofs.Common.{◌≡◌, ℕ, ◌+◌, ◌/◌, ◌<◌, List, [], ◌∷◌, get_or, Some, sym, ap, arith}
use Rattle.std.proofs.Math.Nat.{not-suc-le-zero}
use Rattle.std.specs.Prelude.{slice_get}
use Rattle.links.specs.Chain.{times, list_at, first_of}
use Rattle.links.proofs.Times.{times_same}
use Rattle.links.proofs.Both.{first_read}
use Rattle.pend_lists.specs.Pending.{forward_of, waiters, ArePending}

module _ (n m : List ℕ) (r : ArePending n m) (o : ℕ) (h : o < 64) where
  pub head_times : get_or n (512 + o) 0 < 512 → 0 < times (get_or n (512 + o) 0) (list_at (forward_of n) o)
  head_times some = first (list_at (forward_of n) o) (first_read 512 64 n m r.chained o h)
    where
      first : (xs : List ℕ) → get_or n (512 + o) 0 ≡ first_of xs (512 + o) → 0 < times (get_or n (512 + o) 0) xs
      first [] e = absurd (not-suc-le-zero {n = 0} (omega arith))
      first (x ∷ xs) e = let same = times_same (get_or n (512 + o) 0) x xs e in omega arith

  pub head_read : get_or n (512 + o) 0 < 512 → slice_get (list_at (forward_of n) o) 0 ≡ Some (get_or n (512 + o) 0)
  head_read some = first (list_at (forward_of n) o) (first_read 512 64 n m r.chained o h)
    where
      first : (xs : List ℕ) → get_or n (512 + o) 0 ≡ first_of xs (512 + o) → slice_get xs 0 ≡ Some (get_or n (512 + o) 0)
      first [] e = absurd (not-suc-le-zero {n = 0} (omega arith))
      first (x ∷ xs) e = ap Some (sym e)

-- the task of the first node
pub first_waits : (xs : List ℕ) (node : ℕ) → slice_get xs 0 ≡ Some node → slice_get (waiters xs) 0 ≡ Some (node / 8)
first_waits [] node e = cc
first_waits (x ∷ xs) node e = cc
