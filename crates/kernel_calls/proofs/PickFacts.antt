-- The first ready task of the highest priority.
use Rattle.std.proofs.Common.{◌≡◌, ◌<◌, ℕ, zero, suc, true, false, List, [], ◌∷◌, get_or, map, replicate, Option, Some, None, refl, sym, ap, ◌∙◌, arith}
use Rattle.std.specs.Prelude.{MatchOption, slice_get}
use Rattle.std.specs.Option.{unwrap_or}
use Rattle.kern_base.specs.declared.numbers.TaskId.{TaskId}
use Rattle.kern_model.specs.State.{first_of, list_at}
use Rattle.kern_model.specs.Micro.{is_filled}
use Rattle.links.specs.Chain.{times}

-- no priority is in the set
pub first_of-none : (lists : List (List ℕ)) (n : ℕ) → map is_filled lists ≡ replicate n false → first_of lists ≡ 62
first_of-none [] n e = refl
first_of-none (xs ∷ lists) zero e = cc
first_of-none ([] ∷ lists) (suc n) e = first_of-none lists n (let f : map is_filled lists ≡ replicate n false = cc in f)
first_of-none ((x ∷ xs) ∷ lists) (suc n) e = let f : true ≡ false = cc in cc

-- the list of the least priority that is in the set has a first task
record HasFirst (lists : List (List ℕ)) (xs : List ℕ) : Type 0 where
  task : ℕ
  others : List ℕ
  list : xs ≡ task ∷ others
  first : first_of lists ≡ task

has_first : (lists : List (List ℕ)) (p : ℕ) → get_or (map is_filled lists) p false ≡ true → ((q : ℕ) → q < p → get_or (map is_filled lists) q false ≡ false) → HasFirst lists (list_at lists p)
has_first [] p here below = cc
has_first ([] ∷ lists) zero here below = cc
has_first ((x ∷ xs) ∷ lists) zero here below = record { task = x; others = xs; list = refl; first = refl }
has_first ([] ∷ lists) (suc p) here below =
    let rest = has_first lists p here (λ q h. below (suc q) (omega arith)) in
    record { task = rest.task; others = rest.others; list = rest.list; first = rest.first }
has_first ((x ∷ xs) ∷ lists) (suc p) here below = let f : true ≡ false = below 0 (omega arith) in cc

-- what is read of that list
abbrev pub IsHead : Option TaskId → List ℕ → Type 0
IsHead o xs = MatchOption o (xs ≡ []) (λ task. (task.0 < 64) × (slice_get xs 0 ≡ Some task.0) × (0 < times task.0 xs))

pub first_of-head : (lists : List (List ℕ)) (p : ℕ) (o : Option TaskId) → get_or (map is_filled lists) p false ≡ true → ((q : ℕ) → q < p → get_or (map is_filled lists) q false ≡ false) → IsHead o (list_at lists p) → (unwrap_or o (record { 0 = 62 })).0 ≡ first_of lists
first_of-head lists p None here below head =
    let f = has_first lists p here below in
    let e : f.task ∷ f.others ≡ [] = sym f.list ∙ head in
    cc
first_of-head lists p (Some t) here below head =
    let f = has_first lists p here below in
    let e : Some f.task ≡ Some t.0 = ap (λ xs. slice_get xs 0) (sym f.list) ∙ head.1 in
    let s : t.0 ≡ f.task = cc in
    s ∙ sym f.first
