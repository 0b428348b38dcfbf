-- The links of a renewal, alone and after those of a call.
use Rattle.std.proofs.Common.{◌≡◌, ℕ, zero, suc, ◌+◌, ◌<◌, ◌≤◌, Bool, true, false, List, [], ◌∷◌, refl, sym, ap, subst, arith, inl, inr}
use Rattle.std.specs.Prelude.{◌==◌, ◌&&◌, not, if◌then◌else◌}
use Rattle.std.proofs.Math.Nat.{not-suc-le-zero}
use Rattle.std.proofs.lemmas.Bool.Decides.{eqb_tells}
use Rattle.kern_base.specs.declared.numbers.Prio.{Prio}
use Rattle.kern_model.specs.State.{Kernel, Task, task_at, prio_of, count_of}
use Rattle.kern_model.specs.Micro.{Lists}
use Rattle.kern_model.specs.Inherit.{inherited, moves_of, numbers, renewed_tasks}
use Rattle.kern_model.proofs.Lemmas.{movable-renewed, count-append}
use Rattle.link_plans.specs.Renewals.{MayRenew, IsRenewal}
use Rattle.link_plans.proofs.Renewals.Moves.{MayMove, movers, moves_hold}

-- a task is renewed once

numbers-below : (x a n : ℕ) → x < a → count_of x (numbers a n) ≡ 0
numbers-below x a zero h = refl
numbers-below x a (suc n) h =
    elim (eqb_tells a x) [
      | inl e ↦ absurd (not-suc-le-zero {n = x} (omega (arith, h, e.1)))
      | inr e ↦ rw e.0 (let rest = numbers-below x (a + 1) n (omega (arith, h)) in omega (arith, rest))
    ]

numbers-past : (x a n : ℕ) → a + n ≤ x → count_of x (numbers a n) ≡ 0
numbers-past x a zero h = refl
numbers-past x a (suc n) h =
    elim (eqb_tells a x) [
      | inl e ↦ absurd (not-suc-le-zero {n = x} (omega (arith, h, e.1)))
      | inr e ↦ rw e.0 (let rest = numbers-past x (a + 1) n (omega (arith, h)) in omega (arith, rest))
    ]

numbers-once : (x a n : ℕ) → count_of x (numbers a n) ≤ 1
numbers-once x a zero = omega arith
numbers-once x a (suc n) =
    elim (eqb_tells a x) [
      | inl e ↦ let none = numbers-below x (a + 1) n (omega (arith, e.1)) in rw e.0 (omega (arith, none))
      | inr e ↦ let rest = numbers-once x (a + 1) n in rw e.0 (omega (arith, rest))
    ]

renewed-once : (x : ℕ) → count_of x renewed_tasks ≤ 1
renewed-once x =
    let both = count-append x (numbers 0 60) (61 ∷ []) in
    elim (eqb_tells 61 x) [
      | inl e ↦
          let none = numbers-past x 0 60 (omega (arith, e.1)) in let one : count_of x (61 ∷ []) ≡ 1 = ap (λ b. (if b then 1 else 0) + 0) e.0 in
          omega (arith, both, none, one)
      | inr e ↦
          let most = numbers-once x 0 60 in let none : count_of x (61 ∷ []) ≡ 0 = ap (λ b. (if b then 1 else 0) + 0) e.0 in
          omega (arith, both, most, none)
    ]

-- whether a task moves
abbrev moves : Kernel → ℕ → Bool
moves k x = (task_at k x).alive && not (inherited k x == prio_of k x)

moves-le : (x : ℕ) (k : Kernel) (xs : List ℕ) → count_of x (movers (moves_of xs k)) ≤ count_of x xs
moves-le x k [] = omega arith
moves-le x k (y ∷ ys) = by_case (moves k y) (moves-le x k ys)
  where
    by_case : (b : Bool) → count_of x (movers (moves_of ys k)) ≤ count_of x ys → count_of x (movers (if b then (y, inherited k y) ∷ moves_of ys k else moves_of ys k)) ≤ count_of x (y ∷ ys)
    by_case true h = omega (arith, h)
    by_case false h = omega (arith, h)

second : (a b : Bool) → (a && b) ≡ true → b ≡ true
second true b h = h
second false b h = absurd (cc)

no_more : (b : Bool) → not b ≡ true → b ≡ false
no_more true h = sym h
no_more false h = refl

mover-differs : (x : ℕ) (k : Kernel) (xs : List ℕ) → 0 < count_of x (movers (moves_of xs k)) → (inherited k x == prio_of k x) ≡ false
mover-differs x k [] h = absurd (not-suc-le-zero {n = 0} h)
mover-differs x k (y ∷ ys) h = by_case (moves k y) refl (mover-differs x k ys) h
  where
    by_case : (b : Bool) → moves k y ≡ b → (0 < count_of x (movers (moves_of ys k)) → (inherited k x == prio_of k x) ≡ false) → 0 < count_of x (movers (if b then (y, inherited k y) ∷ moves_of ys k else moves_of ys k)) → (inherited k x == prio_of k x) ≡ false
    by_case false e rest more = rest more
    by_case true e rest more =
        elim (eqb_tells y x) [
          | inl s ↦ subst (λ z. (inherited k z == prio_of k z) ≡ false) s.1 (no_more (inherited k y == prio_of k y) (second (task_at k y).alive (not (inherited k y == prio_of k y)) e))
          | inr d ↦ rest (let fewer = subst (λ b. 0 < (if b then 1 else 0) + count_of x (movers (moves_of ys k))) d.0 more in omega (arith, fewer))
        ]

pub renewals_hold : (ts : List Task) (prios : List Prio) (tail : Bool) (k : Kernel) (l : Lists) → MayRenew ts prios k l → IsRenewal ts prios tail k l
renewals_hold ts prios tail k l h =
    let ms = moves_of renewed_tasks k in
    let may : MayMove ts prios ms k l =
    record {
      linked = h.linked;
      same = h.lists;
      tells = h.tells;
      size = h.size;
      movable = movable-renewed k h.linked;
      once = λ x. let few = moves-le x k renewed_tasks in let one = renewed-once x in omega (arith, few, one);
      known = λ x some waits. h.known x (mover-differs x k renewed_tasks some) waits;
    } in
    let r = moves_hold ts prios tail ms k l may in
    record { fits = r.fits; blocks = r.blocks; lists = r.after }
