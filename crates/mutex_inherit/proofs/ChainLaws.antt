-- What the loops over chains of waits keep, and that they find the inherited priorities.
use Rattle.std.proofs.Common.{◌≡◌, ℕ, zero, suc, ◌<◌, ◌≤◌, ◌+◌, List, length, replicate, refl, sym, ap, subst, ◌∙◌, Bool, true, false, ◌||◌, arith, inl, inr, Option, Some, None}
use Rattle.std.specs.Prelude.{if◌then◌else◌, ◌==◌, min, slice_set, slice_index_or}
use Rattle.std.proofs.lemmas.Bool.Decides.{eqb_tells}
use Rattle.std.proofs.lemmas.List.{get_or-set_same, get_or-set_other, get_or_past}
use Rattle.kern_base.specs.declared.numbers.TaskId.{TaskId}
use Rattle.kern_base.specs.declared.numbers.Prio.{Prio}
use Rattle.kern_model.specs.State.{Kernel, task_at}
use Rattle.kern_model.specs.Inherit.{least_of, numbers, reaches_by}
use Rattle.mutex_inherit.specs.Chains.{number_of, prio_at, owner_at, Tells, AreInherited, is_passed, raised, least_from}

-- one priority is written
pub prio_at-set : (prios : List Prio) (v x : ℕ) (q : Prio) → v < length prios → prio_at (slice_set prios v q) x ≡ (if v == x then q.0 else prio_at prios x)
prio_at-set prios v x q inside =
    let blank : Prio = record { 0 = 0 } in
    elim (eqb_tells v x) [
      | inl e ↦ ap (λ (p : Prio). p.0) (subst (λ y. slice_index_or (slice_set prios v q) y blank ≡ q) e.1 (get_or-set_same prios v q blank inside)) ∙ ap (λ b. if b then q.0 else prio_at prios x) (sym e.0)
      | inr e ↦ ap (λ (p : Prio). p.0) (get_or-set_other prios v x q blank (λ s. e.1 (sym s))) ∙ ap (λ b. if b then q.0 else prio_at prios x) (sym e.0)
    ]

-- the lowest priority everywhere
pub prio_at-replicate : (n x : ℕ) → x < n → prio_at (replicate n (record { 0 = 63 })) x ≡ 63
prio_at-replicate zero x h = absurd (omega arith)
prio_at-replicate (suc n) zero h = refl
prio_at-replicate (suc n) (suc x) h = prio_at-replicate n x (omega arith)

-- one step along a chain

raised-or : (a b : Bool) (base p : ℕ) → raised (a || b) base p ≡ raised b base (raised a base p)
raised-or true true base p = omega arith
raised-or true false base p = refl
raised-or false b base p = refl

pub chain-step : (m n : ℕ) (waits_for : List (Option TaskId)) (x task base p q : ℕ) → m ≡ suc n → q ≡ raised (task == x) base p → raised (is_passed m waits_for x (Some task)) base p ≡ raised (is_passed n waits_for x (owner_at waits_for task)) base q
unfolding is_passed
chain-step m n waits_for x task base p q more e =
    ap (λ i. raised (is_passed i waits_for x (Some task)) base p) more
    ∙ raised-or (task == x) (is_passed n waits_for x (owner_at waits_for task)) base p
    ∙ ap (λ r. raised (is_passed n waits_for x (owner_at waits_for task)) base r) (sym e)

-- its ends

pub passed-none : (n : ℕ) (waits_for : List (Option TaskId)) (x : ℕ) → is_passed n waits_for x None ≡ false
unfolding is_passed
passed-none zero waits_for x = refl
passed-none (suc n) waits_for x = refl

pub passed-zero : (waits_for : List (Option TaskId)) (x : ℕ) (o : Option ℕ) → is_passed 0 waits_for x o ≡ false
unfolding is_passed
passed-zero waits_for x o = refl

pub passed-past : (n : ℕ) (waits_for : List (Option TaskId)) (x task : ℕ) → length waits_for ≤ task → x < task → is_passed n waits_for x (Some task) ≡ false
unfolding is_passed
passed-past zero waits_for x task past less = refl
passed-past (suc n) waits_for x task past less =
    let alone : owner_at waits_for task ≡ None = ap number_of (get_or_past waits_for task None past) in
    let other : (task == x) ≡ false = elim (eqb_tells task x) [ inl e ↦ absurd (omega (arith, e.1)) | inr e ↦ e.0 ] in
    ap (λ b. b || is_passed n waits_for x (owner_at waits_for task)) other
    ∙ ap (λ o. is_passed n waits_for x o) alone
    ∙ passed-none n waits_for x

-- the least of what is found and of what is left to be looked at

pub least_from-le : (n u : ℕ) (bases : List Prio) (waits_for : List (Option TaskId)) (x : ℕ) → least_from n u bases waits_for x ≤ 63
unfolding least_from
least_from-le zero u bases waits_for x = omega arith
least_from-le (suc n) u bases waits_for x = omega (arith, least_from-le n (u + 1) bases waits_for x)

pub raised-le : (b : Bool) (base p : ℕ) → p ≤ 63 → raised b base p ≤ 63
raised-le true base p few = omega arith
raised-le false base p few = few

least-or : (b : Bool) (base p rest : ℕ) → p ≤ 63 → min (raised b base p) rest ≡ min p (min (if b then base else 63) rest)
least-or true base p rest few = omega arith
least-or false base p rest few = omega arith

pub least-step : (m n u : ℕ) (bases : List Prio) (waits_for : List (Option TaskId)) (x p q : ℕ) → m ≡ suc n → p ≤ 63 → q ≡ raised (is_passed 65 waits_for x (Some u)) (prio_at bases u) p → min q (least_from n (u + 1) bases waits_for x) ≡ min p (least_from m u bases waits_for x)
unfolding least_from
least-step m n u bases waits_for x p q more few e =
    ap (λ r. min r (least_from n (u + 1) bases waits_for x)) e
    ∙ least-or (is_passed 65 waits_for x (Some u)) (prio_at bases u) p (least_from n (u + 1) bases waits_for x) few
    ∙ ap (λ i. min p (least_from i u bases waits_for x)) (sym more)

pub least-end : (u : ℕ) (bases : List Prio) (waits_for : List (Option TaskId)) (x p : ℕ) → p ≤ 63 → min p (least_from 0 u bases waits_for x) ≡ p
unfolding least_from
least-end u bases waits_for x p few = omega arith

-- the chains of the arrays are those of the kernel

or-false : (b : Bool) → b ≡ b || false
or-false true = refl
or-false false = refl

module _ (bases : List Prio) (waits_for : List (Option TaskId)) (k : Kernel) (tells : Tells bases waits_for k) where
  passed-reaches : (n x : ℕ) (o : Option ℕ) → reaches_by n k x o ≡ is_passed (suc n) waits_for x o
  unfolding is_passed
  passed-reaches zero x None = refl
  passed-reaches (suc n) x None = refl
  passed-reaches zero x (Some u) = or-false (u == x)
  passed-reaches (suc n) x (Some u) =
      ap (λ b. (u == x) || b) (ap (λ o. reaches_by n k x o) (tells.owner u) ∙ passed-reaches n x (owner_at waits_for u))

  least-same : (n u x : ℕ) → u + n ≤ 64 → least_of x (numbers u n) k ≡ least_from n u bases waits_for x
  unfolding least_from
  least-same zero u x few = refl
  least-same (suc n) u x few =
      ap (λ b. min (if b then (task_at k u).base else 63) (least_of x (numbers (u + 1) n) k)) (passed-reaches 64 x (Some u))
      ∙ ap (λ p. min (if is_passed 65 waits_for x (Some u) then p else 63) (least_of x (numbers (u + 1) n) k)) (tells.base u (omega arith))
      ∙ ap (λ rest. min (if is_passed 65 waits_for x (Some u) then prio_at bases u else 63) rest) (least-same n (u + 1) x (omega arith))

-- so the loop finds the inherited priorities
pub are-inherited : (prios bases : List Prio) (waits_for : List (Option TaskId)) (k : Kernel) → Tells bases waits_for k → ((x : ℕ) → x < 64 → prio_at prios x ≡ least_from 64 0 bases waits_for x) → AreInherited prios k
are-inherited prios bases waits_for k tells found =
    record { each = λ x inside. found x inside ∙ sym (least-same bases waits_for k tells 64 0 x (omega arith)) }
