-- The task that the scheduler picks is ready, and which tasks may be.
use Rattle.machine_laws.proofs.Common.{◌≡◌, Bool, ℕ, refl, true, List, [], false, ◌∙◌, ◌∷◌, arith, subst, ◌≤◌, inl, inr, suc, ◌<◌, ◌⊎◌, ◌==◌, if◌then◌else◌, ◌&&◌, length, nat_lt, not, Kernel, task_at, prio_of, Task, is_ready, list_at, pick, no_task, IsLinked}
use Rattle.std.proofs.lemmas.List.{get_or_past}
use Rattle.std.proofs.Common.{eq-eqb, ltb-true, ltb-false}
use Rattle.kern_model.specs.State.{first_of, count_of, is_zero}
use Rattle.kern_base.specs.declared.outcomes.Waiting.TheVariants.{Signal, No}
use Rattle.kern_model.specs.Valid.{one_if}

-- it is the idle task, or it stands in a ready list
pub record StandsIn (lists : List (List ℕ)) (x : ℕ) : Type 0 where
  pub prio : ℕ
  pub stands : 1 ≤ count_of x (list_at lists prio)

first-stands : (lists : List (List ℕ)) → (first_of lists ≡ 62) ⊎ StandsIn lists (first_of lists)
first-stands [] = inl refl
first-stands ([] ∷ lists) = one_more (first-stands lists)
  where
    one_more : (first_of lists ≡ 62) ⊎ StandsIn lists (first_of lists) → (first_of lists ≡ 62) ⊎ StandsIn ([] ∷ lists) (first_of lists)
    one_more (inl e) = inl e
    one_more (inr h) = inr (record { prio = suc h.prio; stands = h.stands })
first-stands ((x ∷ xs) ∷ lists) =
    let e : (x == x) ≡ true = eq-eqb x x refl in
    inr (record { prio = 0; stands = rw e (omega arith) })

ready_of : (b c : Bool) → 1 ≤ one_if (b && c) → b ≡ true
ready_of true c p = refl
ready_of false c p = absurd (omega (arith, p))

-- the picked task is ready
pub ready-pick : (k : Kernel) → IsLinked k → is_ready (task_at k (pick k)) ≡ true
ready-pick k v = by_place (first-stands k.ready)
  where
    by_place : (pick k ≡ 62) ⊎ StandsIn k.ready (pick k) → is_ready (task_at k (pick k)) ≡ true
    by_place (inl e) = rw e v.internal.idle
    by_place (inr h) = ready_of (is_ready (task_at k (pick k))) (prio_of k (pick k) == h.prio) (rw (v.lists.stands h.prio (pick k)) at h.stands)

-- No task stands at a number from 63 on.

gone : (t : Task) → t.alive ≡ false → is_ready t ≡ true → ⊥
gone t e ready = let h : false ≡ true = rw e at ready in cc

no_such_task : (k : Kernel) → IsLinked k → (x : ℕ) → 64 ≤ x → is_ready (task_at k x) ≡ true → ⊥
no_such_task k v x p ready =
    let past : length k.tasks ≤ x = omega (arith, v.sizes.tasks, p) in
    let e : task_at k x ≡ no_task = get_or_past k.tasks x no_task past in
    let h : is_ready no_task ≡ true = rw e at ready in
    cc

-- a ready task has a number below 63
pub ready-below : (k : Kernel) → IsLinked k → (x : ℕ) → is_ready (task_at k x) ≡ true → x < 63
ready-below k v x ready =
    let handler : x ≡ 63 → ⊥ = λ e. gone (task_at k 63) v.internal.handler (subst (λ y. is_ready (task_at k y) ≡ true) e ready) in
    let past : 64 ≤ x → ⊥ = λ p. no_such_task k v x p ready in
    by_order (nat_lt x 64) refl handler past
  where
    by_order : (b : Bool) → nat_lt x 64 ≡ b → (x ≡ 63 → ⊥) → (64 ≤ x → ⊥) → x < 63
    by_order true e handler past = omega (arith, ltb-true x 64 e, handler)
    by_order false e handler past = absurd (past (ltb-false x 64 e))

-- while the timer task is processing it is ready
pub ready-timer : (k : Kernel) → IsLinked k → k.processing ≡ true → is_ready (task_at k 61) ≡ true
ready-timer k v p =
    let waits : (task_at k 61).waiting ≡ No = v.internal.timer_waits ∙ never (is_zero k.timer_signals) k.processing p in
    rw (v.internal.timer_lives.0, waits, v.internal.timer_lives.1) refl
  where
    never : (a b : Bool) → b ≡ true → (if a && not b then Signal else No) ≡ No
    never true true e = refl
    never false true e = refl
    never a false e = cc
