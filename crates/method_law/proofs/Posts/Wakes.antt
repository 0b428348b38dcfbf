-- Wakes with the handler's compared priority and with the saved one, where no woken task has the saved one.
use Rattle.machine_laws.proofs.Common.{◌≡◌, Bool, ℕ, refl, true, List, [], false, ◌∙◌, ◌∷◌, None, Some, sym, arith, Option, subst, ap, ◌≤◌, inl, inr, suc, zero, ◌<◌, ◌==◌, if◌then◌else◌, ◌&&◌, not, slice_set, false≢true, length-set, Finished, fine, result_of, wakes_all, Kernel, task_at, prio_of, Task, is_ready, list_at, no_task, IsLinked}
use Rattle.std.specs.Prelude.{◌+◌, insert}
use Rattle.std.proofs.Common.{length, get_or}
use Rattle.std.proofs.Math.ListN.{get_or-eq_default}
use Rattle.std.proofs.lemmas.Bool.{ne_eqb, eq-eqb, and_from, and_right, or_parts, cases_lt}
use Rattle.std.proofs.lemmas.List.{get_or-set_same}
use Rattle.kern_model.specs.State.{update_task, count_of, is_zero, waits_for_nothing}
use Rattle.kern_model.specs.Micro.{join_place}
use Rattle.kern_model.specs.FlagBits.{ready_bits}
use Rattle.kern_model.specs.Effect.{wakes, answered_task, woken_ready, unmatched, left_all}
use Rattle.kern_model.specs.Flags.{flag_wakes, flag_wakes_all}
use Rattle.kern_model.proofs.Lemmas.{update_task_at, keeps-trans, keeps-wakes, keeps-flag_wakes}
use Rattle.kern_model.specs.Posts.{PostKeeps}
use Rattle.machine_model.specs.Steps.{is_readied, some_readied}

-- whether a task of the kernel waits for nothing
abbrev pub waits_not : Kernel → ℕ → Bool
waits_not k y = waits_for_nothing (task_at k y).waiting

-- none of these tasks was readied
pub none-readied : (p : ℕ) (ts us : List Task) → length us ≡ length ts → some_readied p ts us ≡ false → (y : ℕ) → is_readied p (get_or ts y no_task) (get_or us y no_task) ≡ false
none-readied p [] [] l h y = refl
none-readied p [] (u ∷ us) l h y = absurd (omega (arith, l))
none-readied p (t ∷ ts) [] l h y = absurd (omega (arith, l))
none-readied p (t ∷ ts) (u ∷ us) l h zero = (or_parts (is_readied p t u) (some_readied p ts us) h).0
none-readied p (t ∷ ts) (u ∷ us) l h (suc y) = none-readied p ts us (omega (arith, l)) (or_parts (is_readied p t u) (some_readied p ts us) h).1 y

module _ (saved : ℕ) where
  -- a task that joins its ready list at one place by both compared priorities, unless it is suspended
  abbrev pub JoinsAlike : Kernel → ℕ → Type 0
  JoinsAlike k y = (1 ≤ prio_of k y) × ((task_at k y).suspended ≡ 0 → prio_of k y ≡ saved → ⊥)

  pub same-place : (p : ℕ) (xs : List ℕ) → 1 ≤ p → (p ≡ saved → ⊥) → join_place p 0 xs ≡ join_place p saved xs
  same-place p xs one other =
      ap (λ b. if b then length xs else 0) (ne_eqb p 0 (λ e. omega (arith, one, e)) ∙ sym (ne_eqb p saved other))

  same-ready : (n p x : ℕ) (lists : List (List ℕ)) → 1 ≤ p → (n ≡ 0 → p ≡ saved → ⊥) → woken_ready n p 0 x lists ≡ woken_ready n p saved x lists
  same-ready zero p x lists one other =
      ap (λ i. slice_set lists p (insert (list_at lists p) i x)) (same-place p (list_at lists p) one (other refl))
  same-ready (suc n) p x lists one other = refl

  pub same-wakes : (f : Finished) (x : ℕ) (k : Kernel) → JoinsAlike k x → wakes f 0 x k ≡ wakes f saved x k
  same-wakes f x k h =
      let t = task_at k x in
      ap (λ r. record k { tasks = update_task k.tasks x (answered_task f); ready = r; pend = left_all x t.objects k.pend; matches = unmatched x k.matches })
      (same-ready t.suspended t.prio x k.ready h.0 h.1)

  -- a task that is not ready, waits for nothing in the end, and is not readied with that priority
  pub joins-alike : (k after : Kernel) (y : ℕ) → IsLinked k → PostKeeps k after → waits_not k y ≡ false → waits_not after y ≡ true → is_readied saved (task_at k y) (task_at after y) ≡ false → JoinsAlike k y
  joins-alike k after y v keeps before now none =
      let t = task_at k y in
      let u = task_at after y in
      let not-ready : is_ready t ≡ false = ap (λ b. t.alive && (b && is_zero t.suspended)) before ∙ and_right t.alive false refl in
      let clash : t.suspended ≡ 0 → t.prio ≡ saved → ⊥
      = λ s p.
      (let ready : is_ready u ≡ true = and_from u.alive (waits_not after y && is_zero u.suspended) (keeps.alive y ∙ (v.tasks.each_task y).lives before)
      (and_from (waits_not after y) (is_zero u.suspended) now (ap is_zero (keeps.suspended y ∙ s))) in
      let yes = and_from (not (is_ready t)) (is_ready u && (u.prio == saved)) (ap not not-ready) (and_from (is_ready u) (u.prio == saved) ready (eq-eqb u.prio saved (keeps.prio y ∙ p))) in
      false≢true (sym none ∙ yes)) in
      ((v.tasks.each_task y).prio_from, clash)

  -- the same after other posts
  pub still-joins : (k j : Kernel) (y : ℕ) → PostKeeps k j → JoinsAlike k y → JoinsAlike j y
  still-joins k j y keeps h = (subst (λ p. 1 ≤ p) (sym (keeps.prio y)) h.0, λ s p. h.1 (sym (keeps.suspended y) ∙ s) (sym (keeps.prio y) ∙ p))

-- a woken task waits for nothing
pub woken-waits : (f : Finished) (h x : ℕ) (k : Kernel) → waits_not (wakes f h x k) x ≡ true
woken-waits f h x k =
    let t = answered_task f (task_at k x) in
    elim (cases_lt x (length k.tasks)) as (λ _. waits_not (wakes f h x k) x ≡ true) [
      | inl l ↦ ap (λ (u : Task). waits_for_nothing u.waiting) (get_or-set_same k.tasks x t no_task l)
      | inr l ↦ ap (λ (u : Task). waits_for_nothing u.waiting) (get_or-eq_default (slice_set k.tasks x t) no_task (subst (λ m. m ≤ x) (sym (length-set k.tasks x t)) l))
    ]

-- and one that waits for nothing goes on so
wakes-stays : (f : Finished) (h x : ℕ) (k : Kernel) (y : ℕ) → waits_not k y ≡ true → waits_not (wakes f h x k) y ≡ true
wakes-stays f h x k y e =
    update_task_at (λ m t. m ≡ y → waits_for_nothing t.waiting ≡ true) (answered_task f) k.tasks x (λ old m. refl)
    (λ m i. subst (λ z. waits_not k z ≡ true) (sym i) e) y refl

wakes_all-stays : (f : Task → Finished) (h : ℕ) (xs : List ℕ) (k : Kernel) (y : ℕ) → waits_not k y ≡ true → waits_not (wakes_all f h xs k) y ≡ true
wakes_all-stays f h [] k y e = e
wakes_all-stays f h (x ∷ xs) k y e = let j = wakes (f (task_at k x)) h x k in wakes_all-stays f h xs j y (wakes-stays (f (task_at k x)) h x k y e)

flag_wakes-stays : (o : Option ℕ) (h x : ℕ) (k : Kernel) (y : ℕ) → waits_not k y ≡ true → waits_not (flag_wakes o h x k) y ≡ true
flag_wakes-stays None h x k y e = e
flag_wakes-stays (Some ready) h x k y e = wakes-stays (result_of (fine ready) (task_at k x)) h x k y e

flag_wakes_all-stays : (bits h : ℕ) (xs : List ℕ) (k : Kernel) (y : ℕ) → waits_not k y ≡ true → waits_not (flag_wakes_all bits h xs k) y ≡ true
flag_wakes_all-stays bits h [] k y e = e
flag_wakes_all-stays bits h (x ∷ xs) k y e =
    let o = ready_bits bits (task_at k x).mask (task_at k x).opt in
    flag_wakes_all-stays bits h xs (flag_wakes o h x k) y (flag_wakes-stays o h x k y e)

-- the first of a list stands in it, and what stands behind it does
count-first : (x : ℕ) (xs : List ℕ) → 0 < count_of x (x ∷ xs)
count-first x xs = subst (λ b. 0 < (if b then 1 else 0) + count_of x xs) (sym (eq-eqb x x refl)) (omega arith)

count-rest : (y x : ℕ) (xs : List ℕ) → 0 < count_of y xs → 0 < count_of y (x ∷ xs)
count-rest y x xs h = omega (arith, h)

module _ (saved : ℕ) (k : Kernel) where
  -- Wakes in order, from a kernel j on that posts led to: where each task that then waits for nothing joins alike, both
  -- compared priorities come to the same.
  pub same-wakes_all : (f : Task → Finished) (xs : List ℕ) (j : Kernel) → PostKeeps k j
      → ((y : ℕ) → 0 < count_of y xs → waits_not (wakes_all f 0 xs j) y ≡ true → JoinsAlike saved k y) → wakes_all f 0 xs j ≡ wakes_all f saved xs j
  same-wakes_all f [] j keeps h = refl
  same-wakes_all f (x ∷ xs) j keeps h =
      let r = f (task_at j x) in
      let i = wakes r 0 x j in
      let joins = h x (count-first x xs) (wakes_all-stays f 0 xs i x (woken-waits r 0 x j)) in
      same-wakes_all f xs i (keeps-trans k j i keeps (keeps-wakes r 0 x j)) (λ y c w. h y (count-rest y x xs c) w)
      ∙ ap (λ m. wakes_all f saved xs m) (same-wakes saved r x j (still-joins saved k j x keeps joins))

  -- one waiter of an event flag group
  same-flag_wakes : (o : Option ℕ) (x : ℕ) (j : Kernel) → PostKeeps k j → (waits_not (flag_wakes o 0 x j) x ≡ true → JoinsAlike saved k x) → flag_wakes o 0 x j ≡ flag_wakes o saved x j
  same-flag_wakes None x j keeps h = refl
  same-flag_wakes (Some ready) x j keeps h =
      let r = result_of (fine ready) (task_at j x) in
      same-wakes saved r x j (still-joins saved k j x keeps (h (woken-waits r 0 x j)))

  pub same-flag_wakes_all : (bits : ℕ) (xs : List ℕ) (j : Kernel) → PostKeeps k j
      → ((y : ℕ) → 0 < count_of y xs → waits_not (flag_wakes_all bits 0 xs j) y ≡ true → JoinsAlike saved k y) → flag_wakes_all bits 0 xs j ≡ flag_wakes_all bits saved xs j
  same-flag_wakes_all bits [] j keeps h = refl
  same-flag_wakes_all bits (x ∷ xs) j keeps h =
      let o = ready_bits bits (task_at j x).mask (task_at j x).opt in
      let i = flag_wakes o 0 x j in
      same-flag_wakes_all bits xs i (keeps-trans k j i keeps (keeps-flag_wakes o 0 x j)) (λ y c w. h y (count-rest y x xs c) w)
      ∙ ap (λ m. flag_wakes_all bits saved xs m) (same-flag_wakes o x j keeps (λ w. h x (count-first x xs) (flag_wakes_all-stays bits 0 xs i x w)))
