-- A renewal makes the present priorities the inherited ones.
use Rattle.kern_model.proofs.Common.{◌≡◌, ◌≢◌, ◌⊎◌, ℕ, zero, suc, ◌<◌, ◌≤◌, ◌+◌, List, [], ◌∷◌, length, refl, sym, ap, ◌∙◌, subst, Bool, true, false, ◌&&◌, ◌||◌, not, arith, inl, inr, Option, Some, None, ◌==◌, if◌then◌else◌, min, MutexPend, Waiting, Obj, Kernel, Task, Content, Held, task_at, object_at, prio_of, count_of, Effect, living, owner_in, owner_for, waits_on, reaches_by, reaches, numbers, least_of, inherited, with_prio, moved, moved_all, moves_of, renewed_tasks, renewed, renewing, IsLinked, IsInherited, one_if}
use Rattle.std.proofs.lemmas.Bool.{false≢true, true≢false}
use Rattle.std.proofs.lemmas.Bool.Decides.{eqb_tells}
use Rattle.kern_model.proofs.Basics.Choices.{equal}
use Rattle.kern_model.proofs.Basics.Updates.{update_task_same, task-updated, task-other}
use Rattle.std.proofs.lemmas.List.{length-set}
use Rattle.kern_model.proofs.Linked.Wakes.{self_equal}
use Rattle.kern_model.proofs.Lists.Counts.{count-append}

-- the same tasks wait for the same owners, and have the same base priorities
pub record SameWaits (k j : Kernel) : Type 0 where
  pub waits : (u : ℕ) → waits_on j u ≡ waits_on k u
  pub base : (u : ℕ) → (task_at j u).base ≡ (task_at k u).base

reaches_by-same : (k j : Kernel) → SameWaits k j → (n x : ℕ) (o : Option ℕ) → reaches_by n j x o ≡ reaches_by n k x o
reaches_by-same k j s zero x None = refl
reaches_by-same k j s zero x (Some u) = refl
reaches_by-same k j s (suc n) x None = refl
reaches_by-same k j s (suc n) x (Some u) =
    ap (λ b. (u == x) || b) (reaches_by-same k j s n x (waits_on j u) ∙ ap (λ o. reaches_by n k x o) (s.waits u))

least-same : (k j : Kernel) → SameWaits k j → (x : ℕ) (us : List ℕ) → least_of x us j ≡ least_of x us k
least-same k j s x [] = refl
least-same k j s x (u ∷ us) =
    ap (λ b. min (if b then (task_at j u).base else 63) (least_of x us j)) (reaches_by-same k j s 64 x (Some u))
    ∙ ap (λ n. min (if reaches k u x then n else 63) (least_of x us j)) (s.base u)
    ∙ ap (λ n. min (if reaches k u x then (task_at k u).base else 63) n) (least-same k j s x us)

-- then inherited priorities are the same
pub inherited-same : (k j : Kernel) → SameWaits k j → (x : ℕ) → inherited j x ≡ inherited k x
inherited-same k j s x = least-same k j s x (numbers 0 64)

-- a move changes none of this

living-moved : (place : List ℕ → ℕ) (x p : ℕ) (k : Kernel) (o : Option ℕ) → living o (moved place x p k) ≡ living o k
living-moved place x p k None = refl
living-moved place x p k (Some v) = ap (λ b. if b then Some v else None) (update_task_same (λ t. t.alive) (with_prio p) (λ t. refl) k.tasks x v)

owner_in-moved : (place : List ℕ → ℕ) (x p : ℕ) (k : Kernel) (c : Content) → owner_in c (moved place x p k) ≡ owner_in c k
owner_in-moved place x p k (Held owner nesting) = living-moved place x p k owner
owner_in-moved place x p k _ = refl

owner_for-moved : (place : List ℕ → ℕ) (x p : ℕ) (k : Kernel) (w : Waiting) (os : List ℕ) → owner_for w os (moved place x p k) ≡ owner_for w os k
owner_for-moved place x p k (Obj MutexPend) (o ∷ os) = owner_in-moved place x p k (object_at k o).content
owner_for-moved place x p k _ _ = refl

pub same_waits-moved : (place : List ℕ → ℕ) (x p : ℕ) (k : Kernel) → SameWaits k (moved place x p k)
same_waits-moved place x p k =
    record {
      waits = λ u. ap (λ w. owner_for w (task_at (moved place x p k) u).objects (moved place x p k)) (update_task_same (λ t. t.waiting) (with_prio p) (λ t. refl) k.tasks x u)
          ∙ ap (λ os. owner_for (task_at k u).waiting os (moved place x p k)) (update_task_same (λ t. t.objects) (with_prio p) (λ t. refl) k.tasks x u)
          ∙ owner_for-moved place x p k (task_at k u).waiting (task_at k u).objects;
      base = update_task_same (λ t. t.base) (with_prio p) (λ t. refl) k.tasks x;
    }

inherited-moved_all : (place : List ℕ → ℕ) (ms : List (ℕ × ℕ)) (k : Kernel) (x : ℕ) → inherited (moved_all place ms k) x ≡ inherited k x
inherited-moved_all place [] k x = refl
inherited-moved_all place (m ∷ ms) k x =
    inherited-moved_all place ms (moved place m.0 m.1 k) x ∙ inherited-same k (moved place m.0 m.1 k) (same_waits-moved place m.0 m.1 k) x

alive-moved_all : (place : List ℕ → ℕ) (ms : List (ℕ × ℕ)) (k : Kernel) (x : ℕ) → (task_at (moved_all place ms k) x).alive ≡ (task_at k x).alive
alive-moved_all place [] k x = refl
alive-moved_all place (m ∷ ms) k x =
    alive-moved_all place ms (moved place m.0 m.1 k) x ∙ update_task_same (λ t. t.alive) (with_prio m.1) (λ t. refl) k.tasks m.0 x

length-moved_all : (place : List ℕ → ℕ) (x p : ℕ) (k : Kernel) → length (moved place x p k).tasks ≡ length k.tasks
length-moved_all place x p k = length-set k.tasks x _

-- the moves of these tasks leave another task's priority
untouched : (place : List ℕ → ℕ) (k : Kernel) (xs : List ℕ) (j : Kernel) (y : ℕ) → count_of y xs ≡ 0 → prio_of (moved_all place (moves_of xs k) j) y ≡ prio_of j y
untouched place k [] j y none = refl
untouched place k (x ∷ xs) j y none =
    by_case ((task_at k x).alive && not (inherited k x == prio_of k x)) (λ i. untouched place k xs i y (omega (arith, none)))
  where
    apart : x ≢ y
    apart e = let one : one_if (x == y) ≡ 1 = ap one_if (ap (λ z. x == z) (sym e) ∙ self_equal x) in absurd (omega (arith, none))

    by_case : (b : Bool) → ((i : Kernel) → prio_of (moved_all place (moves_of xs k) i) y ≡ prio_of i y) → prio_of (moved_all place (if b then (x, inherited k x) ∷ moves_of xs k else moves_of xs k) j) y ≡ prio_of j y
    by_case false rest = rest j
    by_case true rest = rest (moved place x (inherited k x) j) ∙ ap (λ (t : Task). t.prio) (task-other j.tasks x (with_prio (inherited k x)) y apart)

-- and give each of these that lives its inherited one
touched : (place : List ℕ → ℕ) (k : Kernel) (xs : List ℕ) (j : Kernel) (y : ℕ) → count_of y xs ≡ 1 → y < length j.tasks → (task_at k y).alive ≡ true → prio_of j y ≡ prio_of k y → prio_of (moved_all place (moves_of xs k) j) y ≡ inherited k y
touched place k [] j y one inside a same = absurd (omega (arith, one))
touched place k (x ∷ xs) j y one inside a same =
    elim (eqb_tells x y) [
      | inl e ↦ here e.1 (omega (arith, one, ap one_if e.0))
      | inr e ↦ there e.1 ((task_at k x).alive && not (inherited k x == prio_of k x)) (λ i n s. touched place k xs i y (omega (arith, one, ap one_if e.0)) n a s)
    ]
  where
    stays : (e : x ≡ y) (b : Bool) → (task_at k x).alive && not (inherited k x == prio_of k x) ≡ b → count_of y xs ≡ 0 → prio_of (moved_all place (if b then (x, inherited k x) ∷ moves_of xs k else moves_of xs k) j) y ≡ inherited k y
    stays e true t none =
        untouched place k xs (moved place x (inherited k x) j) y none
        ∙ subst (λ z. prio_of (moved place x (inherited k x) j) z ≡ inherited k z) e (ap (λ (t : Task). t.prio) (task-updated j.tasks x (with_prio (inherited k x)) (subst (λ z. z < length j.tasks) (sym e) inside)))
    stays e false t none = untouched place k xs j y none ∙ same ∙ subst (λ z. prio_of k z ≡ inherited k z) e (sym (equal (inherited k x) (prio_of k x) (tested (task_at k x).alive (inherited k x == prio_of k x) (subst (λ z. (task_at k z).alive ≡ true) (sym e) a) t)))
      where
        tested : (a b : Bool) → a ≡ true → a && not b ≡ false → b ≡ true
        tested true true h t = refl
        tested true false h t = absurd (true≢false t)
        tested false b h t = absurd (false≢true h)

    here : x ≡ y → count_of y xs ≡ 0 → prio_of (moved_all place (moves_of (x ∷ xs) k) j) y ≡ inherited k y
    here e none = stays e ((task_at k x).alive && not (inherited k x == prio_of k x)) refl none

    there : x ≢ y → (b : Bool) → ((i : Kernel) → y < length i.tasks → prio_of i y ≡ prio_of k y → prio_of (moved_all place (moves_of xs k) i) y ≡ inherited k y) → prio_of (moved_all place (if b then (x, inherited k x) ∷ moves_of xs k else moves_of xs k) j) y ≡ inherited k y
    there d false rest = rest j inside same
    there d true rest =
        rest (moved place x (inherited k x) j) (subst (λ n. y < n) (sym (length-moved_all place x (inherited k x) j)) inside) (ap (λ (t : Task). t.prio) (task-other j.tasks x (with_prio (inherited k x)) y d) ∙ same)

numbers-below : (a n y : ℕ) → y < a → count_of y (numbers a n) ≡ 0
numbers-below a zero y h = refl
numbers-below a (suc n) y h =
    elim (eqb_tells a y) [ inl e ↦ absurd (omega (arith, e.1)) | inr e ↦ omega (arith, ap one_if e.0, numbers-below (a + 1) n y (omega arith)) ]

numbers-above : (a n y : ℕ) → a + n ≤ y → count_of y (numbers a n) ≡ 0
numbers-above a zero y h = refl
numbers-above a (suc n) y h =
    elim (eqb_tells a y) [ inl e ↦ absurd (omega (arith, e.1)) | inr e ↦ omega (arith, ap one_if e.0, numbers-above (a + 1) n y (omega arith)) ]

numbers-once : (a n y : ℕ) → a ≤ y → y < a + n → count_of y (numbers a n) ≡ 1
numbers-once a zero y h l = absurd (omega arith)
numbers-once a (suc n) y h l =
    elim (eqb_tells a y) [
      | inl e ↦ omega (arith, ap one_if e.0, numbers-below (a + 1) n y (omega (arith, e.1)))
      | inr e ↦ omega (arith, ap one_if e.0, numbers-once (a + 1) n y (omega (arith, e.1)) (omega arith))
    ]

renewed-once : (y : ℕ) → (y < 60) ⊎ (y ≡ 61) → count_of y renewed_tasks ≡ 1
renewed-once y (inl l) =
    elim (eqb_tells 61 y) [
      | inl e ↦ absurd (omega (arith, e.1))
      | inr e ↦ omega (arith, count-append y (numbers 0 60) (61 ∷ []), numbers-once 0 60 y (omega arith) (omega arith), ap one_if e.0)
    ]
renewed-once y (inr s) =
    omega (arith, count-append y (numbers 0 60) (61 ∷ []), numbers-above 0 60 y (omega (arith, s)), ap one_if (ap (λ z. 61 == z) s))

-- After a renewal every living application task and the timer task have their inherited priorities.
pub inherited-renewed : (place : List ℕ → ℕ) (k : Kernel) → IsLinked k → IsInherited (renewed place k)
inherited-renewed place k v y who a =
    touched place k renewed_tasks k y (renewed-once y who) (inside who) (sym (alive-moved_all place (moves_of renewed_tasks k) k y) ∙ a) refl
    ∙ sym (inherited-moved_all place (moves_of renewed_tasks k) k y)
  where
    inside : (y < 60) ⊎ (y ≡ 61) → y < length k.tasks
    inside (inl l) = omega (arith, v.sizes.tasks)
    inside (inr e) = omega (arith, v.sizes.tasks, e)

pub inherited-renewing : (place : List ℕ → ℕ) (e : Effect) → IsLinked e.kernel → IsInherited (renewing place e).kernel
inherited-renewing place e v = inherited-renewed place e.kernel v
