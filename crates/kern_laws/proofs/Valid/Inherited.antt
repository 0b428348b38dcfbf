-- Each plain change without a renewal keeps the present priorities the inherited ones.
use Rattle.kern_model.proofs.Common.{◌≡◌, ◌⊎◌, ℕ, zero, suc, ◌<◌, List, [], ◌∷◌, length, get_or, refl, sym, ap, ◌∙◌, subst, true, false, ◌||◌, arith, inl, inr, Option, Some, None, ◌==◌, if◌then◌else◌, min, MutexPend, Waiting, No, Obj, Signal, Finished, Kernel, Task, Settings, Timer, Running, Object, Content, Count, Messages, Bits, Held, Timed, no_task, no_object, task_at, object_at, prio_of, count_of, update_task, update_object, with_content, with_task, is_ready, is_zero, waits_for_nothing, Wait, wakes, blocked, waiting_task, answered_task, living, owner_in, owner_for, waits_on, reaches_by, reaches, numbers, least_of, IsLinked, IsInherited, one_if, can_wait}
use Rattle.std.proofs.lemmas.Bool.{false≢true, true≢false}
use Rattle.std.proofs.lemmas.Bool.Decides.{eqb_tells}
use Rattle.std.proofs.lemmas.List.{get_or-set_other}
use Rattle.kern_model.specs.Waiters.{emptied, without_object}
use Rattle.kern_model.specs.Timers.{runs, rests}
use Rattle.kern_model.specs.Stop.{stopped}
use Rattle.kern_model.proofs.Basics.Updates.{update_task_same, update_task_at, task-updated, task-other}
use Rattle.kern_model.proofs.Linked.Wakes.{self_equal, ready_alive, ready_free}
use Rattle.kern_model.proofs.Inherit.Renewed.{SameWaits, inherited-same}
use Rattle.kern_model.proofs.Linked.Contents.{update_object_same}
use Rattle.kern_laws.proofs.Changes.Each.{Holds, WaitsFit, shape, follows, is_plain, waits_for_mutex}
use Rattle.kern_laws.proofs.Changes.Parts.{KeepsInherited}

-- what inheritance reads of the task at x is so in t, with the owners of k
pub record SameTask (k : Kernel) (x : ℕ) (t : Task) : Type 0 where
  pub prio : t.prio ≡ prio_of k x
  pub base : t.base ≡ (task_at k x).base
  pub alive : t.alive ≡ (task_at k x).alive
  pub owner : owner_for t.waiting t.objects k ≡ waits_on k x

same_task : (k : Kernel) (x : ℕ) → SameTask k x (task_at k x)
same_task k x = record { prio = refl; base = refl; alive = refl; owner = refl }

-- Where priorities are the same and whoever lives did before, what was inherited is.
pub inherited-kept : (k j : Kernel) → SameWaits k j → ((y : ℕ) → prio_of j y ≡ prio_of k y) → ((y : ℕ) → (task_at j y).alive ≡ true → (task_at k y).alive ≡ true) → IsInherited k → IsInherited j
inherited-kept k j s prio alive i y who a = prio y ∙ i y who (alive y a) ∙ sym (inherited-same k j s y)

-- the owner of a mutex lives as before
owner_in-alive : (k j : Kernel) → ((v : ℕ) → (task_at j v).alive ≡ (task_at k v).alive) → (c : Content) → owner_in c j ≡ owner_in c k
owner_in-alive k j alive (Held None nesting) = refl
owner_in-alive k j alive (Held (Some v) nesting) = ap (λ b. if b then Some v else None) (alive v)
owner_in-alive k j alive _ = refl

-- a wait looks at an object of its own only if it is for a mutex
owner_for-same : (k j : Kernel) → ((v : ℕ) → (task_at j v).alive ≡ (task_at k v).alive) → (w : Waiting) (os : List ℕ) → ((o : ℕ) → waits_for_mutex w ≡ true → 0 < count_of o os → owner_in (object_at j o).content k ≡ owner_in (object_at k o).content k) → owner_for w os j ≡ owner_for w os k
owner_for-same k j alive (Obj MutexPend) (o ∷ os) same =
    let one : one_if (o == o) ≡ 1 = ap one_if (self_equal o) in
    owner_in-alive k j alive (object_at j o).content ∙ same o refl (omega (arith, one))
owner_for-same k j alive _ _ same = refl

owner_for-none : (w : Waiting) (os : List ℕ) (k : Kernel) → waits_for_mutex w ≡ false → owner_for w os k ≡ None
owner_for-none (Obj MutexPend) os k h = absurd (true≢false h)
owner_for-none _ os k h = refl

-- so it is where what inheritance reads is the same of each task, and of each object at which a wait for a mutex looks
tasks-kept : (k j : Kernel) → ((y : ℕ) → SameTask k y (task_at j y)) → ((u o : ℕ) → waits_for_mutex (task_at j u).waiting ≡ true → 0 < count_of o (task_at j u).objects → owner_in (object_at j o).content k ≡ owner_in (object_at k o).content k) → IsInherited k → IsInherited j
tasks-kept k j same owners i =
    inherited-kept k j
    (record {
      waits = λ u. owner_for-same k j (λ v. (same v).alive) (task_at j u).waiting (task_at j u).objects (owners u) ∙ (same u).owner;
      base = λ u. (same u).base;
    })
    (λ y. (same y).prio) (λ y a. sym (same y).alive ∙ a) i

-- a change of one task
task-kept : (k j : Kernel) (x : ℕ) (f : Task → Task) → j.tasks ≡ update_task k.tasks x f → j.objects ≡ k.objects → SameTask k x (f (task_at k x)) → IsInherited k → IsInherited j
task-kept k j x f tasks objects same i =
    tasks-kept k j
    (λ y. subst (λ (ts : List Task). SameTask k y (get_or ts y no_task)) (sym tasks) (update_task_at (SameTask k) f k.tasks x (λ s. same) (same_task k) y))
    (λ u o w h. ap (λ (bs : List Object). owner_in (get_or bs o no_object).content k) objects) i

-- a change of objects
objects-kept : (k j : Kernel) → j.tasks ≡ k.tasks → ((u o : ℕ) → waits_for_mutex (task_at k u).waiting ≡ true → 0 < count_of o (task_at k u).objects → owner_in (object_at j o).content k ≡ owner_in (object_at k o).content k) → IsInherited k → IsInherited j
objects-kept k j tasks owners i =
    tasks-kept k j
    (λ y. subst (λ (ts : List Task). SameTask k y (get_or ts y no_task)) (sym tasks) (same_task k y))
    (λ u. subst (λ (ts : List Task). (o : ℕ) → waits_for_mutex (get_or ts u no_task).waiting ≡ true → 0 < count_of o (get_or ts u no_task).objects → owner_in (object_at j o).content k ≡ owner_in (object_at k o).content k) (sym tasks) (owners u))
    i

-- a change of an object that keeps its owner
object-kept : (k j : Kernel) (o : ℕ) (f : Object → Object) → j.tasks ≡ k.tasks → j.objects ≡ update_object k.objects o f → owner_in (f (object_at k o)).content k ≡ owner_in (object_at k o).content k → IsInherited k → IsInherited j
object-kept k j o f tasks objects same i =
    objects-kept k j tasks
    (λ u n w h. subst (λ (bs : List Object). owner_in (get_or bs n no_object).content k ≡ owner_in (object_at k n).content k) (sym objects) (update_object_same (λ (b : Object). owner_in b.content k) f k.objects o n same))
    i

-- semaphores, queues and event flags have no owner
follows-none : (old new : Content) (k : Kernel) → follows old new ≡ true → owner_in new k ≡ owner_in old k
follows-none (Count m) (Count n) k h = refl
follows-none (Messages limit ms) (Messages size ns) k h = refl
follows-none (Bits a) (Bits b) k h = refl
follows-none _ _ k h = absurd (false≢true h)

plain-none : (c : Content) (k : Kernel) → is_plain c ≡ true → owner_in (emptied c) k ≡ owner_in c k
plain-none (Count n) k h = refl
plain-none (Messages limit ms) k h = refl
plain-none (Bits bits) k h = refl
plain-none _ k h = absurd (false≢true h)

mutex-waits : (w : Waiting) → waits_for_mutex w ≡ true → w ≡ Obj MutexPend
mutex-waits (Obj MutexPend) h = refl
mutex-waits _ h = absurd (false≢true h)

ready-none : (k : Kernel) (x : ℕ) → is_ready (task_at k x) ≡ true → waits_for_mutex (task_at k x).waiting ≡ false
ready-none k x r = quiet (task_at k x).waiting (ready_free (task_at k x).alive (waits_for_nothing (task_at k x).waiting) (is_zero (task_at k x).suspended) r)
  where
    quiet : (w : Waiting) → waits_for_nothing w ≡ true → waits_for_mutex w ≡ false
    quiet (Obj MutexPend) h = absurd (false≢true h)
    quiet _ h = refl

module _ (k : Kernel) where
  kept-wake : (f : Finished) (h x : ℕ) → waits_for_mutex (task_at k x).waiting ≡ false → IsInherited k → IsInherited (wakes f h x k)
  kept-wake f h x free i =
      task-kept k (wakes f h x k) x (answered_task f) refl refl
      (record { prio = refl; base = refl; alive = refl; owner = sym (owner_for-none (task_at k x).waiting (task_at k x).objects k free) }) i

  kept-block : (x : ℕ) (w : Wait) → is_ready (task_at k x) ≡ true → waits_for_mutex w.waiting ≡ false → IsInherited k → IsInherited (blocked k x w)
  kept-block x w r free i =
      task-kept k (blocked k x w) x (waiting_task w) refl refl
      (record {
        prio = refl;
        base = refl;
        alive = refl;
        owner = owner_for-none w.waiting w.objects k free ∙ sym (owner_for-none (task_at k x).waiting (task_at k x).objects k (ready-none k x r));
      }) i

  -- nobody waits for a free mutex
  kept-taken : (o n x : ℕ) → Holds k o (Held None n) → WaitsFit k → IsInherited k → IsInherited (with_content k o (Held (Some x) 1))
  kept-taken o n x h fits i =
      objects-kept k (with_content k o (Held (Some x) 1)) refl
      (λ u m w inside. elim (eqb_tells o m) [
        | inl e ↦ absurd (nobody u m w inside (sym e.1))
        | inr e ↦ ap (λ (b : Object). owner_in b.content k) (get_or-set_other k.objects o m _ no_object (λ d. e.1 (sym d)))
      ]) i
    where
      nobody : (u m : ℕ) → waits_for_mutex (task_at k u).waiting ≡ true → 0 < count_of m (task_at k u).objects → m ≡ o → ⊥
      nobody u m w inside e =
          let waits = mutex-waits (task_at k u).waiting w in
          false≢true (ap (λ c. can_wait (Obj MutexPend) c) (sym h.holds)
          ∙ ap (λ z. can_wait (Obj MutexPend) (object_at k z).content) (sym e)
          ∙ ap (λ z. can_wait z (object_at k m).content) (sym waits)
          ∙ (fits u (ap (λ z. waits_for_nothing z) waits) m inside).1)

  kept-timer : (j : Kernel) (o : ℕ) (t s : Timer) → j.tasks ≡ k.tasks → j.objects ≡ update_object k.objects o (λ b. record b { content = Timed s }) → (object_at k o).content ≡ Timed t → IsInherited k → IsInherited j
  kept-timer j o t s tasks objects h i =
      object-kept k j o (λ b. record b { content = Timed s }) tasks objects (ap (λ c. owner_in c k) (sym h)) i

  -- a change of one task that keeps its shape
  kept-shape : (x : ℕ) (f : Task → Task) → ((t : Task) → shape (f t) ≡ shape t) → IsInherited k → IsInherited (with_task k x f)
  kept-shape x f h i =
      let e = h (task_at k x) in
      task-kept k (with_task k x f) x f refl refl
      (record {
        prio = ap (λ s. s.prio) e;
        base = ap (λ s. s.base) e;
        alive = ap (λ s. s.alive) e;
        owner = ap (λ s. owner_for s.waiting s.objects k) e;
      }) i

  -- the tick task and the timer task wait for no mutex
  kept-internal : (x : ℕ) (w : Waiting) → IsLinked k → (x ≡ 60) ⊎ (x ≡ 61) → (w ≡ No) ⊎ (w ≡ Signal) → IsInherited k → IsInherited (with_task k x (λ t. record t { waiting = w }))
  kept-internal x w v who quiet i =
      task-kept k (with_task k x (λ t. record t { waiting = w })) x (λ t. record t { waiting = w }) refl refl
      (record { prio = refl; base = refl; alive = refl; owner = none w ∙ sym (none (task_at k x).waiting) }) i
    where
      objects : (task_at k x).objects ≡ []
      objects = elim who [
        | inl e ↦ (v.internal.no_objects x (omega (arith, e))).0
        | inr e ↦ (v.internal.no_objects x (omega (arith, e))).0
      ]

      empty : (w : Waiting) → owner_for w [] k ≡ None
      empty (Obj MutexPend) = refl
      empty _ = refl

      none : (w : Waiting) → owner_for w (task_at k x).objects k ≡ None
      none w = ap (λ os. owner_for w os k) objects ∙ empty w

-- A ready task that traps lives no more, so nobody waits for it; and from it no other task was reached.
module _ (k : Kernel) (v : IsLinked k) (x : ℕ) (inside : x < 60) (ready : is_ready (task_at k x) ≡ true) where
  abbrev dead : Kernel
  dead = stopped x k

  in_tasks : x < length k.tasks
  in_tasks = omega (arith, v.sizes.tasks)

  own-dead : (task_at dead x).alive ≡ false
  own-dead = ap (λ (t : Task). t.alive) (task-updated k.tasks x (λ t. record t { alive = false }) in_tasks)

  lived : (task_at k x).alive ≡ true
  lived = ready_alive (task_at k x).alive (waits_for_nothing (task_at k x).waiting) (is_zero (task_at k x).suspended) ready

  -- what a task waits for is as before, or it was x
  abbrev OrDead : Option ℕ → Option ℕ → Type 0
  OrDead o p = (o ≡ p) ⊎ ((o ≡ None) × (p ≡ Some x))

  living-dead : (o : Option ℕ) → OrDead (living o dead) (living o k)
  living-dead None = inl refl
  living-dead (Some u) =
      elim (eqb_tells x u) [
        | inl e ↦ subst (λ z. OrDead (living (Some z) dead) (living (Some z) k)) e.1
            (inr (ap (λ b. if b then Some x else None) own-dead, ap (λ b. if b then Some x else None) lived))
        | inr e ↦ inl (ap (λ (t : Task). if t.alive then Some u else None) (task-other k.tasks x (λ t. record t { alive = false }) u e.1))
      ]

  owner_for-dead : (w : Waiting) (os : List ℕ) → OrDead (owner_for w os dead) (owner_for w os k)
  owner_for-dead (Obj MutexPend) (o ∷ os) = by_content (object_at k o).content
    where
      by_content : (c : Content) → OrDead (owner_in c dead) (owner_in c k)
      by_content (Held owner nesting) = living-dead owner
      by_content _ = inl refl
  owner_for-dead _ _ = inl refl

  waits_on-dead : (u : ℕ) → OrDead (waits_on dead u) (waits_on k u)
  waits_on-dead u =
      subst (λ w. OrDead (owner_for w (task_at dead u).objects dead) (waits_on k u)) (sym (update_task_same (λ t. t.waiting) (λ t. record t { alive = false }) (λ t. refl) k.tasks x u))
      (subst (λ os. OrDead (owner_for (task_at k u).waiting os dead) (waits_on k u)) (sym (update_task_same (λ t. t.objects) (λ t. record t { alive = false }) (λ t. refl) k.tasks x u))
      (owner_for-dead (task_at k u).waiting (task_at k u).objects))

  module _ (y : ℕ) (other : (x == y) ≡ false) where
    -- from x another task is not reached
    from-none : (n : ℕ) (j : Kernel) → reaches_by n j y None ≡ false
    from-none zero j = refl
    from-none (suc n) j = refl

    from-dead : (n : ℕ) → reaches_by n k y (Some x) ≡ false
    from-dead zero = other
    from-dead (suc n) =
        ap (λ b. b || reaches_by n k y (waits_on k x)) other
        ∙ ap (λ o. reaches_by n k y o) (owner_for-none (task_at k x).waiting (task_at k x).objects k (ready-none k x ready))
        ∙ from-none n k

    reaches_by-dead : (n : ℕ) (o : Option ℕ) → reaches_by n dead y o ≡ reaches_by n k y o
    reaches_by-dead zero None = refl
    reaches_by-dead zero (Some u) = refl
    reaches_by-dead (suc n) None = refl
    reaches_by-dead (suc n) (Some u) =
        ap (λ b. (u == y) || b)
        (elim (waits_on-dead u) [
          | inl e ↦ ap (λ o. reaches_by n dead y o) e ∙ reaches_by-dead n (waits_on k u)
          | inr e ↦ ap (λ o. reaches_by n dead y o) e.0 ∙ from-none n dead ∙ sym (from-dead n) ∙ ap (λ o. reaches_by n k y o) (sym e.1)
        ])

    base-dead : (u : ℕ) → (task_at dead u).base ≡ (task_at k u).base
    base-dead u = update_task_same (λ t. t.base) (λ t. record t { alive = false }) (λ t. refl) k.tasks x u

    least-dead : (us : List ℕ) → least_of y us dead ≡ least_of y us k
    least-dead [] = refl
    least-dead (u ∷ us) =
        ap (λ b. min (if b then (task_at dead u).base else 63) (least_of y us dead)) (reaches_by-dead 64 (Some u))
        ∙ ap (λ n. min (if reaches k u y then n else 63) (least_of y us dead)) (base-dead u)
        ∙ ap (λ n. min (if reaches k u y then (task_at k u).base else 63) n) (least-dead us)

  kept-died : IsInherited k → IsInherited dead
  kept-died i y who a =
      elim (eqb_tells x y) [
        | inl e ↦ absurd (false≢true (sym own-dead ∙ ap (λ z. (task_at dead z).alive) e.1 ∙ a))
        | inr e ↦ let same : task_at dead y ≡ task_at k y = task-other k.tasks x (λ t. record t { alive = false }) y e.1 in
            ap (λ (t : Task). t.prio) same ∙ i y who (ap (λ (t : Task). t.alive) (sym same) ∙ a) ∙ sym (least-dead y e.0 (numbers 0 64))
      ]

-- Each plain change without a renewal keeps them so.
pub keeps-inherited : (s : Settings) → KeepsInherited s
keeps-inherited s =
    record {
      wake = λ f h x k w free t i. kept-wake k f h x free i;
      block = λ k x w b free t i. kept-block k x w b.ready free i;
      content = λ k o old new h same word t i. object-kept k (with_content k o new) o (λ b. record b { content = new }) refl refl
          (follows-none (object_at k o).content new k (subst (λ c. follows c new ≡ true) (sym h.holds) same)) i;
      taken = λ k o n x h m t i. kept-taken k o n x h t.fits i;
      nested = λ k o m n x h from to t i. object-kept k (with_content k o (Held (Some x) n)) o (λ b. record b { content = Held (Some x) n }) refl refl
          (ap (λ c. owner_in c k) (sym h.holds)) i;
      deleted = λ k o c h plain none t i. object-kept k (without_object o k) o (λ b. record { content = emptied b.content; deleted = true }) refl refl
          (plain-none (object_at k o).content k (subst (λ z. is_plain z ≡ true) (sym h.holds) plain)) i;
      timer_runs = λ k o after t h m i. kept-timer k (runs o t after k) o t (record t { state = Running }) refl refl h.holds i;
      timer_rests = λ k o t state h r m i. kept-timer k (rests o t state k) o t (record t { state = state }) refl refl h.holds i;
      timer_deleted = λ k o t v h r m i. object-kept k (record k { objects = update_object k.objects o (λ b. record b { deleted = true }) }) o (λ b. record b { deleted = true }) refl refl refl i;
      task = λ k x f h t i. kept-shape k x f h i;
      stores = λ k x ms h words t i. task-kept k (with_task k x (λ u. record u { messages = ms })) x (λ u. record u { messages = ms }) refl refl (record { prio = refl; base = refl; alive = refl; owner = refl }) i;
      answers = λ k x a h t i. task-kept k (with_task k x (λ u. record u { answered = a })) x (λ u. record u { answered = a }) refl refl (record { prio = refl; base = refl; alive = refl; owner = refl }) i;
      died = λ k x v l r t i. kept-died k v x l r i;
      internal = λ k x w v who quiet t i. kept-internal k x w v who quiet i;
      rest = λ k j e t i. objects-kept k j e.tasks (λ u o w h. ap (λ (bs : List Object). owner_in (get_or bs o no_object).content k) e.objects) i;
    }
