-- The services of mutexes keep what each plain change keeps, with the renewal after it.
use Rattle.kern_model.proofs.Common.{◌≡◌, ◌≢◌, ℕ, ◌<◌, ◌≤◌, ◌+◌, List, [], ◌∷◌, length, get_or, refl, ap, ◌∙◌, subst, Bool, true, false, arith, inl, inr, Option, Some, None, ◌==◌, ◌-◌, nat_lt, if◌then◌else◌, MutexPend, Mutex, OneShot, Periodic, Request, Depth, MutexOwner, MutexNotOwner, MutexNesting, PendAbort, ObjectDeleted, Obj, is_one_of, Kernel, Object, Content, Count, Messages, Bits, Held, Timed, no_object, list_at, task_at, object_at, with_content, kind_of, is_zero, waits_for_nothing, at_head, at_tail, refused, done, answer, fine, wakes_all, result_of, chosen, waits_unless, blocks_on, waits_for, argument, renewing, IsLinked, IsContent, MayOwn, MayCall, AllWait, can_wait}
use Rattle.std.proofs.lemmas.Bool.{false≢true}
use Rattle.kern_model.specs.Mutexes.{nests, mutex_pend, passes_to, released, mutex_post, mutex_aborts, mutex_pend_abort, mutex_deletes, mutex_del}
use Rattle.kern_model.specs.Waiters.{aborts, deletes}
use Rattle.kern_model.proofs.Basics.Choices.{choice_by, equal, unequal, less}
use Rattle.kern_model.proofs.Linked.Wakes.{alive-declared, ready_alive, linked-wakes_all}
use Rattle.kern_model.proofs.Linked.Contents.{linked-with_content, AllWait-pend}
use Rattle.kern_model.proofs.Linked.ObjectServices.{caller_ready, AllWait-chosen, linked-one_object, linked-passes_to, linked-aborts, linked-deletes}
use Rattle.kern_model.proofs.Messages.Services.{objects-wakes_all}
use Rattle.kern_laws.proofs.Changes.Each.{Preserved}
use Rattle.kern_laws.proofs.Services.Wakes.{After, results-of, empty-woken, fits-one, before_renewal-wakes_all, preserved-renewing, preserved-waits_unless}

-- a caller may own a mutex
caller_owns : (k : Kernel) (x : ℕ) → IsLinked k → MayCall x k → MayOwn k.settings.tasks x
caller_owns k x v (inl m) = inl (alive-declared k v x m.0 (ready_alive (task_at k x).alive (waits_for_nothing (task_at k x).waiting) (is_zero (task_at k x).suspended) m.1))
caller_owns k x v (inr m) = inr m.0

module _ (P Q : Kernel → Type 0) (c : Preserved P Q) where
  preserved-nests : (o x n : ℕ) (k : Kernel) → (object_at k o).content ≡ Held (Some x) n → (object_at k o).deleted ≡ false → n ≤ 250 → IsLinked k → P k → After P Q c (nests o x n k)
  preserved-nests o x n k e d l v p =
      choice_by (After P Q c) (n == 250) (refused k Depth) (done (with_content k o (Held (Some x) (n + 1))) (answer MutexOwner (n + 1))) (λ s. p)
      (λ s. c.nested k o n (n + 1) x (record { links = v; there = d; holds = e }) (omega arith) (next (unequal n 250 s)) p)
    where
      next : n ≢ 250 → n + 1 ≤ 250
      next d = omega (arith, l)

  pub preserved-mutex_pend : (content : Content) (r : Request) (x : ℕ) (k : Kernel) → (object_at k (argument r 0)).content ≡ content → (object_at k (argument r 0)).deleted ≡ false → IsContent content → argument r 0 < length k.objects → IsLinked k → MayCall x k → P k → After P Q c (mutex_pend content r x k)
  preserved-mutex_pend (Held None n) r x k e d l i v m p = c.taken k (argument r 0) n x (record { links = v; there = d; holds = e }) (caller_owns k x v m) p
  preserved-mutex_pend (Held (Some y) n) r x k e d l i v m p =
      let o = argument r 0 in
      let w = waits_for (Obj MutexPend) (o ∷ []) (argument r 1) in
      let b = blocks_on k x w in
      choice_by (After P Q c) (y == x) (nests o x n k) (waits_unless k (argument r 2 == 1) (renewing at_head b))
      (λ s. preserved-nests o x n k (e ∙ ap (λ z. Held (Some z) n) (equal y x s)) d l v p)
      (λ s. preserved-waits_unless P Q c k (argument r 2 == 1) (renewing at_head b) p
      (λ free. let a = caller_ready k v x m free in
      preserved-renewing P Q c at_head b (linked-one_object k v x m free MutexPend o (argument r 1) i)
      (c.block k x w (record { links = v; inside = a.0; ready = a.1; no_result = a.2; waits = refl; fits = fits-one k (Obj MutexPend) o d (ap (λ z. can_wait (Obj MutexPend) z) e); form = (refl, refl); mask = omega arith; opt = omega arith; table = omega arith }) p)))
  preserved-mutex_pend _ r x k e d l i v m p = p

  preserved-passes_to : (xs : List ℕ) (o h y n : ℕ) (k : Kernel) → list_at k.pend o ≡ xs → (object_at k o).content ≡ Held (Some y) n → (object_at k o).deleted ≡ false → AllWait k xs → IsLinked k → P k → Q (passes_to xs o h k).kernel
  preserved-passes_to [] o h y n k s e d w v p = c.freed k o n y (record { links = v; there = d; holds = e }) s p
  preserved-passes_to (x ∷ xs) o h y n k s e d w v p =
      let j = with_content k o (Held (Some x) 1) in
      before_renewal-wakes_all P Q c (result_of (fine 1)) h (x ∷ []) j (λ y _. results-of (fine 1) (omega arith, omega arith) (task_at j y)) (linked-with_content k o (Held (Some x) 1) (omega arith) v) (w.0, w.1, refl, tt)
      (c.passed k o n y x (record { links = v; there = d; holds = e }) (alive-declared k v x w.0 ((v.tasks.each_task x).lives w.1)) p)

  preserved-released : (n : ℕ) (r : Request) (x h : ℕ) (k : Kernel) → (object_at k (argument r 0)).content ≡ Held (Some x) n → (object_at k (argument r 0)).deleted ≡ false → n ≤ 250 → IsLinked k → P k → After P Q c (released n r x h k)
  preserved-released n r x h k e d l v p =
      let o = argument r 0 in
      let f = passes_to (list_at k.pend o) o h k in
      choice_by (After P Q c) (nat_lt 1 n) (done (with_content k o (Held (Some x) (n - 1))) (answer MutexNesting (n - 1))) (renewing at_tail f)
      (λ s. let m = less 1 n s in c.nested k o n (n - 1) x (record { links = v; there = d; holds = e }) (omega (arith, m)) (omega (arith, l)) p)
      (λ s. preserved-renewing P Q c at_tail f (linked-passes_to (list_at k.pend o) o h k v (AllWait-pend k v o)) (preserved-passes_to (list_at k.pend o) o h x n k refl e d (AllWait-pend k v o) v p))

  pub preserved-mutex_post : (content : Content) (r : Request) (x h : ℕ) (k : Kernel) → (object_at k (argument r 0)).content ≡ content → (object_at k (argument r 0)).deleted ≡ false → IsContent content → IsLinked k → P k → After P Q c (mutex_post content r x h k)
  preserved-mutex_post (Held None n) r x h k e d l v p = p
  preserved-mutex_post (Held (Some y) n) r x h k e d l v p =
      choice_by (After P Q c) (y == x) (released n r x h k) (refused k MutexNotOwner)
      (λ s. preserved-released n r x h k (e ∙ ap (λ z. Held (Some z) n) (equal y x s)) d l v p) (λ s. p)
  preserved-mutex_post _ r x h k e d l v p = p

  -- aborts and deletions

  preserved-mutex_aborts : (xs : List ℕ) (h : ℕ) (k : Kernel) → IsLinked k → AllWait k xs → P k → After P Q c (mutex_aborts xs h k)
  preserved-mutex_aborts [] h k v w p = p
  preserved-mutex_aborts (x ∷ xs) h k v w p =
      preserved-renewing P Q c at_tail (aborts (x ∷ xs) h k) (linked-aborts (x ∷ xs) h k v w)
      (before_renewal-wakes_all P Q c (result_of (answer PendAbort 0)) h (x ∷ xs) k (λ y _. results-of (answer PendAbort 0) (omega arith, omega arith) (task_at k y)) v w (c.before_renewal k p))

  pub preserved-mutex_pend_abort : (r : Request) (h : ℕ) (k : Kernel) → IsLinked k → P k → After P Q c (mutex_pend_abort r h k)
  preserved-mutex_pend_abort r h k v p =
      let all = argument r 1 == 1 in
      let xs = list_at k.pend (argument r 0) in
      preserved-mutex_aborts (chosen all xs) h k v (AllWait-chosen k all xs (AllWait-pend k v (argument r 0))) p

  -- the mutex without its waiters
  preserved-deleted : (xs : List ℕ) (o h : ℕ) (owner : Option ℕ) (n : ℕ) (k : Kernel) → list_at k.pend o ≡ xs → (object_at k o).content ≡ Held owner n → (object_at k o).deleted ≡ false → IsLinked k → P k → After P Q c (renewing at_tail (deletes true xs o h k))
  preserved-deleted xs o h owner n k s e d v p =
      let f = result_of (answer ObjectDeleted 0) in
      let w : AllWait k xs = subst (λ ys. AllWait k ys) s (AllWait-pend k v o) in
      let same : object_at (wakes_all f h xs k) o ≡ object_at k o = ap (λ bs. get_or bs o no_object) (objects-wakes_all f h xs k) in
      preserved-renewing P Q c at_tail (deletes true xs o h k) (linked-deletes true xs o h k v w)
      (c.deleted (wakes_all f h xs k) o owner n
      (record { links = linked-wakes_all f h xs k v w; there = ap (λ (b : Object). b.deleted) same ∙ d; holds = ap (λ (b : Object). b.content) same ∙ e })
      (subst (λ ys. list_at (wakes_all f h ys k).pend o ≡ []) s (empty-woken f h k o v))
      (before_renewal-wakes_all P Q c f h xs k (λ y _. results-of (answer ObjectDeleted 0) (omega arith, omega arith) (task_at k y)) v w (c.before_renewal k p)))

  preserved-mutex_deletes : (all : Bool) (xs : List ℕ) (o h : ℕ) (owner : Option ℕ) (n : ℕ) (k : Kernel) → list_at k.pend o ≡ xs → (object_at k o).content ≡ Held owner n → (object_at k o).deleted ≡ false → IsLinked k → P k → After P Q c (mutex_deletes all xs o h k)
  preserved-mutex_deletes false (x ∷ xs) o h owner n k s e d v p = p
  preserved-mutex_deletes false [] o h owner n k s e d v p = preserved-deleted [] o h owner n k s e d v p
  preserved-mutex_deletes true xs o h owner n k s e d v p = preserved-deleted xs o h owner n k s e d v p

  pub preserved-mutex_del : (content : Content) (r : Request) (h : ℕ) (k : Kernel) → (object_at k (argument r 0)).content ≡ content → (object_at k (argument r 0)).deleted ≡ false → is_one_of (Mutex ∷ []) (kind_of content) ≡ true → IsLinked k → P k → After P Q c (mutex_del r h k)
  preserved-mutex_del (Held owner n) r h k e d i v p = preserved-mutex_deletes (argument r 1 == 1) (list_at k.pend (argument r 0)) (argument r 0) h owner n k refl e d v p
  preserved-mutex_del (Count n) r h k e d i v p = absurd (false≢true i)
  preserved-mutex_del (Messages limit ms) r h k e d i v p = absurd (false≢true i)
  preserved-mutex_del (Bits bits) r h k e d i v p = absurd (false≢true i)
  preserved-mutex_del (Timed t) r h k e d i v p = absurd (false≢true (timed t.periodic i))
    where
      timed : (b : Bool) → is_one_of (Mutex ∷ []) (if b then Periodic else OneShot) ≡ true → false ≡ true
      timed true h = h
      timed false h = h
