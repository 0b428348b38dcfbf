-- The services of semaphores, queues and event flags, and aborts and deletions of these, keep what each plain change keeps.
use Rattle.kern_model.proofs.Common.{◌≡◌, ℕ, zero, suc, ◌<◌, ◌+◌, ◌^◌, List, [], ◌∷◌, length, get_or, arith, refl, ap, ◌∙◌, subst, Bool, true, false, Option, Some, None, ◌==◌, ◌-◌, Service, SemPend, QPend, FlagPend, Request, OsErr, SemOverflow, PendAbort, ObjectDeleted, Obj, Kernel, Object, no_object, Content, Count, Messages, Bits, list_at, task_at, object_at, with_content, count_of, refused, done, answer, fine, message, wakes, wakes_all, result_of, posted_result, chosen, waits_unless, blocks_on, argument, IsLinked, MayCall, AllWait, IsWord, IsRequest, AreMessageWords, can_wait, waits_for_one}
use Rattle.kern_model.specs.FlagBits.{has_bit, ready_bits, bits_after, consumed}
use Rattle.kern_model.specs.Semaphores.{sem_post_to, sem_post, sem_pend}
use Rattle.kern_model.specs.Queues.{stored, store_error, store_in, q_post_to, q_post, q_pend}
use Rattle.kern_model.specs.Flags.{flag_wakes, flag_wakes_all, flag_post, flag_pend_on, flag_pend}
use Rattle.kern_model.specs.Waiters.{aborts, pend_abort, deletes, delete}
use Rattle.kern_model.proofs.Halves.Effects.{choice}
use Rattle.kern_model.proofs.Linked.Wakes.{linked-wakes, linked-wakes_all, AllWait-wakes}
use Rattle.kern_model.proofs.Linked.Contents.{linked-with_content, AllWait-pend}
use Rattle.kern_model.proofs.Linked.ObjectServices.{AllWait-chosen}
use Rattle.kern_model.proofs.Messages.Services.{objects-wakes_all}
use Rattle.kern_laws.proofs.Changes.Each.{Preserved, is_plain, waits_for_mutex}
use Rattle.kern_laws.proofs.Changes.Words.{argument-word, held-words, rest-words, stored-words, ready-word, after-word, consumed-word}
use Rattle.kern_laws.proofs.Services.Wakes.{After, NoMutexes, NoMutexes-wakes, NoMutexes-chosen, NoMutexes-pend, results-of, results-posted, among-pend, count-chosen, empty-woken, fits-one, preserved-wakes_all, preserved-free, preserved-pends}

-- another content leaves what tasks wait for
NoMutexes-content : (k : Kernel) (o : ℕ) (content : Content) (xs : List ℕ) → NoMutexes k xs → NoMutexes (with_content k o content) xs
NoMutexes-content k o content [] n = tt
NoMutexes-content k o content (x ∷ xs) n = (n.0, NoMutexes-content k o content xs n.1)

module _ (P Q : Kernel → Type 0) (c : Preserved P Q) where
  -- the caller waits for one object, and not for a mutex
  preserved-waits : (k : Kernel) → IsLinked k → (x : ℕ) → MayCall x k → (b : Bool) (s : Service) (o mask opt timeout : ℕ) → IsWord mask → IsWord opt → waits_for_one s ≡ true → waits_for_mutex (Obj s) ≡ false → (object_at k o).deleted ≡ false → can_wait (Obj s) (object_at k o).content ≡ true → P k → After P Q c (waits_unless k b (blocks_on k x (record { waiting = Obj s; objects = o ∷ []; mask = mask; opt = opt; table = 0; timeout = timeout })))
  preserved-waits k v x m b s o mask opt timeout mw ow one free d h p =
      preserved-pends P Q c k v x m b (record { waiting = Obj s; objects = o ∷ []; mask = mask; opt = opt; table = 0; timeout = timeout }) refl (fits-one k (Obj s) o d h) (λ _. (one, refl)) (mw, ow, omega arith) free p

  -- semaphores

  pub preserved-sem_post : (content : Content) (r : Request) (h : ℕ) (k : Kernel) → (object_at k (argument r 0)).content ≡ content → (object_at k (argument r 0)).deleted ≡ false → IsLinked k → P k → After P Q c (sem_post content r h k)
  preserved-sem_post (Count n) r h k e d v p =
      let o = argument r 0 in
      by_waiters (list_at k.pend o) (among-pend k v o) (AllWait-pend k v o) (NoMutexes-pend k v (c.fits k p) o (ap is_plain e))
    where
      by_waiters : (xs : List ℕ) → ((x : ℕ) → 0 < count_of x xs → 0 < count_of (argument r 0) (task_at k x).objects) → AllWait k xs → NoMutexes k xs → After P Q c (sem_post_to xs n (argument r 0) (argument r 1) h k)
      by_waiters [] among w free =
          choice (After P Q c) (n == 2 ^ 32 - 1) (refused k SemOverflow) (done (with_content k (argument r 0) (Count (n + 1))) (fine (n + 1))) p
          (c.content k (argument r 0) (Count n) (Count (n + 1)) (record { links = v; there = d; holds = e }) refl tt p)
      by_waiters (x ∷ xs) among w free =
          let all = argument r 1 == 2 in
          preserved-wakes_all P Q c (posted_result (argument r 0) (fine 0)) h (chosen all (x ∷ xs)) k
          (λ y l. results-posted (argument r 0) (fine 0) (omega arith, omega arith) (task_at k y) (among y (omega (arith, l, count-chosen all (x ∷ xs) y)))) v (AllWait-chosen k all (x ∷ xs) w) (NoMutexes-chosen k all (x ∷ xs) free) p
  preserved-sem_post _ r h k e d v p = p

  pub preserved-sem_pend : (content : Content) (r : Request) (x : ℕ) (k : Kernel) → (object_at k (argument r 0)).content ≡ content → (object_at k (argument r 0)).deleted ≡ false → IsLinked k → MayCall x k → P k → After P Q c (sem_pend content r x k)
  preserved-sem_pend (Count zero) r x k e d v m p =
      preserved-waits k v x m (argument r 2 == 1) SemPend (argument r 0) 0 0 (argument r 1) (omega arith) (omega arith) refl refl d (ap (λ z. can_wait (Obj SemPend) z) e) p
  preserved-sem_pend (Count (suc n)) r x k e d v m p =
      c.content k (argument r 0) (Count (suc n)) (Count n) (record { links = v; there = d; holds = e }) refl tt p
  preserved-sem_pend _ r x k e d v m p = p

  -- queues

  preserved-store_in : (err : Option OsErr) (o limit : ℕ) (old ms : List (ℕ × ℕ)) (k : Kernel) → (object_at k o).content ≡ Messages limit old → (object_at k o).deleted ≡ false → AreMessageWords ms → IsLinked k → P k → After P Q c (store_in err o limit ms k)
  preserved-store_in (Some err) o limit old ms k e d w v p = p
  preserved-store_in None o limit old ms k e d w v p =
      preserved-free P Q c (with_content k o (Messages limit ms)) (k.free - 1)
      (c.content k o (Messages limit old) (Messages limit ms) (record { links = v; there = d; holds = e }) refl w p)

  pub preserved-q_post : (content : Content) (r : Request) (h : ℕ) (k : Kernel) → (object_at k (argument r 0)).content ≡ content → (object_at k (argument r 0)).deleted ≡ false → IsRequest r → IsLinked k → P k → After P Q c (q_post content r h k)
  preserved-q_post (Messages limit ms) r h k e d q v p =
      let o = argument r 0 in
      by_waiters (list_at k.pend o) (among-pend k v o) (AllWait-pend k v o) (NoMutexes-pend k v (c.fits k p) o (ap is_plain e))
    where
      by_waiters : (xs : List ℕ) → ((x : ℕ) → 0 < count_of x xs → 0 < count_of (argument r 0) (task_at k x).objects) → AllWait k xs → NoMutexes k xs → After P Q c (q_post_to xs limit ms r h k)
      by_waiters [] among w free =
          preserved-store_in (store_error (length ms) limit k.free) (argument r 0) limit ms (stored (has_bit (argument r 3) 1) (argument r 1, argument r 2) ms) k e d
          (stored-words (has_bit (argument r 3) 1) (argument r 1, argument r 2) ms (argument-word r q 1) (argument-word r q 2) (held-words k (c.words k p) (argument r 0) (Messages limit ms) e)) v p
      by_waiters (x ∷ xs) among w free =
          let all = has_bit (argument r 3) 2 in
          let a = message (argument r 1) (argument r 2) in
          preserved-wakes_all P Q c (posted_result (argument r 0) a) h (chosen all (x ∷ xs)) k
          (λ y l. results-posted (argument r 0) a (argument-word r q 1, argument-word r q 2) (task_at k y) (among y (omega (arith, l, count-chosen all (x ∷ xs) y)))) v (AllWait-chosen k all (x ∷ xs) w) (NoMutexes-chosen k all (x ∷ xs) free) p
  preserved-q_post _ r h k e d q v p = p

  pub preserved-q_pend : (content : Content) (r : Request) (x : ℕ) (k : Kernel) → (object_at k (argument r 0)).content ≡ content → (object_at k (argument r 0)).deleted ≡ false → IsLinked k → MayCall x k → P k → After P Q c (q_pend content r x k)
  preserved-q_pend (Messages limit []) r x k e d v m p =
      preserved-waits k v x m (argument r 2 == 1) QPend (argument r 0) 0 0 (argument r 1) (omega arith) (omega arith) refl refl d (ap (λ z. can_wait (Obj QPend) z) e) p
  preserved-q_pend (Messages limit (m ∷ ms)) r x k e d v may p =
      preserved-free P Q c (with_content k (argument r 0) (Messages limit ms)) (k.free + 1)
      (c.content k (argument r 0) (Messages limit (m ∷ ms)) (Messages limit ms) (record { links = v; there = d; holds = e }) refl
      (rest-words m ms (held-words k (c.words k p) (argument r 0) (Messages limit (m ∷ ms)) e)) p)
  preserved-q_pend _ r x k e d v m p = p

  -- flags

  preserved-flag_wakes_all : (bits h : ℕ) (xs : List ℕ) (k : Kernel) → IsWord bits → IsLinked k → AllWait k xs → NoMutexes k xs → P k → P (flag_wakes_all bits h xs k)
  preserved-flag_wakes_all bits h [] k word v w free p = p
  preserved-flag_wakes_all bits h (x ∷ xs) k word v w free p =
      by_bits (ready_bits bits (task_at k x).mask (task_at k x).opt) refl (λ j i a n q. preserved-flag_wakes_all bits h xs j word i a n q)
    where
      by_bits : (o : Option ℕ) → ready_bits bits (task_at k x).mask (task_at k x).opt ≡ o → ((j : Kernel) → IsLinked j → AllWait j xs → NoMutexes j xs → P j → P (flag_wakes_all bits h xs j)) → P (flag_wakes_all bits h xs (flag_wakes o h x k))
      by_bits None s rest = rest k v w.3 free.1 p
      by_bits (Some ready) s rest =
          let g = result_of (fine ready) (task_at k x) in
          rest (wakes g h x k) (linked-wakes k v x w.0 g h w.1) (AllWait-wakes g h x k xs w.2 w.3) (NoMutexes-wakes g h x k xs free.1)
          (c.wake_kept g h x k (record { links = v; inside = w.0; waits = w.1; result = results-of (fine ready) (ready-word bits (task_at k x).mask (task_at k x).opt ready word s, omega arith) (task_at k x) }) free.0 p)

  pub preserved-flag_post : (content : Content) (r : Request) (h : ℕ) (k : Kernel) → (object_at k (argument r 0)).content ≡ content → (object_at k (argument r 0)).deleted ≡ false → IsRequest r → IsLinked k → P k → After P Q c (flag_post content r h k)
  preserved-flag_post (Bits old) r h k e d q v p =
      let bits = bits_after old (argument r 1) (argument r 2) in
      let o = argument r 0 in
      let j = with_content k o (Bits bits) in
      let valid : IsLinked j = linked-with_content k o (Bits bits) tt v in
      let word : IsWord bits = after-word old (argument r 1) (argument r 2) (held-words k (c.words k p) o (Bits old) e) (argument-word r q 1) in
      preserved-flag_wakes_all bits h (list_at k.pend o) j word valid (AllWait-pend j valid o) (NoMutexes-content k o (Bits bits) (list_at k.pend o) (NoMutexes-pend k v (c.fits k p) o (ap is_plain e)))
      (c.content k o (Bits old) (Bits bits) (record { links = v; there = d; holds = e }) refl word p)
  preserved-flag_post _ r h k e d q v p = p

  preserved-flag_pend_on : (ready : Option ℕ) (bits : ℕ) (r : Request) (x : ℕ) (k : Kernel) → ready_bits bits (argument r 1) (argument r 3) ≡ ready → (object_at k (argument r 0)).content ≡ Bits bits → (object_at k (argument r 0)).deleted ≡ false → IsRequest r → IsLinked k → MayCall x k → P k → After P Q c (flag_pend_on ready bits r x k)
  preserved-flag_pend_on None bits r x k s e d q v m p =
      preserved-waits k v x m (has_bit (argument r 3) 8) FlagPend (argument r 0) (argument r 1) (argument r 3) (argument r 2) (argument-word r q 1) (argument-word r q 3) refl refl d (ap (λ z. can_wait (Obj FlagPend) z) e) p
  preserved-flag_pend_on (Some ready) bits r x k s e d q v m p =
      let word = held-words k (c.words k p) (argument r 0) (Bits bits) e in
      c.content k (argument r 0) (Bits bits) (Bits (consumed bits ready (argument r 3))) (record { links = v; there = d; holds = e }) refl
      (consumed-word bits ready (argument r 3) word (ready-word bits (argument r 1) (argument r 3) ready word s)) p

  pub preserved-flag_pend : (content : Content) (r : Request) (x : ℕ) (k : Kernel) → (object_at k (argument r 0)).content ≡ content → (object_at k (argument r 0)).deleted ≡ false → IsRequest r → IsLinked k → MayCall x k → P k → After P Q c (flag_pend content r x k)
  preserved-flag_pend (Bits bits) r x k e d q v m p = preserved-flag_pend_on (ready_bits bits (argument r 1) (argument r 3)) bits r x k refl e d q v m p
  preserved-flag_pend _ r x k e d q v m p = p

  -- aborts and deletions

  preserved-aborts : (xs : List ℕ) (h : ℕ) (k : Kernel) → IsLinked k → AllWait k xs → NoMutexes k xs → P k → After P Q c (aborts xs h k)
  preserved-aborts [] h k v w free p = p
  preserved-aborts (x ∷ xs) h k v w free p = preserved-wakes_all P Q c (result_of (answer PendAbort 0)) h (x ∷ xs) k (λ y _. results-of (answer PendAbort 0) (omega arith, omega arith) (task_at k y)) v w free p

  pub preserved-pend_abort : (r : Request) (h : ℕ) (k : Kernel) → is_plain (object_at k (argument r 0)).content ≡ true → IsLinked k → P k → After P Q c (pend_abort r h k)
  preserved-pend_abort r h k e v p =
      let o = argument r 0 in
      let all = argument r 1 == 1 in
      let xs = list_at k.pend o in
      preserved-aborts (chosen all xs) h k v (AllWait-chosen k all xs (AllWait-pend k v o)) (NoMutexes-chosen k all xs (NoMutexes-pend k v (c.fits k p) o e)) p

  preserved-deleted : (xs : List ℕ) (o h : ℕ) (k : Kernel) → list_at k.pend o ≡ xs → is_plain (object_at k o).content ≡ true → (object_at k o).deleted ≡ false → IsLinked k → P k → After P Q c (deletes true xs o h k)
  preserved-deleted xs o h k e plain d v p =
      let f = result_of (answer ObjectDeleted 0) in
      let w : AllWait k xs = subst (λ ys. AllWait k ys) e (AllWait-pend k v o) in
      let free : NoMutexes k xs = subst (λ ys. NoMutexes k ys) e (NoMutexes-pend k v (c.fits k p) o plain) in
      let b : Object = object_at k o in
      let same : object_at (wakes_all f h xs k) o ≡ b = ap (λ bs. get_or bs o no_object) (objects-wakes_all f h xs k) in
      c.deleted_kept (wakes_all f h xs k) o b.content (record { links = linked-wakes_all f h xs k v w; there = ap (λ (a : Object). a.deleted) same ∙ d; holds = ap (λ (a : Object). a.content) same }) plain
      (subst (λ ys. list_at (wakes_all f h ys k).pend o ≡ []) e (empty-woken f h k o v))
      (preserved-wakes_all P Q c f h xs k (λ y _. results-of (answer ObjectDeleted 0) (omega arith, omega arith) (task_at k y)) v w free p)

  preserved-deletes : (all : Bool) (xs : List ℕ) (o h : ℕ) (k : Kernel) → list_at k.pend o ≡ xs → is_plain (object_at k o).content ≡ true → (object_at k o).deleted ≡ false → IsLinked k → P k → After P Q c (deletes all xs o h k)
  preserved-deletes false (x ∷ xs) o h k e plain d v p = p
  preserved-deletes false [] o h k e plain d v p = preserved-deleted [] o h k e plain d v p
  preserved-deletes true xs o h k e plain d v p = preserved-deleted xs o h k e plain d v p

  pub preserved-delete : (r : Request) (h : ℕ) (k : Kernel) → is_plain (object_at k (argument r 0)).content ≡ true → (object_at k (argument r 0)).deleted ≡ false → IsLinked k → P k → After P Q c (delete r h k)
  preserved-delete r h k plain d v p = preserved-deletes (argument r 1 == 1) (list_at k.pend (argument r 0)) (argument r 0) h k refl plain d v p
