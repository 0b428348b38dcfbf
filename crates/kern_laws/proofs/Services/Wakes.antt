-- Wakes and waits keep what each plain change keeps; what tells that the waiters of an object wait for no mutex.
use Rattle.kern_model.proofs.Common.{◌≡◌, ◌≢◌, ℕ, zero, suc, ◌<◌, ◌≤◌, ◌+◌, ◌^◌, List, [], ◌∷◌, length, get_or, refl, sym, ap, ◌∙◌, subst, Bool, true, false, arith, inl, inr, Some, pow-suc, ◌==◌, if◌then◌else◌, replicate, slice_set, Service, MutexPend, PendMulti, TaskSemPend, TaskQPend, TimeDly, Unknown, SchedLocked, Timeout, Waiting, No, Delay, Obj, TaskSem, TaskQ, Multi, Signal, Answer, Finished, Kernel, Task, Content, Count, Messages, Bits, Held, Timed, list_at, task_at, object_at, count_of, place_of, waits_for_nothing, Effect, Wait, refused, waits_unless, wakes, wakes_all, answer, fine, plain_result, multi_result, waited, result_of, posted_to, posted_result, answered_task, chosen, blocks_on, waiting_task, renewing, IsLinked, MayCall, AllWait, IsWord, one_if, WaitsFor, HasTable, Fits, can_wait, waits_for_one, IsResult, HasItsTable, AreMessageWords, AnswersWords, HasResultWords}
use Rattle.std.proofs.lemmas.List.{length-set, get_or-set_other}
use Rattle.std.proofs.lemmas.List.Elements.{All-nil, All-cons, All-head, All-tail}
use Rattle.std.proofs.lemmas.Bool.{false≢true}
use Rattle.std.proofs.lemmas.Bool.Decides.{eqb_tells}
use Rattle.kern_model.specs.Time.{timed_out}
use Rattle.kern_model.proofs.Basics.Updates.{update_task_at, task-other}
use Rattle.kern_model.proofs.Basics.Choices.{choice_by, equal}
use Rattle.kern_model.proofs.Lists.Members.{count-left_all_other, count-left_all_here}
use Rattle.kern_model.proofs.Linked.Wakes.{linked-wakes, AllWait-wakes, waits-count, self_equal}
use Rattle.kern_model.proofs.Linked.Contents.{AllWait-pend}
use Rattle.kern_model.proofs.Linked.ObjectServices.{caller_ready}
use Rattle.kern_laws.proofs.Changes.Each.{Preserved, IsResultFor, WaitsFit, waits_for_mutex, is_plain}
use Rattle.kern_laws.proofs.Valid.Objects.{empty_by_counts}

-- the results of waits

-- nothing but 0 in these
abbrev nothing : ℕ × ℕ
nothing = (0, 0)

zeros_at : (n i : ℕ) → get_or (replicate n nothing) i nothing ≡ nothing
zeros_at zero i = refl
zeros_at (suc n) zero = refl
zeros_at (suc n) (suc i) = zeros_at n i

pub zeros-words : AreMessageWords (replicate 8 (0, 0))
zeros-words = words_of 8
  where
    words_of : (n : ℕ) → AreMessageWords (replicate n (0, 0))
    words_of zero = All-nil (λ m. IsWord m.0 × IsWord m.1)
    words_of (suc n) = All-cons (λ m. IsWord m.0 × IsWord m.1) (0, 0) (replicate n (0, 0)) (omega arith, omega arith) (words_of n)

power-above : (n : ℕ) → 0 < 2 ^ n
power-above n = omega (arith, pow-pos n)
  where
    pow-pos : (n : ℕ) → 1 ≤ 2 ^ n
    pow-pos zero = omega arith
    pow-pos (suc n) = let half = pow-pos n in omega (arith, pow-suc 2 n)

power-rises : (i n : ℕ) → i < n → 2 ^ i < 2 ^ n
power-rises i zero l = absurd (omega arith)
power-rises zero (suc n) l = let half = power-above n in omega (arith, pow-suc 2 n)
power-rises (suc i) (suc n) l = let half = power-rises i n (omega arith) in omega (arith, pow-suc 2 n, pow-suc 2 i)

place-below : (o : ℕ) (os : List ℕ) → 0 < count_of o os → place_of o os < length os
place-below o [] h = absurd (omega arith)
place-below o (q ∷ os) h =
    elim (eqb_tells q o) [
      | inl e ↦ subst (λ b. (if b then 0 else 1 + place_of o os) < length (q ∷ os)) (sym e.0) (omega arith)
      | inr e ↦ subst (λ b. (if b then 0 else 1 + place_of o os) < length (q ∷ os)) (sym e.0) (omega (arith, place-below o os (omega (arith, h, ap one_if e.0))))
    ]

-- the result of a call for one object, or for none, is one for any task
one_service : (s : Service) (f : Finished) (t : Task) → s ≢ PendMulti → f.table ≡ 0 → f.n_ids ≡ 0 → HasItsTable s f t
one_service PendMulti f t d a b = absurd (d refl)
one_service _ f t d a b = (a, b)

pub plain-result : (s : Service) (a : Answer) (t : Task) → s ≢ PendMulti → IsResult (plain_result s a) t
plain-result s a t d =
    record { table = one_service s (plain_result s a) t d refl refl; ready = omega arith; eight = refl; past = λ i l. zeros_at 8 i }

several-result : (t : Task) (a : Answer) → HasTable t → IsResult (multi_result t a 0 (replicate 8 (0, 0))) t
several-result t a h = record { table = (h, refl, refl); ready = power-above (length t.objects); eight = refl; past = λ i l. zeros_at 8 i }

waits-one : (s : Service) → waits_for_one s ≡ true → s ≢ PendMulti
waits-one s h e = absurd (false≢true (sym (ap waits_for_one e) ∙ h))

abbrev HasRight : Waiting → Finished → Task → Type 0
HasRight w f t = (x : ℕ) → WaitsFor x w t → IsResult f t

waited-right : (w : Waiting) (t : Task) (a : Answer) → HasRight w (waited w t a) t
waited-right (Obj s) t a x h = plain-result s a t (waits-one s h.0)
waited-right Multi t a x h = several-result t a h
waited-right Delay t a x h = plain-result TimeDly a t (λ e. cc)
waited-right TaskSem t a x h = plain-result TaskSemPend a t (λ e. cc)
waited-right TaskQ t a x h = plain-result TaskQPend a t (λ e. cc)
waited-right No t a x h = plain-result (Unknown 0) a t (λ e. cc)
waited-right Signal t a x h = plain-result (Unknown 0) a t (λ e. cc)

posted-right : (w : Waiting) (o : ℕ) (a : Answer) (t : Task) → 0 < count_of o t.objects → HasRight w (posted_to w o a t) t
posted-right Multi o a t inside = λ x h.
    let i = place_of o t.objects in
    record {
      table = (h, refl, refl);
      ready = power-rises i (length t.objects) (place-below o t.objects inside);
      eight = length-set (replicate 8 (0, 0)) i (a.value, a.extra);
      past = λ j l. get_or-set_other (replicate 8 (0, 0)) i j (a.value, a.extra) (0, 0) (other j l) ∙ zeros_at 8 j;
    }
  where
    other : (j : ℕ) → length t.objects ≤ j → j ≢ place_of o t.objects
    other j l e = absurd (omega (arith, e, place-below o t.objects inside))
posted-right (Obj s) o a t inside = waited-right (Obj s) t a
posted-right Delay o a t inside = waited-right Delay t a
posted-right TaskSem o a t inside = waited-right TaskSem t a
posted-right TaskQ o a t inside = waited-right TaskQ t a
posted-right No o a t inside = waited-right No t a
posted-right Signal o a t inside = waited-right Signal t a

timed-right : (w : Waiting) (t : Task) → HasRight w (timed_out w t) t
timed-right Delay t = waited-right Delay t (fine 0)
timed-right (Obj s) t = waited-right (Obj s) t (answer Timeout 0)
timed-right Multi t = waited-right Multi t (answer Timeout 0)
timed-right TaskSem t = waited-right TaskSem t (answer Timeout 0)
timed-right TaskQ t = waited-right TaskQ t (answer Timeout 0)
timed-right No t = waited-right No t (answer Timeout 0)
timed-right Signal t = waited-right Signal t (answer Timeout 0)

-- and its numbers are words

waited-words : (w : Waiting) (t : Task) (a : Answer) → AnswersWords a → HasResultWords (Some (waited w t a))
waited-words (Obj s) t a h = (h, zeros-words)
waited-words Multi t a h = (h, zeros-words)
waited-words Delay t a h = (h, zeros-words)
waited-words TaskSem t a h = (h, zeros-words)
waited-words TaskQ t a h = (h, zeros-words)
waited-words No t a h = (h, zeros-words)
waited-words Signal t a h = (h, zeros-words)

posted-words : (w : Waiting) (o : ℕ) (a : Answer) (t : Task) → AnswersWords a → HasResultWords (Some (posted_to w o a t))
posted-words Multi o a t h = ((omega arith, omega arith), set-words (place_of o t.objects) (replicate 8 (0, 0)) zeros-words)
  where
    set-words : (i : ℕ) (ms : List (ℕ × ℕ)) → AreMessageWords ms → AreMessageWords (slice_set ms i (a.value, a.extra))
    set-words i [] h = h
    set-words zero (m ∷ ms) w = All-cons (λ m. IsWord m.0 × IsWord m.1) (a.value, a.extra) ms h (All-tail (λ m. IsWord m.0 × IsWord m.1) m ms w)
    set-words (suc i) (m ∷ ms) w = All-cons (λ m. IsWord m.0 × IsWord m.1) m (slice_set ms i (a.value, a.extra)) (All-head (λ m. IsWord m.0 × IsWord m.1) m ms w) (set-words i ms (All-tail (λ m. IsWord m.0 × IsWord m.1) m ms w))
posted-words (Obj s) o a t h = waited-words (Obj s) t a h
posted-words Delay o a t h = waited-words Delay t a h
posted-words TaskSem o a t h = waited-words TaskSem t a h
posted-words TaskQ o a t h = waited-words TaskQ t a h
posted-words No o a t h = waited-words No t a h
posted-words Signal o a t h = waited-words Signal t a h

timed-words : (w : Waiting) (t : Task) → HasResultWords (Some (timed_out w t))
timed-words Delay t = waited-words Delay t (fine 0) (omega arith, omega arith)
timed-words (Obj s) t = waited-words (Obj s) t (answer Timeout 0) (omega arith, omega arith)
timed-words Multi t = waited-words Multi t (answer Timeout 0) (omega arith, omega arith)
timed-words TaskSem t = waited-words TaskSem t (answer Timeout 0) (omega arith, omega arith)
timed-words TaskQ t = waited-words TaskQ t (answer Timeout 0) (omega arith, omega arith)
timed-words No t = waited-words No t (answer Timeout 0) (omega arith, omega arith)
timed-words Signal t = waited-words Signal t (answer Timeout 0) (omega arith, omega arith)

-- what f says is a result for each of these tasks
abbrev pub AreResultsFor : (Task → Finished) → Kernel → List ℕ → Type 0
AreResultsFor f k xs = (x : ℕ) → 0 < count_of x xs → IsResultFor (f (task_at k x)) (task_at k x)

pub results-of : (a : Answer) → AnswersWords a → (t : Task) → IsResultFor (result_of a t) t
results-of a h t = record { result = waited-right t.waiting t a; words = waited-words t.waiting t a h }

pub results-posted : (o : ℕ) (a : Answer) → AnswersWords a → (t : Task) → 0 < count_of o t.objects → IsResultFor (posted_result o a t) t
results-posted o a h t inside = record { result = posted-right t.waiting o a t inside; words = posted-words t.waiting o a t h }

pub results-timed : (t : Task) → IsResultFor (timed_out t.waiting t) t
results-timed t = record { result = timed-right t.waiting t; words = timed-words t.waiting t }

here : (x : ℕ) (xs : List ℕ) → 0 < count_of x (x ∷ xs)
here x xs = let one : one_if (x == x) ≡ 1 = ap one_if (self_equal x) in omega (arith, one)

-- once one of them is woken, for the others
results-wakes : (f : Task → Finished) (g : Finished) (h x : ℕ) (k : Kernel) (xs : List ℕ) → count_of x xs ≡ 0 → AreResultsFor f k (x ∷ xs) → AreResultsFor f (wakes g h x k) xs
results-wakes f g h x k xs none r y l =
    subst (λ t. IsResultFor (f t) t) (sym (task-other k.tasks x (answered_task g) y apart)) (r y (omega (arith, l)))
  where
    apart : x ≢ y
    apart e = let same : count_of x xs ≡ count_of y xs = ap (λ z. count_of z xs) e in absurd (omega (arith, l, none, same))

-- who waits for an object has it among its objects
pub among-pend : (k : Kernel) → IsLinked k → (o x : ℕ) → 0 < count_of x (list_at k.pend o) → 0 < count_of o (task_at k x).objects
among-pend k v o x h = by_wait (waits_for_nothing (task_at k x).waiting) (subst (λ n. 0 < n) (v.lists.waiters o x) h)
  where
    by_wait : (b : Bool) → 0 < (if b then 0 else count_of o (task_at k x).objects) → 0 < count_of o (task_at k x).objects
    by_wait true l = absurd (omega (arith, l))
    by_wait false l = l

pub count-chosen : (all : Bool) (xs : List ℕ) (x : ℕ) → count_of x (chosen all xs) ≤ count_of x xs
count-chosen all [] x = omega arith
count-chosen true (y ∷ ys) x = omega arith
count-chosen false (y ∷ ys) x = omega arith

-- one task
pub results-one : (f : Task → Finished) (k : Kernel) (x : ℕ) → IsResultFor (f (task_at k x)) (task_at k x) → AreResultsFor f k (x ∷ [])
results-one f k x r y l =
    elim (eqb_tells x y) [
      | inl e ↦ subst (λ z. IsResultFor (f (task_at k z)) (task_at k z)) e.1 r
      | inr e ↦ absurd (omega (arith, l, ap one_if e.0))
    ]

-- who waits for no mutex

-- none of these waits for a mutex
abbrev pub NoMutexes : Kernel → List ℕ → Type 0
NoMutexes k [] = Unit {0}
NoMutexes k (x ∷ xs) = (waits_for_mutex (task_at k x).waiting ≡ false) × NoMutexes k xs

no_mutex-wakes : (f : Finished) (h x : ℕ) (k : Kernel) (y : ℕ) → waits_for_mutex (task_at k y).waiting ≡ false → waits_for_mutex (task_at (wakes f h x k) y).waiting ≡ false
no_mutex-wakes f h x k y w =
    update_task_at (λ z t. z ≡ y → waits_for_mutex t.waiting ≡ false) (answered_task f) k.tasks x (λ old e. refl) (λ z e. subst (λ u. waits_for_mutex (task_at k u).waiting ≡ false) (sym e) w) y refl

pub NoMutexes-wakes : (f : Finished) (h x : ℕ) (k : Kernel) (xs : List ℕ) → NoMutexes k xs → NoMutexes (wakes f h x k) xs
NoMutexes-wakes f h x k [] n = tt
NoMutexes-wakes f h x k (y ∷ ys) n = (no_mutex-wakes f h x k y n.0, NoMutexes-wakes f h x k ys n.1)

pub NoMutexes-chosen : (k : Kernel) (all : Bool) (xs : List ℕ) → NoMutexes k xs → NoMutexes k (chosen all xs)
NoMutexes-chosen k all [] n = n
NoMutexes-chosen k true (x ∷ xs) n = n
NoMutexes-chosen k false (x ∷ xs) n = (n.0, tt)

-- what is waited for at a semaphore, a queue or a group of event flags is no mutex
fits-plain : (w : Waiting) (content : Content) → is_plain content ≡ true → can_wait w content ≡ true → waits_for_mutex w ≡ false
fits-plain (Obj MutexPend) (Count n) p h = absurd (false≢true h)
fits-plain (Obj MutexPend) (Messages limit ms) p h = absurd (false≢true h)
fits-plain (Obj MutexPend) (Bits bits) p h = absurd (false≢true h)
fits-plain (Obj MutexPend) (Held owner n) p h = absurd (false≢true p)
fits-plain (Obj MutexPend) (Timed t) p h = absurd (false≢true p)
fits-plain _ content p h = refl

each_no_mutex : (k : Kernel) (xs : List ℕ) → ((x : ℕ) → 0 < count_of x xs → waits_for_mutex (task_at k x).waiting ≡ false) → NoMutexes k xs
each_no_mutex k [] h = tt
each_no_mutex k (x ∷ xs) h = (h x (omega (arith, ap one_if (self_equal x))), each_no_mutex k xs (λ y l. h y (omega arith)))

pub NoMutexes-pend : (k : Kernel) → IsLinked k → WaitsFit k → (o : ℕ) → is_plain (object_at k o).content ≡ true → NoMutexes k (list_at k.pend o)
NoMutexes-pend k v fits o p = each_no_mutex k (list_at k.pend o) (λ x h. by_wait x (waits_for_nothing (task_at k x).waiting) refl h)
  where
    by_wait : (x : ℕ) (b : Bool) → waits_for_nothing (task_at k x).waiting ≡ b → 0 < count_of x (list_at k.pend o) → waits_for_mutex (task_at k x).waiting ≡ false
    by_wait x true e h =
        let none : count_of x (list_at k.pend o) ≡ 0 = v.lists.waiters o x ∙ ap (λ b. if b then 0 else count_of o (task_at k x).objects) e in
        absurd (omega arith)
    by_wait x false e h =
        fits-plain (task_at k x).waiting (object_at k o).content p (fits x e o (omega (arith, waits-count k v x e o))).1

-- the list of an object's waiters once all are woken
empties : (f : Task → Finished) (h : ℕ) (xs : List ℕ) (k : Kernel) (o : ℕ) → IsLinked k → AllWait k xs → ((y : ℕ) → count_of y (list_at k.pend o) ≤ count_of y xs) → (y : ℕ) → count_of y (list_at (wakes_all f h xs k).pend o) ≡ 0
empties f h [] k o v w few y = omega (arith, few y)
empties f h (x ∷ xs) k o v w few y =
    let g = f (task_at k x) in
    empties f h xs (wakes g h x k) o (linked-wakes k v x w.0 g h w.1) (AllWait-wakes g h x k xs w.2 w.3) fewer y
  where
    fewer : (y : ℕ) → count_of y (list_at (wakes (f (task_at k x)) h x k).pend o) ≤ count_of y xs
    fewer y =
        elim (eqb_tells x y) [
          | inl e ↦ subst (λ z. count_of z (list_at (wakes (f (task_at k x)) h x k).pend o) ≤ count_of z xs) e.1
              (omega (arith, count-left_all_here x (task_at k x).objects k.pend o (omega (arith, waits-count k v x w.1 o))))
          | inr e ↦ omega (arith, count-left_all_other x (task_at k x).objects k.pend o y e.1, few y, ap one_if e.0)
        ]

pub empty-woken : (f : Task → Finished) (h : ℕ) (k : Kernel) (o : ℕ) → IsLinked k → list_at (wakes_all f h (list_at k.pend o) k).pend o ≡ []
empty-woken f h k o v = empty_by_counts (list_at (wakes_all f h (list_at k.pend o) k).pend o) (empties f h (list_at k.pend o) k o v (AllWait-pend k v o) (λ y. omega arith))

-- a wait for one object
pub fits-one : (k : Kernel) (w : Waiting) (o : ℕ) → (object_at k o).deleted ≡ false → can_wait w (object_at k o).content ≡ true → Fits k.objects w (o ∷ [])
fits-one k w o d h q l =
    elim (eqb_tells o q) [
      | inl e ↦ subst (λ z. ((object_at k z).deleted ≡ false) × (can_wait w (object_at k z).content ≡ true)) e.1 (d, h)
      | inr e ↦ absurd (omega (arith, l, ap one_if e.0))
    ]

-- the words of a wait
abbrev pub HasWaitWords : Wait → Type 0
HasWaitWords w = IsWord w.mask × IsWord w.opt × IsWord w.table

module _ (P Q : Kernel → Type 0) (c : Preserved P Q) where
  abbrev pub After : Effect → Type 0
  After e = P e.kernel

  pub preserved-wakes_all : (f : Task → Finished) (h : ℕ) (xs : List ℕ) (k : Kernel) → AreResultsFor f k xs → IsLinked k → AllWait k xs → NoMutexes k xs → P k → P (wakes_all f h xs k)
  preserved-wakes_all f h [] k r v w n p = p
  preserved-wakes_all f h (x ∷ xs) k r v w n p =
      let g = f (task_at k x) in
      preserved-wakes_all f h xs (wakes g h x k) (results-wakes f g h x k xs w.2 r) (linked-wakes k v x w.0 g h w.1) (AllWait-wakes g h x k xs w.2 w.3) (NoMutexes-wakes g h x k xs n.1)
      (c.wake_kept g h x k (record { links = v; inside = w.0; waits = w.1; result = r x (here x xs) }) n.0 p)

  -- wakes before a renewal
  pub before_renewal-wakes_all : (f : Task → Finished) (h : ℕ) (xs : List ℕ) (k : Kernel) → AreResultsFor f k xs → IsLinked k → AllWait k xs → Q k → Q (wakes_all f h xs k)
  before_renewal-wakes_all f h [] k r v w q = q
  before_renewal-wakes_all f h (x ∷ xs) k r v w q =
      let g = f (task_at k x) in
      before_renewal-wakes_all f h xs (wakes g h x k) (results-wakes f g h x k xs w.2 r) (linked-wakes k v x w.0 g h w.1) (AllWait-wakes g h x k xs w.2 w.3)
      (c.wake g h x k (record { links = v; inside = w.0; waits = w.1; result = r x (here x xs) }) q)

  pub preserved-renewing : (place : List ℕ → ℕ) (e : Effect) → IsLinked e.kernel → Q e.kernel → After (renewing place e)
  preserved-renewing place e v q = c.renew place e.kernel v q

  -- the number of free messages
  pub preserved-free : (k : Kernel) (n : ℕ) → P k → P (record k { free = n })
  preserved-free k n p = c.rest k (record k { free = n }) (record { tasks = refl; objects = refl; pend = refl; timer_matches = refl; settings = refl }) p

  pub preserved-waits_unless : (k : Kernel) (b : Bool) (e : Effect) → P k → (k.lock ≡ 0 → After e) → After (waits_unless k b e)
  preserved-waits_unless k true e p h = p
  preserved-waits_unless k false e p h = choice_by After (k.lock == 0) e (refused k SchedLocked) (λ s. h (equal k.lock 0 s)) (λ s. p)

  -- a caller that waits, and not for a mutex
  pub preserved-pends : (k : Kernel) → IsLinked k → (x : ℕ) → MayCall x k → (b : Bool) (w : Wait) → waits_for_nothing w.waiting ≡ false → Fits k.objects w.waiting w.objects → (x < 60 → WaitsFor x w.waiting (waiting_task w (task_at k x))) → HasWaitWords w → waits_for_mutex w.waiting ≡ false → P k → After (waits_unless k b (blocks_on k x w))
  preserved-pends k v x m b w some fits form words n p =
      preserved-waits_unless k b (blocks_on k x w) p
      (λ l. let r = caller_ready k v x m l in c.block_kept k x w (record { links = v; inside = r.0; ready = r.1; no_result = r.2; waits = some; fits = fits; form = form r.0; mask = words.0; opt = words.1; table = words.2 }) n p)
