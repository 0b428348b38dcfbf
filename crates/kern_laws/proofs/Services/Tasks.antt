-- The services of tasks, of their own semaphores and queues, and of the lock keep what each plain change keeps.
use Rattle.kern_model.proofs.Common.{◌≡◌, ℕ, zero, suc, ◌<◌, ◌+◌, ◌^◌, List, [], ◌∷◌, length, refl, sym, ap, subst, Bool, true, false, ◌&&◌, ◌||◌, arith, inl, inr, Option, Some, None, ◌==◌, ◌-◌, nat_lt, nat_le, if◌then◌else◌, TaskSuspend, Request, OsErr, SemOverflow, PendAbort, PendAbortSelf, SchedLocked, Depth, TaskResumeSelf, PrioInvalid, LockOverflow, SchedNotLocked, Waiting, TaskSem, TaskQ, Finished, Outcome, Gone, Kernel, Task, task_at, with_task, update_task, waits_for_nothing, timer_task, at_tail, refused, done, answers, answer, fine, message, result_of, plain_result, blocks_on, waits_unless, waits_for, waiting_task, wakes_all, argument, named_task, renewing, IsLinked, MayCall, IsRequest, AreMessageWords, WaitsFor}
use Rattle.std.proofs.lemmas.Bool.{false≢true}
use Rattle.kern_model.specs.FlagBits.{has_bit}
use Rattle.kern_model.specs.Queues.{stored, store_error}
use Rattle.kern_model.specs.TaskObjects.{task_counts_up, task_sem_post_to, task_store, task_q_post_to, task_sem_pend_on, task_q_pend_on, task_abort_of, task_abort, waits_for_semaphore, waits_for_queue}
use Rattle.kern_model.specs.Tasks.{suspends, task_suspend, resumes, task_resume, task_ends, task_del, task_change_prio, sched_lock, unlocks, sched_unlock}
use Rattle.kern_model.proofs.Basics.Choices.{choice_by, at_most, and_first, and_second}
use Rattle.kern_model.proofs.Halves.Effects.{choice}
use Rattle.kern_model.proofs.Linked.Counters.{linked-plain}
use Rattle.kern_model.proofs.Linked.Suspensions.{linked-task_ends}
use Rattle.kern_model.proofs.Linked.ObjectServices.{AllWait-one, store_room, length-stored}
use Rattle.kern_laws.proofs.Changes.Each.{Preserved, IsResultFor, HasRoom, waits_for_mutex}
use Rattle.kern_laws.proofs.Changes.Words.{argument-word, rest-words, stored-words}
use Rattle.kern_laws.proofs.Services.Wakes.{After, results-of, results-one, plain-result, zeros-words, preserved-wakes_all, preserved-renewing, preserved-free, preserved-pends}

-- two changes of one task
update_twice : (f g : Task → Task) (ts : List Task) (x : ℕ) → update_task (update_task ts x f) x g ≡ update_task ts x (λ t. g (f t))
update_twice f g [] x = refl
update_twice f g (t ∷ ts) zero = refl
update_twice f g (t ∷ ts) (suc x) = ap (λ (us : List Task). t ∷ us) (update_twice f g ts x)

-- a wait for a task's own semaphore or queue is for no mutex
pub semaphore_free : (w : Waiting) → waits_for_semaphore w ≡ true → waits_for_mutex w ≡ false
semaphore_free TaskSem h = refl
semaphore_free _ h = absurd (false≢true h)

pub queue_free : (w : Waiting) → waits_for_queue w ≡ true → waits_for_mutex w ≡ false
queue_free TaskQ h = refl
queue_free _ h = absurd (false≢true h)

module _ (P Q : Kernel → Type 0) (c : Preserved P Q) where
  -- one task is woken that waits for no mutex
  pub preserved-wakes_one : (f : Task → Finished) (h x : ℕ) (k : Kernel) → IsResultFor (f (task_at k x)) (task_at k x) → IsLinked k → x < 60 → waits_for_nothing (task_at k x).waiting ≡ false → waits_for_mutex (task_at k x).waiting ≡ false → P k → P (wakes_all f h (x ∷ []) k)
  preserved-wakes_one f h x k r v l w n p = preserved-wakes_all P Q c f h (x ∷ []) k (results-one f k x r) v (AllWait-one k x l w) (n, tt) p

  -- a task's own semaphore and queue

  preserved-task_counts_up : (n x : ℕ) (k : Kernel) → P k → After P Q c (task_counts_up n x k)
  preserved-task_counts_up n x k p =
      choice (After P Q c) (n == 2 ^ 32 - 1) (refused k SemOverflow) (done (with_task k x (λ t. record t { count = n + 1 })) (fine (n + 1))) p
      (c.task k x (λ t. record t { count = n + 1 }) (λ t. refl) p)

  pub preserved-task_sem_post_to : (w : Waiting) (x h : ℕ) (k : Kernel) → (task_at k x).waiting ≡ w → IsLinked k → x < 60 → P k → After P Q c (task_sem_post_to w x h k)
  preserved-task_sem_post_to TaskSem x h k e v l p = preserved-wakes_one (result_of (fine 0)) h x k (results-of (fine 0) (omega arith, omega arith) (task_at k x)) v l (ap waits_for_nothing e) (ap waits_for_mutex e) p
  preserved-task_sem_post_to _ x h k e v l p = preserved-task_counts_up (task_at k x).count x k p

  preserved-task_store : (e : Option OsErr) (x : ℕ) (ms : List (ℕ × ℕ)) (k : Kernel) → (e ≡ None → HasRoom ms (task_at k x)) → AreMessageWords ms → P k → After P Q c (task_store e x ms k)
  preserved-task_store (Some err) x ms k h w p = p
  preserved-task_store None x ms k h w p = preserved-free P Q c (with_task k x (λ t. record t { messages = ms })) (k.free - 1) (c.stores k x ms (h refl) w p)

  pub preserved-task_q_post_to : (w : Waiting) (r : Request) (x h : ℕ) (k : Kernel) → (task_at k x).waiting ≡ w → IsRequest r → IsLinked k → x < 60 → P k → After P Q c (task_q_post_to w r x h k)
  preserved-task_q_post_to TaskQ r x h k e q v l p =
      let a = message (argument r 1) (argument r 2) in
      preserved-wakes_one (result_of a) h x k (results-of a (argument-word r q 1, argument-word r q 2) (task_at k x)) v l (ap waits_for_nothing e) (ap waits_for_mutex e) p
  preserved-task_q_post_to _ r x h k e q v l p =
      let t = task_at k x in
      let m : ℕ × ℕ = (argument r 1, argument r 2) in
      let lifo = has_bit (argument r 3) 1 in
      preserved-task_store (store_error (length t.messages) t.limit k.free) x (stored lifo m t.messages) k
      (λ s. inl (omega (arith, length-stored lifo m t.messages, store_room (length t.messages) t.limit k.free s)))
      (stored-words lifo m t.messages (argument-word r q 1) (argument-word r q 2) ((c.words k p).tasks x).messages) p

  -- the caller waits for no object
  pub preserved-waits_alone : (k : Kernel) → IsLinked k → (x : ℕ) → MayCall x k → (b : Bool) (w : Waiting) (timeout : ℕ) → waits_for_nothing w ≡ false → ((t : Task) → WaitsFor x w (waiting_task (waits_for w [] timeout) t)) → waits_for_mutex w ≡ false → P k → After P Q c (waits_unless k b (blocks_on k x (waits_for w [] timeout)))
  preserved-waits_alone k v x m b w timeout some form n p =
      preserved-pends P Q c k v x m b (waits_for w [] timeout) some (λ o l. absurd (omega (arith, l))) (λ _. form (task_at k x)) (omega arith, omega arith, omega arith) n p

  pub preserved-task_sem_pend_on : (n : ℕ) (r : Request) (x : ℕ) (k : Kernel) → IsLinked k → MayCall x k → P k → After P Q c (task_sem_pend_on n r x k)
  preserved-task_sem_pend_on zero r x k v m p = preserved-waits_alone k v x m (argument r 1 == 1) TaskSem (argument r 0) refl (λ t. refl) refl p
  preserved-task_sem_pend_on (suc n) r x k v m p = c.task k x (λ t. record t { count = n }) (λ t. refl) p

  pub preserved-task_q_pend_on : (ms : List (ℕ × ℕ)) (r : Request) (x : ℕ) (k : Kernel) → (task_at k x).messages ≡ ms → IsLinked k → MayCall x k → P k → After P Q c (task_q_pend_on ms r x k)
  preserved-task_q_pend_on [] r x k e v m p = preserved-waits_alone k v x m (argument r 1 == 1) TaskQ (argument r 0) refl (λ t. refl) refl p
  preserved-task_q_pend_on (m ∷ ms) r x k e v may p =
      preserved-free P Q c (with_task k x (λ t. record t { messages = ms })) (k.free + 1) (c.stores k x ms (inr (omega (arith, ap length e))) (rest-words m ms (subst AreMessageWords e ((c.words k p).tasks x).messages)) p)

  preserved-task_abort_of : (b : Bool) (x h : ℕ) (k : Kernel) → IsLinked k → x < 60 → (b ≡ true → waits_for_nothing (task_at k x).waiting ≡ false) → (b ≡ true → waits_for_mutex (task_at k x).waiting ≡ false) → P k → After P Q c (task_abort_of b x h k)
  preserved-task_abort_of false x h k v l w n p = p
  preserved-task_abort_of true x h k v l w n p = preserved-wakes_one (result_of (answer PendAbort 0)) h x k (results-of (answer PendAbort 0) (omega arith, omega arith) (task_at k x)) v l (w refl) (n refl) p

  pub preserved-task_abort : (waits : Waiting → Bool) → ((w : Waiting) → waits w ≡ true → waits_for_nothing w ≡ false) → ((w : Waiting) → waits w ≡ true → waits_for_mutex w ≡ false) → (r : Request) (x h : ℕ) (k : Kernel) → IsLinked k → named_task r x < 60 → P k → After P Q c (task_abort waits r x h k)
  preserved-task_abort waits some free r x h k v l p =
      let y = named_task r x in
      choice (After P Q c) (y == x) (refused k PendAbortSelf) (task_abort_of (waits (task_at k y).waiting) y h k) p
      (preserved-task_abort_of (waits (task_at k y).waiting) y h k v l (some (task_at k y).waiting) (free (task_at k y).waiting) p)

  -- tasks

  preserved-suspends : (own : Bool) (x : ℕ) (k : Kernel) → P k → After P Q c (suspends own x k)
  preserved-suspends false x k p =
      let f : Task → Task = λ t. record t { suspended = t.suspended + 1 } in
      c.rest (with_task k x f) (suspends false x k).kernel (record { tasks = refl; objects = refl; pend = refl; timer_matches = refl; settings = refl }) (c.task k x f (λ t. refl) p)
  preserved-suspends true x k p =
      let f : Task → Task = λ t. record t { suspended = t.suspended + 1 } in
      let a = Some (plain_result TaskSuspend (fine 0)) in
      let g : Task → Task = λ t. record t { answered = a } in
      c.rest (with_task (with_task k x f) x g) (suspends true x k).kernel (record { tasks = sym (update_twice f g k.tasks x); objects = refl; pend = refl; timer_matches = refl; settings = refl })
      (c.answers (with_task k x f) x a ((λ t. plain-result TaskSuspend (fine 0) t (λ e. cc)), ((omega arith, omega arith), zeros-words)) (c.task k x f (λ t. refl) p))

  pub preserved-task_suspend : (r : Request) (x : ℕ) (k : Kernel) → P k → After P Q c (task_suspend r x k)
  preserved-task_suspend r x k p =
      let y = named_task r x in
      choice (After P Q c) ((y == x) && nat_lt 0 k.lock) (refused k SchedLocked) (if (task_at k y).suspended == 250 then refused k Depth else suspends (y == x) y k) p
      (choice (After P Q c) ((task_at k y).suspended == 250) (refused k Depth) (suspends (y == x) y k) p (preserved-suspends (y == x) y k p))

  preserved-resumes : (n x h : ℕ) (k : Kernel) → P k → After P Q c (resumes n x h k)
  preserved-resumes zero x h k p = p
  preserved-resumes (suc n) x h k p =
      let f : Task → Task = λ t. record t { suspended = n } in
      c.rest (with_task k x f) (resumes (suc n) x h k).kernel (record { tasks = refl; objects = refl; pend = refl; timer_matches = refl; settings = refl }) (c.task k x f (λ t. refl) p)

  pub preserved-task_resume : (r : Request) (x h : ℕ) (k : Kernel) → P k → After P Q c (task_resume r x h k)
  preserved-task_resume r x h k p =
      let y = named_task r x in
      choice (After P Q c) (y == x) (refused k TaskResumeSelf) (resumes (task_at k y).suspended y h k) p (preserved-resumes (task_at k y).suspended y h k p)

  pub preserved-task_del : (r : Request) (x : ℕ) (k : Kernel) → IsLinked k → named_task r x < 60 → P k → After P Q c (task_del r x k)
  preserved-task_del r x k v l p =
      let y = named_task r x in
      let o : Outcome = if y == x then Gone else answers (fine 0) in
      choice (After P Q c) ((y == x) && nat_lt 0 k.lock) (refused k SchedLocked) (renewing at_tail (task_ends o y k)) p
      (preserved-renewing P Q c at_tail (task_ends o y k) (linked-task_ends k v y l o) (c.ended k o y v l p))

  pub preserved-task_change_prio : (r : Request) (x : ℕ) (k : Kernel) → IsLinked k → named_task r x < 60 → P k → After P Q c (task_change_prio r x k)
  preserved-task_change_prio r x k v l p =
      let b = argument r 1 in
      let y = named_task r x in
      let e = done (with_task k y (λ t. record t { base = b })) (fine 0) in
      choice_by (After P Q c) (nat_le 1 b && nat_le b 62) (renewing at_tail e) (refused k PrioInvalid)
      (λ s. let from = at_most 1 b (and_first (nat_le 1 b) (nat_le b 62) s) in
      let to = at_most b 62 (and_second (nat_le 1 b) (nat_le b 62) s) in
      preserved-renewing P Q c at_tail e (linked-plain k y (λ t. record t { base = b }) (λ t. refl) from (v.tasks.each_task y).count (inr (l, to)) v) (c.based k y b l from to p))
      (λ s. p)

  -- the lock

  preserved-lock : (k : Kernel) (n : ℕ) → P k → P (record k { lock = n })
  preserved-lock k n p = c.rest k (record k { lock = n }) (record { tasks = refl; objects = refl; pend = refl; timer_matches = refl; settings = refl }) p

  pub preserved-sched_lock : (k : Kernel) → P k → After P Q c (sched_lock k)
  preserved-sched_lock k p = choice (After P Q c) (k.lock == 250) (refused k LockOverflow) (done (record k { lock = k.lock + 1 }) (fine (k.lock + 1))) p (preserved-lock k (k.lock + 1) p)

  preserved-unlocks : (n : ℕ) (k : Kernel) → P k → After P Q c (unlocks n k)
  preserved-unlocks zero k p = preserved-lock k 0 p
  preserved-unlocks (suc n) k p = preserved-lock k (suc n) p

  pub preserved-sched_unlock : (x : ℕ) (k : Kernel) → P k → After P Q c (sched_unlock x k)
  preserved-sched_unlock x k p =
      choice (After P Q c) ((k.lock == 0) || ((k.lock == 1) && (x == timer_task))) (refused k SchedNotLocked) (unlocks (k.lock - 1) k) p (preserved-unlocks (k.lock - 1) k p)
