-- No service loses or makes a message.
use Rattle.kern_model.proofs.Common.{◌≡◌, ℕ, zero, suc, ◌<◌, ◌+◌, List, [], ◌∷◌, length, get_or, refl, sym, ap, ◌∙◌, Bool, true, false, arith, Option, Some, None, ◌==◌, ◌-◌, ◌^◌, nat_lt, nat_le, if◌then◌else◌, Request, OsErr, SemOverflow, SchedLocked, QueueMax, PoolEmpty, Depth, MutexOwner, MutexNotOwner, MutexNesting, PendAbort, PendAbortSelf, ObjectDeleted, SemPend, QPend, MutexPend, FlagPend, Waiting, Obj, TaskSem, TaskQ, Finished, Kernel, Task, Object, Content, Count, Messages, Bits, Held, Timed, no_task, no_object, list_at, task_at, object_at, update_task, update_object, with_task, with_content, at_head, at_tail, Effect, Wait, refused, done, answer, fine, message, wakes, wakes_all, answered_task, waiting_task, result_of, posted_result, chosen, waits_unless, blocks_on, blocked, waits_for, argument, named_task, with_prio, moved, moved_all, moves_of, renewed_tasks, renewing}
use Rattle.kern_model.specs.FlagBits.{has_bit, ready_bits, bits_after, consumed}
use Rattle.kern_model.specs.Semaphores.{sem_post_to, sem_post, sem_pend}
use Rattle.kern_model.specs.Queues.{stored, store_error, store_in, q_post_to, q_post, q_pend}
use Rattle.kern_model.specs.Flags.{flag_wakes, flag_wakes_all, flag_post, flag_pend_on, flag_pend}
use Rattle.kern_model.specs.Mutexes.{nests, mutex_pend, passes_to, released, mutex_post, mutex_aborts, mutex_deletes}
use Rattle.kern_model.specs.Waiters.{aborts, deletes, emptied, without_object, messages_in}
use Rattle.kern_model.specs.TaskObjects.{task_counts_up, task_sem_post_to, task_store, task_q_post_to, task_sem_pend_on, task_q_pend_on, task_abort_of, task_abort}
use Rattle.kern_model.specs.Pool.{object_messages, task_messages, pool_of}
use Rattle.kern_model.proofs.Basics.Choices.{unequal, some≢none}
use Rattle.kern_model.proofs.Halves.Effects.{choice}
use Rattle.kern_model.proofs.Linked.ObjectServices.{length-stored}

-- sums after a change of one

pub objects-same : (f : Object → Object) (bs : List Object) (o : ℕ) → messages_in (f (get_or bs o no_object)).content ≡ messages_in (get_or bs o no_object).content → object_messages (update_object bs o f) ≡ object_messages bs
objects-same f [] o h = refl
objects-same f (b ∷ bs) zero h = ap (λ n. n + object_messages bs) h
objects-same f (b ∷ bs) (suc o) h = ap (λ n. messages_in b.content + n) (objects-same f bs o h)

pub objects-set : (f : Object → Object) (bs : List Object) (o : ℕ) → o < length bs → object_messages (update_object bs o f) + messages_in (get_or bs o no_object).content ≡ object_messages bs + messages_in (f (get_or bs o no_object)).content
objects-set f [] o h = absurd (omega arith)
objects-set f (b ∷ bs) zero h = omega arith
objects-set f (b ∷ bs) (suc o) h = omega (arith, objects-set f bs o (omega arith))

pub tasks-same : (f : Task → Task) → ((t : Task) → length (f t).messages ≡ length t.messages) → (ts : List Task) (x : ℕ) → task_messages (update_task ts x f) ≡ task_messages ts
tasks-same f h [] x = refl
tasks-same f h (t ∷ ts) zero = ap (λ n. n + task_messages ts) (h t)
tasks-same f h (t ∷ ts) (suc x) = ap (λ n. length t.messages + n) (tasks-same f h ts x)

pub tasks-set : (f : Task → Task) (ts : List Task) (x : ℕ) → x < length ts → task_messages (update_task ts x f) + length (get_or ts x no_task).messages ≡ task_messages ts + length (f (get_or ts x no_task)).messages
tasks-set f [] x h = absurd (omega arith)
tasks-set f (t ∷ ts) zero h = omega arith
tasks-set f (t ∷ ts) (suc x) h = omega (arith, tasks-set f ts x (omega arith))

-- all messages are there after an effect
abbrev pub PoolStays : Kernel → Effect → Type 0
PoolStays k e = pool_of e.kernel ≡ pool_of k

-- a change of content that leaves as many messages
pub pool-content : (k : Kernel) (o : ℕ) (c : Content) → messages_in c ≡ messages_in (object_at k o).content → pool_of (with_content k o c) ≡ pool_of k
pool-content k o c h = ap (λ n. n + task_messages k.tasks + k.free) (objects-same (λ b. record b { content = c }) k.objects o h)

pub pool-task : (k : Kernel) (x : ℕ) (f : Task → Task) → ((t : Task) → length (f t).messages ≡ length t.messages) → pool_of (with_task k x f) ≡ pool_of k
pool-task k x f h = ap (λ n. object_messages k.objects + n + k.free) (tasks-same f h k.tasks x)

pub pool-wakes : (f : Finished) (h x : ℕ) (k : Kernel) → pool_of (wakes f h x k) ≡ pool_of k
pool-wakes f h x k = pool-task k x (answered_task f) (λ t. refl)

pub pool-wakes_all : (f : Task → Finished) (h : ℕ) (xs : List ℕ) (k : Kernel) → pool_of (wakes_all f h xs k) ≡ pool_of k
pool-wakes_all f h [] k = refl
pool-wakes_all f h (x ∷ xs) k = pool-wakes_all f h xs (wakes (f (task_at k x)) h x k) ∙ pool-wakes (f (task_at k x)) h x k

pub pool-blocked : (k : Kernel) (x : ℕ) (w : Wait) → pool_of (blocked k x w) ≡ pool_of k
pool-blocked k x w = pool-task k x (waiting_task w) (λ t. refl)

pub pool-waits_unless : (k : Kernel) (b : Bool) (e : Effect) → PoolStays k e → PoolStays k (waits_unless k b e)
pool-waits_unless k true e h = refl
pool-waits_unless k false e h = choice (PoolStays k) (k.lock == 0) e (refused k SchedLocked) h refl

pool-moved_all : (place : List ℕ → ℕ) (ms : List (ℕ × ℕ)) (k : Kernel) → pool_of (moved_all place ms k) ≡ pool_of k
pool-moved_all place [] k = refl
pool-moved_all place (m ∷ ms) k = pool-moved_all place ms (moved place m.0 m.1 k) ∙ pool-task k m.0 (with_prio m.1) (λ t. refl)

pub pool-renewing : (place : List ℕ → ℕ) (k : Kernel) (e : Effect) → PoolStays k e → PoolStays k (renewing place e)
pool-renewing place k e h = pool-moved_all place (moves_of renewed_tasks e.kernel) e.kernel ∙ h

-- semaphores

pool-sem_post_to : (xs : List ℕ) (n o opt h : ℕ) (k : Kernel) → (object_at k o).content ≡ Count n → PoolStays k (sem_post_to xs n o opt h k)
pool-sem_post_to [] n o opt h k e =
    choice (PoolStays k) (n == 2 ^ 32 - 1) (refused k SemOverflow) (done (with_content k o (Count (n + 1))) (fine (n + 1))) refl (pool-content k o (Count (n + 1)) (sym (ap messages_in e)))
pool-sem_post_to (x ∷ xs) n o opt h k e = pool-wakes_all (posted_result o (fine 0)) h (chosen (opt == 2) (x ∷ xs)) k

pub pool-sem_post : (c : Content) (r : Request) (h : ℕ) (k : Kernel) → (object_at k (argument r 0)).content ≡ c → PoolStays k (sem_post c r h k)
pool-sem_post (Count n) r h k e = pool-sem_post_to (list_at k.pend (argument r 0)) n (argument r 0) (argument r 1) h k e
pool-sem_post _ r h k e = refl

pub pool-sem_pend : (c : Content) (r : Request) (x : ℕ) (k : Kernel) → (object_at k (argument r 0)).content ≡ c → PoolStays k (sem_pend c r x k)
pool-sem_pend (Count zero) r x k e =
    let w = waits_for (Obj SemPend) (argument r 0 ∷ []) (argument r 1) in
    pool-waits_unless k (argument r 2 == 1) (blocks_on k x w) (pool-blocked k x w)
pool-sem_pend (Count (suc n)) r x k e = pool-content k (argument r 0) (Count n) (sym (ap messages_in e))
pool-sem_pend _ r x k e = refl

-- queues

store_free : (held limit free : ℕ) → store_error held limit free ≡ None → 0 < free
store_free held limit free h = by_test (nat_le limit held) h
  where
    by_free : (b : Bool) → (free == 0) ≡ b → (if b then Some PoolEmpty else None) ≡ None → 0 < free
    by_free true e h = absurd (some≢none PoolEmpty h)
    by_free false e h = let d = unequal free 0 e in omega (arith, d)

    by_test : (b : Bool) → (if b then Some QueueMax else (if free == 0 then Some PoolEmpty else None)) ≡ None → 0 < free
    by_test true h = absurd (some≢none QueueMax h)
    by_test false h = by_free (free == 0) refl h

pool-store_in : (e : Option OsErr) (o limit : ℕ) (ms old : List (ℕ × ℕ)) (k : Kernel) → (e ≡ None → 0 < k.free) → (object_at k o).content ≡ Messages limit old → length ms ≡ length old + 1 → o < length k.objects → PoolStays k (store_in e o limit ms k)
pool-store_in (Some err) o limit ms old k h c n i = refl
pool-store_in None o limit ms old k h c n i =
    omega (arith, objects-set (λ b. record b { content = Messages limit ms }) k.objects o i, ap messages_in c, n, h refl)

pub pool-q_post : (c : Content) (r : Request) (h : ℕ) (k : Kernel) → (object_at k (argument r 0)).content ≡ c → argument r 0 < length k.objects → PoolStays k (q_post c r h k)
pool-q_post (Messages limit ms) r h k e i = by_waiters (list_at k.pend (argument r 0))
  where
    by_waiters : (xs : List ℕ) → PoolStays k (q_post_to xs limit ms r h k)
    by_waiters [] =
        let m : ℕ × ℕ = (argument r 1, argument r 2) in
        let lifo = has_bit (argument r 3) 1 in
        pool-store_in (store_error (length ms) limit k.free) (argument r 0) limit (stored lifo m ms) ms k (store_free (length ms) limit k.free) e (length-stored lifo m ms) i
    by_waiters (x ∷ xs) = pool-wakes_all (posted_result (argument r 0) (message (argument r 1) (argument r 2))) h (chosen (has_bit (argument r 3) 2) (x ∷ xs)) k
pool-q_post _ r h k e i = refl

pub pool-q_pend : (c : Content) (r : Request) (x : ℕ) (k : Kernel) → (object_at k (argument r 0)).content ≡ c → argument r 0 < length k.objects → PoolStays k (q_pend c r x k)
pool-q_pend (Messages limit []) r x k e i =
    let w = waits_for (Obj QPend) (argument r 0 ∷ []) (argument r 1) in
    pool-waits_unless k (argument r 2 == 1) (blocks_on k x w) (pool-blocked k x w)
pool-q_pend (Messages limit (m ∷ ms)) r x k e i =
    omega (arith, objects-set (λ b. record b { content = Messages limit ms }) k.objects (argument r 0) i, ap messages_in e)
pool-q_pend _ r x k e i = refl

-- flags

pool-flag_wakes : (o : Option ℕ) (h x : ℕ) (k : Kernel) → pool_of (flag_wakes o h x k) ≡ pool_of k
pool-flag_wakes None h x k = refl
pool-flag_wakes (Some ready) h x k = pool-wakes (result_of (fine ready) (task_at k x)) h x k

pool-flag_wakes_all : (bits h : ℕ) (xs : List ℕ) (k : Kernel) → pool_of (flag_wakes_all bits h xs k) ≡ pool_of k
pool-flag_wakes_all bits h [] k = refl
pool-flag_wakes_all bits h (x ∷ xs) k =
    let o = ready_bits bits (task_at k x).mask (task_at k x).opt in
    pool-flag_wakes_all bits h xs (flag_wakes o h x k) ∙ pool-flag_wakes o h x k

pub pool-flag_post : (c : Content) (r : Request) (h : ℕ) (k : Kernel) → (object_at k (argument r 0)).content ≡ c → PoolStays k (flag_post c r h k)
pool-flag_post (Bits old) r h k e =
    let bits = bits_after old (argument r 1) (argument r 2) in
    pool-flag_wakes_all bits h (list_at k.pend (argument r 0)) (with_content k (argument r 0) (Bits bits)) ∙ pool-content k (argument r 0) (Bits bits) (sym (ap messages_in e))
pool-flag_post _ r h k e = refl

pool-flag_pend_on : (o : Option ℕ) (bits : ℕ) (r : Request) (x : ℕ) (k : Kernel) → (object_at k (argument r 0)).content ≡ Bits bits → PoolStays k (flag_pend_on o bits r x k)
pool-flag_pend_on None bits r x k e =
    let w : Wait = record { waiting = Obj FlagPend; objects = argument r 0 ∷ []; mask = argument r 1; opt = argument r 3; table = 0; timeout = argument r 2 } in
    pool-waits_unless k (has_bit (argument r 3) 8) (blocks_on k x w) (pool-blocked k x w)
pool-flag_pend_on (Some ready) bits r x k e = pool-content k (argument r 0) (Bits (consumed bits ready (argument r 3))) (sym (ap messages_in e))

pub pool-flag_pend : (c : Content) (r : Request) (x : ℕ) (k : Kernel) → (object_at k (argument r 0)).content ≡ c → PoolStays k (flag_pend c r x k)
pool-flag_pend (Bits bits) r x k e = pool-flag_pend_on (ready_bits bits (argument r 1) (argument r 3)) bits r x k e
pool-flag_pend _ r x k e = refl

-- mutexes

pool-held : (k : Kernel) (o : ℕ) (a b : Option ℕ) (m n : ℕ) → (object_at k o).content ≡ Held a m → pool_of (with_content k o (Held b n)) ≡ pool_of k
pool-held k o a b m n e = pool-content k o (Held b n) (sym (ap messages_in e))

pub pool-mutex_pend : (c : Content) (r : Request) (x : ℕ) (k : Kernel) → (object_at k (argument r 0)).content ≡ c → PoolStays k (mutex_pend c r x k)
pool-mutex_pend (Held None nesting) r x k e = pool-held k (argument r 0) None (Some x) nesting 1 e
pool-mutex_pend (Held (Some y) nesting) r x k e =
    let o = argument r 0 in
    let w = waits_for (Obj MutexPend) (o ∷ []) (argument r 1) in
    let b = blocks_on k x w in
    choice (PoolStays k) (y == x) (nests o x nesting k) (waits_unless k (argument r 2 == 1) (renewing at_head b))
    (choice (PoolStays k) (nesting == 250) (refused k Depth) (done (with_content k o (Held (Some x) (nesting + 1))) (answer MutexOwner (nesting + 1))) refl (pool-held k o (Some y) (Some x) nesting (nesting + 1) e))
    (pool-waits_unless k (argument r 2 == 1) (renewing at_head b) (pool-renewing at_head k b (pool-blocked k x w)))
pool-mutex_pend _ r x k e = refl

pool-passes_to : (xs : List ℕ) (o h nesting : ℕ) (y : Option ℕ) (k : Kernel) → (object_at k o).content ≡ Held y nesting → PoolStays k (passes_to xs o h k)
pool-passes_to [] o h nesting y k e = pool-held k o y None nesting 0 e
pool-passes_to (x ∷ xs) o h nesting y k e =
    pool-wakes_all (result_of (fine 1)) h (x ∷ []) (with_content k o (Held (Some x) 1)) ∙ pool-held k o y (Some x) nesting 1 e

pub pool-mutex_post : (c : Content) (r : Request) (x h : ℕ) (k : Kernel) → (object_at k (argument r 0)).content ≡ c → PoolStays k (mutex_post c r x h k)
pool-mutex_post (Held None nesting) r x h k e = refl
pool-mutex_post (Held (Some y) nesting) r x h k e =
    let o = argument r 0 in
    let p = passes_to (list_at k.pend o) o h k in
    choice (PoolStays k) (y == x) (released nesting r x h k) (refused k MutexNotOwner)
    (choice (PoolStays k) (nat_lt 1 nesting) (done (with_content k o (Held (Some x) (nesting - 1))) (answer MutexNesting (nesting - 1))) (renewing at_tail p)
    (pool-held k o (Some y) (Some x) nesting (nesting - 1) e) (pool-renewing at_tail k p (pool-passes_to (list_at k.pend o) o h nesting (Some y) k e)))
    refl
pool-mutex_post _ r x h k e = refl

-- aborts and deletions

pub pool-aborts : (xs : List ℕ) (h : ℕ) (k : Kernel) → PoolStays k (aborts xs h k)
pool-aborts [] h k = refl
pool-aborts (x ∷ xs) h k = pool-wakes_all (result_of (answer PendAbort 0)) h (x ∷ xs) k

pub pool-mutex_aborts : (xs : List ℕ) (h : ℕ) (k : Kernel) → PoolStays k (mutex_aborts xs h k)
pool-mutex_aborts [] h k = refl
pool-mutex_aborts (x ∷ xs) h k = pool-renewing at_tail k (aborts (x ∷ xs) h k) (pool-aborts (x ∷ xs) h k)

emptied-none : (c : Content) → messages_in (emptied c) ≡ 0
emptied-none (Messages limit ms) = refl
emptied-none (Count n) = refl
emptied-none (Bits bits) = refl
emptied-none (Held owner nesting) = refl
emptied-none (Timed t) = refl

pool-without_object : (o : ℕ) (k : Kernel) → o < length k.objects → pool_of (without_object o k) ≡ pool_of k
pool-without_object o k i =
    omega (arith, objects-set (λ b. record { content = emptied b.content; deleted = true }) k.objects o i, emptied-none (object_at k o).content)

pub objects-wakes_all : (f : Task → Finished) (h : ℕ) (xs : List ℕ) (k : Kernel) → (wakes_all f h xs k).objects ≡ k.objects
objects-wakes_all f h [] k = refl
objects-wakes_all f h (x ∷ xs) k = objects-wakes_all f h xs (wakes (f (task_at k x)) h x k)

pool-deleted : (xs : List ℕ) (o h : ℕ) (k : Kernel) → o < length k.objects → PoolStays k (deletes true xs o h k)
pool-deleted xs o h k i =
    let f = result_of (answer ObjectDeleted 0) in
    let j = wakes_all f h xs k in
    pool-without_object o j (omega (arith, i, ap (λ bs. length bs) (objects-wakes_all f h xs k))) ∙ pool-wakes_all f h xs k

pub pool-deletes : (all : Bool) (xs : List ℕ) (o h : ℕ) (k : Kernel) → o < length k.objects → PoolStays k (deletes all xs o h k)
pool-deletes false (x ∷ xs) o h k i = refl
pool-deletes false [] o h k i = pool-deleted [] o h k i
pool-deletes true xs o h k i = pool-deleted xs o h k i

pub pool-mutex_deletes : (all : Bool) (xs : List ℕ) (o h : ℕ) (k : Kernel) → o < length k.objects → PoolStays k (mutex_deletes all xs o h k)
pool-mutex_deletes false (x ∷ xs) o h k i = refl
pool-mutex_deletes false [] o h k i = pool-renewing at_tail k (deletes false [] o h k) (pool-deletes false [] o h k i)
pool-mutex_deletes true xs o h k i = pool-renewing at_tail k (deletes true xs o h k) (pool-deletes true xs o h k i)

-- a task's own semaphore and queue

pool-task_counts_up : (n x : ℕ) (k : Kernel) → PoolStays k (task_counts_up n x k)
pool-task_counts_up n x k =
    choice (PoolStays k) (n == 2 ^ 32 - 1) (refused k SemOverflow) (done (with_task k x (λ t. record t { count = n + 1 })) (fine (n + 1))) refl (pool-task k x (λ t. record t { count = n + 1 }) (λ t. refl))

pub pool-task_sem_post_to : (w : Waiting) (x h : ℕ) (k : Kernel) → PoolStays k (task_sem_post_to w x h k)
pool-task_sem_post_to TaskSem x h k = pool-wakes_all (result_of (fine 0)) h (x ∷ []) k
pool-task_sem_post_to _ x h k = pool-task_counts_up (task_at k x).count x k

pool-task_store : (e : Option OsErr) (x : ℕ) (ms : List (ℕ × ℕ)) (k : Kernel) → (e ≡ None → 0 < k.free) → length ms ≡ length (task_at k x).messages + 1 → x < length k.tasks → PoolStays k (task_store e x ms k)
pool-task_store (Some err) x ms k h n i = refl
pool-task_store None x ms k h n i = omega (arith, tasks-set (λ t. record t { messages = ms }) k.tasks x i, n, h refl)

pub pool-task_q_post_to : (w : Waiting) (r : Request) (x h : ℕ) (k : Kernel) → x < length k.tasks → PoolStays k (task_q_post_to w r x h k)
pool-task_q_post_to TaskQ r x h k i = pool-wakes_all (result_of (message (argument r 1) (argument r 2))) h (x ∷ []) k
pool-task_q_post_to _ r x h k i =
    let t = task_at k x in
    let m : ℕ × ℕ = (argument r 1, argument r 2) in
    let lifo = has_bit (argument r 3) 1 in
    pool-task_store (store_error (length t.messages) t.limit k.free) x (stored lifo m t.messages) k (store_free (length t.messages) t.limit k.free) (length-stored lifo m t.messages) i

pub pool-task_sem_pend_on : (n : ℕ) (r : Request) (x : ℕ) (k : Kernel) → PoolStays k (task_sem_pend_on n r x k)
pool-task_sem_pend_on zero r x k =
    let w = waits_for TaskSem [] (argument r 0) in
    pool-waits_unless k (argument r 1 == 1) (blocks_on k x w) (pool-blocked k x w)
pool-task_sem_pend_on (suc n) r x k = pool-task k x (λ t. record t { count = n }) (λ t. refl)

pub pool-task_q_pend_on : (ms : List (ℕ × ℕ)) (r : Request) (x : ℕ) (k : Kernel) → (task_at k x).messages ≡ ms → x < length k.tasks → PoolStays k (task_q_pend_on ms r x k)
pool-task_q_pend_on [] r x k e i =
    let w = waits_for TaskQ [] (argument r 0) in
    pool-waits_unless k (argument r 1 == 1) (blocks_on k x w) (pool-blocked k x w)
pool-task_q_pend_on (m ∷ ms) r x k e i = omega (arith, tasks-set (λ t. record t { messages = ms }) k.tasks x i, ap (λ l. length l) e)

pool-task_abort_of : (b : Bool) (x h : ℕ) (k : Kernel) → PoolStays k (task_abort_of b x h k)
pool-task_abort_of false x h k = refl
pool-task_abort_of true x h k = pool-wakes_all (result_of (answer PendAbort 0)) h (x ∷ []) k

pub pool-task_abort : (waits : Waiting → Bool) (r : Request) (x h : ℕ) (k : Kernel) → PoolStays k (task_abort waits r x h k)
pool-task_abort waits r x h k =
    let y = named_task r x in
    choice (PoolStays k) (y == x) (refused k PendAbortSelf) (task_abort_of (waits (task_at k y).waiting) y h k) refl (pool-task_abort_of (waits (task_at k y).waiting) y h k)
