-- Every service and unit keeps the kernel linked, service by service.
use Rattle.kern_model.proofs.Common.{◌≡◌, ◌≢◌, ℕ, zero, suc, ◌<◌, ◌≤◌, ◌+◌, ◌^◌, List, [], ◌∷◌, length, refl, ap, Bool, true, false, arith, inl, inr, Option, Some, None, length-append, ◌==◌, ◌-◌, nat_lt, nat_le, if◌then◌else◌, Service, SemPend, QPend, FlagPend, MutexPend, Request, OsErr, SemOverflow, SchedLocked, Depth, MutexOwner, MutexNotOwner, MutexNesting, PendAbort, PendAbortSelf, ObjectDeleted, QueueMax, PoolEmpty, Waiting, Obj, TaskSem, TaskQ, Kernel, Object, Content, Count, Messages, Bits, Held, Timed, list_at, task_at, object_at, with_content, with_task, update_object, count_of, is_ready, waits_for_nothing, at_head, at_tail, Effect, Wait, refused, done, answer, fine, message, wakes_all, result_of, posted_result, chosen, waits_unless, blocks_on, blocked, waits_for, argument, named_task, renewing, IsLinked, IsContent, IsWord, MayCall, AllWait, has_result}
use Rattle.std.proofs.lemmas.List.{length-set}
use Rattle.std.proofs.lemmas.List.Elements.{All-nil, All-cons}
use Rattle.std.proofs.lemmas.Bool.{false≢true}
use Rattle.kern_model.specs.FlagBits.{has_bit, ready_bits, bits_after, consumed}
use Rattle.kern_model.specs.Semaphores.{sem_post_to, sem_post, sem_pend}
use Rattle.kern_model.specs.Queues.{stored, store_error, store_in, q_post_to, q_post, q_pend}
use Rattle.kern_model.specs.Flags.{flag_wakes, flag_wakes_all, flag_post, flag_pend_on, flag_pend}
use Rattle.kern_model.specs.Mutexes.{nests, mutex_pend, passes_to, released, mutex_post, mutex_aborts, mutex_deletes}
use Rattle.kern_model.specs.Waiters.{aborts, deletes, emptied, without_object, messages_in}
use Rattle.kern_model.specs.TaskObjects.{task_counts_up, task_sem_post_to, task_store, task_q_post_to, task_sem_pend_on, task_q_pend_on, task_abort_of, task_abort, waits_for_semaphore, waits_for_queue}
use Rattle.kern_model.proofs.Basics.Choices.{choice_by, equal, unequal, above, passed_if}
use Rattle.kern_model.proofs.Halves.Effects.{choice}
use Rattle.kern_model.proofs.Linked.Wakes.{linked-wakes, linked-wakes_all, linked-blocked, AllWait-wakes}
use Rattle.kern_model.proofs.Linked.Contents.{linked-objects, linked-with_content, update_object_keeps, AllWait-pend}
use Rattle.kern_model.proofs.Linked.Counters.{linked-plain, linked-free}
use Rattle.kern_model.proofs.Linked.Renewals.{linked-renewing}

abbrev pub LinkedAfter : Effect → Type 0
LinkedAfter e = IsLinked e.kernel

-- who is woken of those that wait
pub AllWait-chosen : (k : Kernel) (all : Bool) (xs : List ℕ) → AllWait k xs → AllWait k (chosen all xs)
AllWait-chosen k all [] w = w
AllWait-chosen k true (x ∷ xs) w = w
AllWait-chosen k false (x ∷ xs) w = (w.0, w.1, refl, tt)

-- what a call may rest on that goes on only where the lock is 0
pub linked-waits_unless : (k : Kernel) (b : Bool) (e : Effect) → IsLinked k → (k.lock ≡ 0 → LinkedAfter e) → LinkedAfter (waits_unless k b e)
linked-waits_unless k true e v h = v
linked-waits_unless k false e v h = choice_by LinkedAfter (k.lock == 0) e (refused k SchedLocked) (λ s. h (equal k.lock 0 s)) (λ s. v)

-- with the lock 0 the caller is an application task
pub caller_ready : (k : Kernel) → IsLinked k → (x : ℕ) → MayCall x k → k.lock ≡ 0 → (x < 60) × (is_ready (task_at k x) ≡ true) × (has_result (task_at k x).answered ≡ false)
caller_ready k v x (inl m) l = (m.0, m.1, m.2)
caller_ready k v x (inr m) l = let locked : 0 < k.lock = v.lock.locked (v.lock.callback m.1) in absurd (omega arith)

-- the caller waits for one object
pub linked-waits_for_one : (k : Kernel) → IsLinked k → (x : ℕ) → MayCall x k → k.lock ≡ 0 → (waiting : Waiting) → waits_for_nothing waiting ≡ false → (o mask opt timeout : ℕ) → o < length k.objects → IsLinked (blocked k x (record { waiting = waiting; objects = o ∷ []; mask = mask; opt = opt; table = 0; timeout = timeout }))
linked-waits_for_one k v x m l waiting some o mask opt timeout inside =
    let c = caller_ready k v x m l in
    linked-blocked k v x c.0 (record { waiting = waiting; objects = o ∷ []; mask = mask; opt = opt; table = 0; timeout = timeout }) c.1 c.2 some (All-cons (λ i. i < length k.objects) o [] inside (All-nil (λ i. i < length k.objects))) (omega arith) (λ i. once (o == i))
  where
    once : (b : Bool) → (if b then 1 else 0) + 0 ≤ 1
    once true = omega arith
    once false = omega arith

pub linked-one_object : (k : Kernel) → IsLinked k → (x : ℕ) → MayCall x k → k.lock ≡ 0 → (s : Service) (o timeout : ℕ) → o < length k.objects → IsLinked (blocked k x (waits_for (Obj s) (o ∷ []) timeout))
linked-one_object k v x m l s o timeout inside = linked-waits_for_one k v x m l (Obj s) refl o 0 0 timeout inside

-- the caller waits for no object
pub linked-no_object : (k : Kernel) → IsLinked k → (x : ℕ) → MayCall x k → k.lock ≡ 0 → (waiting : Waiting) → waits_for_nothing waiting ≡ false → (timeout : ℕ) → IsLinked (blocked k x (waits_for waiting [] timeout))
linked-no_object k v x m l waiting some timeout =
    let c = caller_ready k v x m l in
    linked-blocked k v x c.0 (waits_for waiting [] timeout) c.1 c.2 some (All-nil (λ i. i < length k.objects)) (omega arith) (λ i. omega arith)

-- semaphores

pub linked-sem_post_to : (xs : List ℕ) (n o opt h : ℕ) (k : Kernel) → IsWord n → IsLinked k → AllWait k xs → LinkedAfter (sem_post_to xs n o opt h k)
linked-sem_post_to [] n o opt h k word v w =
    choice_by LinkedAfter (n == 2 ^ 32 - 1) (refused k SemOverflow) (done (with_content k o (Count (n + 1))) (fine (n + 1))) (λ s. v)
    (λ s. linked-with_content k o (Count (n + 1)) (next (unequal n (2 ^ 32 - 1) s)) v)
  where
    next : n ≢ 2 ^ 32 - 1 → IsWord (n + 1)
    next d = omega (arith, word)
linked-sem_post_to (x ∷ xs) n o opt h k word v w =
    linked-wakes_all (posted_result o (fine 0)) h (chosen (opt == 2) (x ∷ xs)) k v (AllWait-chosen k (opt == 2) (x ∷ xs) w)

pub linked-sem_post : (c : Content) (r : Request) (h : ℕ) (k : Kernel) → IsContent c → IsLinked k → LinkedAfter (sem_post c r h k)
linked-sem_post (Count n) r h k c v = linked-sem_post_to (list_at k.pend (argument r 0)) n (argument r 0) (argument r 1) h k c v (AllWait-pend k v (argument r 0))
linked-sem_post _ r h k c v = v

pub linked-sem_pend : (c : Content) (r : Request) (x : ℕ) (k : Kernel) → IsContent c → IsLinked k → MayCall x k → argument r 0 < length k.objects → LinkedAfter (sem_pend c r x k)
linked-sem_pend (Count zero) r x k c v m inside =
    linked-waits_unless k (argument r 2 == 1) (blocks_on k x (waits_for (Obj SemPend) (argument r 0 ∷ []) (argument r 1))) v
    (λ l. linked-one_object k v x m l SemPend (argument r 0) (argument r 1) inside)
linked-sem_pend (Count (suc n)) r x k c v m inside = linked-with_content k (argument r 0) (Count n) (omega (arith, c)) v
linked-sem_pend _ r x k c v m inside = v

-- queues

-- there is room where a message can be stored
pub store_room : (held limit free : ℕ) → store_error held limit free ≡ None → held < limit
store_room held limit free h = above limit held (passed_if (nat_le limit held) QueueMax (if free == 0 then Some PoolEmpty else None) h).0

pub length-stored : (b : Bool) (m : ℕ × ℕ) (ms : List (ℕ × ℕ)) → length (stored b m ms) ≡ length ms + 1
length-stored true m ms = omega arith
length-stored false m ms = length-append ms (m ∷ [])

linked-store_in : (e : Option OsErr) (o limit : ℕ) (ms : List (ℕ × ℕ)) (k : Kernel) → (e ≡ None → length ms ≤ limit) → IsLinked k → LinkedAfter (store_in e o limit ms k)
linked-store_in (Some err) o limit ms k h v = v
linked-store_in None o limit ms k h v = linked-free (with_content k o (Messages limit ms)) (k.free - 1) (linked-with_content k o (Messages limit ms) (h refl) v)

pub linked-q_post_to : (xs : List ℕ) (limit : ℕ) (ms : List (ℕ × ℕ)) (r : Request) (h : ℕ) (k : Kernel) → IsLinked k → AllWait k xs → LinkedAfter (q_post_to xs limit ms r h k)
linked-q_post_to [] limit ms r h k v w =
    let m : ℕ × ℕ = (argument r 1, argument r 2) in
    let lifo = has_bit (argument r 3) 1 in
    linked-store_in (store_error (length ms) limit k.free) (argument r 0) limit (stored lifo m ms) k
    (λ e. omega (arith, length-stored lifo m ms, store_room (length ms) limit k.free e)) v
linked-q_post_to (x ∷ xs) limit ms r h k v w =
    linked-wakes_all (posted_result (argument r 0) (message (argument r 1) (argument r 2))) h (chosen (has_bit (argument r 3) 2) (x ∷ xs)) k v (AllWait-chosen k (has_bit (argument r 3) 2) (x ∷ xs) w)

pub linked-q_post : (c : Content) (r : Request) (h : ℕ) (k : Kernel) → IsLinked k → LinkedAfter (q_post c r h k)
linked-q_post (Messages limit ms) r h k v = linked-q_post_to (list_at k.pend (argument r 0)) limit ms r h k v (AllWait-pend k v (argument r 0))
linked-q_post _ r h k v = v

pub linked-q_pend : (c : Content) (r : Request) (x : ℕ) (k : Kernel) → IsContent c → IsLinked k → MayCall x k → argument r 0 < length k.objects → LinkedAfter (q_pend c r x k)
linked-q_pend (Messages limit []) r x k c v m inside =
    linked-waits_unless k (argument r 2 == 1) (blocks_on k x (waits_for (Obj QPend) (argument r 0 ∷ []) (argument r 1))) v
    (λ l. linked-one_object k v x m l QPend (argument r 0) (argument r 1) inside)
linked-q_pend (Messages limit (m ∷ ms)) r x k c v may inside =
    linked-free (with_content k (argument r 0) (Messages limit ms)) (k.free + 1) (linked-with_content k (argument r 0) (Messages limit ms) (omega (arith, c)) v)
linked-q_pend _ r x k c v m inside = v

-- flags

linked-flag_wakes : (o : Option ℕ) (h x : ℕ) (k : Kernel) → IsLinked k → x < 60 → waits_for_nothing (task_at k x).waiting ≡ false → IsLinked (flag_wakes o h x k)
linked-flag_wakes None h x k v l w = v
linked-flag_wakes (Some ready) h x k v l w = linked-wakes k v x l (result_of (fine ready) (task_at k x)) h w

AllWait-flag : (o : Option ℕ) (h x : ℕ) (k : Kernel) (xs : List ℕ) → count_of x xs ≡ 0 → AllWait k xs → AllWait (flag_wakes o h x k) xs
AllWait-flag None h x k xs none w = w
AllWait-flag (Some ready) h x k xs none w = AllWait-wakes (result_of (fine ready) (task_at k x)) h x k xs none w

linked-flag_wakes_all : (bits h : ℕ) (xs : List ℕ) (k : Kernel) → IsLinked k → AllWait k xs → IsLinked (flag_wakes_all bits h xs k)
linked-flag_wakes_all bits h [] k v w = v
linked-flag_wakes_all bits h (x ∷ xs) k v w =
    let o = ready_bits bits (task_at k x).mask (task_at k x).opt in
    linked-flag_wakes_all bits h xs (flag_wakes o h x k) (linked-flag_wakes o h x k v w.0 w.1) (AllWait-flag o h x k xs w.2 w.3)

AllWait-content : (k : Kernel) (o : ℕ) (c : Content) (xs : List ℕ) → AllWait k xs → AllWait (with_content k o c) xs
AllWait-content k o c [] w = tt
AllWait-content k o c (x ∷ xs) w = (w.0, w.1, w.2, AllWait-content k o c xs w.3)

pub linked-flag_post : (c : Content) (r : Request) (h : ℕ) (k : Kernel) → IsLinked k → LinkedAfter (flag_post c r h k)
linked-flag_post (Bits old) r h k v =
    let bits = bits_after old (argument r 1) (argument r 2) in
    let xs = list_at k.pend (argument r 0) in
    linked-flag_wakes_all bits h xs (with_content k (argument r 0) (Bits bits)) (linked-with_content k (argument r 0) (Bits bits) tt v) (AllWait-content k (argument r 0) (Bits bits) xs (AllWait-pend k v (argument r 0)))
linked-flag_post _ r h k v = v

linked-flag_pend_on : (o : Option ℕ) (bits : ℕ) (r : Request) (x : ℕ) (k : Kernel) → IsLinked k → MayCall x k → argument r 0 < length k.objects → LinkedAfter (flag_pend_on o bits r x k)
linked-flag_pend_on None bits r x k v m inside =
    let w : Wait = record { waiting = Obj FlagPend; objects = argument r 0 ∷ []; mask = argument r 1; opt = argument r 3; table = 0; timeout = argument r 2 } in
    linked-waits_unless k (has_bit (argument r 3) 8) (blocks_on k x w) v
    (λ l. linked-waits_for_one k v x m l (Obj FlagPend) refl (argument r 0) (argument r 1) (argument r 3) (argument r 2) inside)
linked-flag_pend_on (Some ready) bits r x k v m inside = linked-with_content k (argument r 0) (Bits (consumed bits ready (argument r 3))) tt v

pub linked-flag_pend : (c : Content) (r : Request) (x : ℕ) (k : Kernel) → IsLinked k → MayCall x k → argument r 0 < length k.objects → LinkedAfter (flag_pend c r x k)
linked-flag_pend (Bits bits) r x k v m inside = linked-flag_pend_on (ready_bits bits (argument r 1) (argument r 3)) bits r x k v m inside
linked-flag_pend _ r x k v m inside = v

-- mutexes

linked-nests : (o x nesting : ℕ) (k : Kernel) → nesting ≤ 250 → IsLinked k → LinkedAfter (nests o x nesting k)
linked-nests o x nesting k l v =
    choice_by LinkedAfter (nesting == 250) (refused k Depth) (done (with_content k o (Held (Some x) (nesting + 1))) (answer MutexOwner (nesting + 1))) (λ s. v)
    (λ s. linked-with_content k o (Held (Some x) (nesting + 1)) (next (unequal nesting 250 s)) v)
  where
    next : nesting ≢ 250 → nesting + 1 ≤ 250
    next d = omega (arith, l)

pub linked-mutex_pend : (c : Content) (r : Request) (x : ℕ) (k : Kernel) → IsContent c → IsLinked k → MayCall x k → argument r 0 < length k.objects → LinkedAfter (mutex_pend c r x k)
linked-mutex_pend (Held None nesting) r x k c v m inside = linked-with_content k (argument r 0) (Held (Some x) 1) (omega arith) v
linked-mutex_pend (Held (Some y) nesting) r x k c v m inside =
    let e = blocks_on k x (waits_for (Obj MutexPend) (argument r 0 ∷ []) (argument r 1)) in
    choice LinkedAfter (y == x) (nests (argument r 0) x nesting k) (waits_unless k (argument r 2 == 1) (renewing at_head e)) (linked-nests (argument r 0) x nesting k c v)
    (linked-waits_unless k (argument r 2 == 1) (renewing at_head e) v (λ l. linked-renewing at_head e (linked-one_object k v x m l MutexPend (argument r 0) (argument r 1) inside)))
linked-mutex_pend _ r x k c v m inside = v

pub linked-passes_to : (xs : List ℕ) (o h : ℕ) (k : Kernel) → IsLinked k → AllWait k xs → LinkedAfter (passes_to xs o h k)
linked-passes_to [] o h k v w = linked-with_content k o (Held None 0) (omega arith) v
linked-passes_to (x ∷ xs) o h k v w =
    linked-wakes_all (result_of (fine 1)) h (x ∷ []) (with_content k o (Held (Some x) 1)) (linked-with_content k o (Held (Some x) 1) (omega arith) v) (w.0, w.1, refl, tt)

linked-released : (nesting : ℕ) (r : Request) (x h : ℕ) (k : Kernel) → nesting ≤ 250 → IsLinked k → LinkedAfter (released nesting r x h k)
linked-released nesting r x h k l v =
    let o = argument r 0 in
    let xs = list_at k.pend o in
    choice LinkedAfter (nat_lt 1 nesting) (done (with_content k o (Held (Some x) (nesting - 1))) (answer MutexNesting (nesting - 1))) (renewing at_tail (passes_to xs o h k))
    (linked-with_content k o (Held (Some x) (nesting - 1)) (omega (arith, l)) v) (linked-renewing at_tail (passes_to xs o h k) (linked-passes_to xs o h k v (AllWait-pend k v o)))

pub linked-mutex_post : (c : Content) (r : Request) (x h : ℕ) (k : Kernel) → IsContent c → IsLinked k → LinkedAfter (mutex_post c r x h k)
linked-mutex_post (Held None nesting) r x h k c v = v
linked-mutex_post (Held (Some y) nesting) r x h k c v =
    choice LinkedAfter (y == x) (released nesting r x h k) (refused k MutexNotOwner) (linked-released nesting r x h k c v) v
linked-mutex_post _ r x h k c v = v

-- aborts and deletions

pub linked-aborts : (xs : List ℕ) (h : ℕ) (k : Kernel) → IsLinked k → AllWait k xs → LinkedAfter (aborts xs h k)
linked-aborts [] h k v w = v
linked-aborts (x ∷ xs) h k v w = linked-wakes_all (result_of (answer PendAbort 0)) h (x ∷ xs) k v w

pub linked-mutex_aborts : (xs : List ℕ) (h : ℕ) (k : Kernel) → IsLinked k → AllWait k xs → LinkedAfter (mutex_aborts xs h k)
linked-mutex_aborts [] h k v w = v
linked-mutex_aborts (x ∷ xs) h k v w = linked-renewing at_tail (aborts (x ∷ xs) h k) (linked-aborts (x ∷ xs) h k v w)

emptied-valid : (c : Content) → IsContent c → IsContent (emptied c)
emptied-valid (Messages limit ms) c = omega arith
emptied-valid (Count n) c = c
emptied-valid (Bits bits) c = c
emptied-valid (Held owner nesting) c = c
emptied-valid (Timed t) c = c

pub linked-without_object : (o : ℕ) (k : Kernel) → IsLinked k → IsLinked (without_object o k)
linked-without_object o k v =
    let f : Object → Object = λ b. record { content = emptied b.content; deleted = true } in
    let objects = update_object k.objects o f in
    let j : Kernel = record k { objects = objects } in
    linked-free j (k.free + messages_in (object_at k o).content)
    (linked-objects k objects (length-set k.objects o _) (update_object_keeps (λ b. IsContent b.content) f k.objects o (λ c. emptied-valid (object_at k o).content c) v.contents) v)

pub linked-deleted : (xs : List ℕ) (o h : ℕ) (k : Kernel) → IsLinked k → AllWait k xs → LinkedAfter (deletes true xs o h k)
linked-deleted xs o h k v w =
    linked-without_object o (wakes_all (result_of (answer ObjectDeleted 0)) h xs k) (linked-wakes_all (result_of (answer ObjectDeleted 0)) h xs k v w)

pub linked-deletes : (all : Bool) (xs : List ℕ) (o h : ℕ) (k : Kernel) → IsLinked k → AllWait k xs → LinkedAfter (deletes all xs o h k)
linked-deletes false (x ∷ xs) o h k v w = v
linked-deletes false [] o h k v w = linked-deleted [] o h k v w
linked-deletes true xs o h k v w = linked-deleted xs o h k v w

pub linked-mutex_deletes : (all : Bool) (xs : List ℕ) (o h : ℕ) (k : Kernel) → IsLinked k → AllWait k xs → LinkedAfter (mutex_deletes all xs o h k)
linked-mutex_deletes false (x ∷ xs) o h k v w = v
linked-mutex_deletes false [] o h k v w = linked-renewing at_tail (deletes false [] o h k) (linked-deletes false [] o h k v w)
linked-mutex_deletes true xs o h k v w = linked-renewing at_tail (deletes true xs o h k) (linked-deletes true xs o h k v w)

-- a task's own semaphore and queue

linked-task_counts_up : (x : ℕ) (k : Kernel) → IsLinked k → LinkedAfter (task_counts_up (task_at k x).count x k)
linked-task_counts_up x k v =
    let n = (task_at k x).count in
    choice_by LinkedAfter (n == 2 ^ 32 - 1) (refused k SemOverflow) (done (with_task k x (λ t. record t { count = n + 1 })) (fine (n + 1))) (λ s. v)
    (λ s. linked-plain k x (λ t. record t { count = n + 1 }) (λ t. refl) (v.tasks.each_task x).base_from (next (unequal n (2 ^ 32 - 1) s)) (inl refl) v)
  where
    next : (task_at k x).count ≢ 2 ^ 32 - 1 → IsWord ((task_at k x).count + 1)
    next d = omega (arith, (v.tasks.each_task x).count)

-- one task that waits
pub AllWait-one : (k : Kernel) (x : ℕ) → x < 60 → waits_for_nothing (task_at k x).waiting ≡ false → AllWait k (x ∷ [])
AllWait-one k x l w = (l, w, refl, tt)

pub linked-task_sem_post_to : (w : Waiting) (x h : ℕ) (k : Kernel) → (task_at k x).waiting ≡ w → IsLinked k → x < 60 → LinkedAfter (task_sem_post_to w x h k)
linked-task_sem_post_to TaskSem x h k e v l = linked-wakes_all (result_of (fine 0)) h (x ∷ []) k v (AllWait-one k x l (ap waits_for_nothing e))
linked-task_sem_post_to _ x h k e v l = linked-task_counts_up x k v

linked-task_store : (e : Option OsErr) (x : ℕ) (ms : List (ℕ × ℕ)) (k : Kernel) → IsLinked k → LinkedAfter (task_store e x ms k)
linked-task_store (Some err) x ms k v = v
linked-task_store None x ms k v =
    linked-free (with_task k x (λ t. record t { messages = ms })) (k.free - 1) (linked-plain k x (λ t. record t { messages = ms }) (λ t. refl) (v.tasks.each_task x).base_from (v.tasks.each_task x).count (inl refl) v)

pub linked-task_q_post_to : (w : Waiting) (r : Request) (x h : ℕ) (k : Kernel) → (task_at k x).waiting ≡ w → IsLinked k → x < 60 → LinkedAfter (task_q_post_to w r x h k)
linked-task_q_post_to TaskQ r x h k e v l = linked-wakes_all (result_of (message (argument r 1) (argument r 2))) h (x ∷ []) k v (AllWait-one k x l (ap waits_for_nothing e))
linked-task_q_post_to _ r x h k e v l =
    let t = task_at k x in
    linked-task_store (store_error (length t.messages) t.limit k.free) x (stored (has_bit (argument r 3) 1) (argument r 1, argument r 2) t.messages) k v

pub linked-task_sem_pend_on : (n : ℕ) (r : Request) (x : ℕ) (k : Kernel) → (task_at k x).count ≡ n → IsLinked k → MayCall x k → LinkedAfter (task_sem_pend_on n r x k)
linked-task_sem_pend_on zero r x k e v m =
    linked-waits_unless k (argument r 1 == 1) (blocks_on k x (waits_for TaskSem [] (argument r 0))) v (λ l. linked-no_object k v x m l TaskSem refl (argument r 0))
linked-task_sem_pend_on (suc n) r x k e v m =
    linked-plain k x (λ t. record t { count = n }) (λ t. refl) (v.tasks.each_task x).base_from (omega (arith, e, (v.tasks.each_task x).count)) (inl refl) v

pub linked-task_q_pend_on : (ms : List (ℕ × ℕ)) (r : Request) (x : ℕ) (k : Kernel) → IsLinked k → MayCall x k → LinkedAfter (task_q_pend_on ms r x k)
linked-task_q_pend_on [] r x k v m =
    linked-waits_unless k (argument r 1 == 1) (blocks_on k x (waits_for TaskQ [] (argument r 0))) v (λ l. linked-no_object k v x m l TaskQ refl (argument r 0))
linked-task_q_pend_on (m ∷ ms) r x k v may =
    linked-free (with_task k x (λ t. record t { messages = ms })) (k.free + 1) (linked-plain k x (λ t. record t { messages = ms }) (λ t. refl) (v.tasks.each_task x).base_from (v.tasks.each_task x).count (inl refl) v)

linked-task_abort_of : (b : Bool) (x h : ℕ) (k : Kernel) → IsLinked k → x < 60 → (b ≡ true → waits_for_nothing (task_at k x).waiting ≡ false) → LinkedAfter (task_abort_of b x h k)
linked-task_abort_of false x h k v l w = v
linked-task_abort_of true x h k v l w = linked-wakes_all (result_of (answer PendAbort 0)) h (x ∷ []) k v (AllWait-one k x l (w refl))

pub semaphore_waits : (w : Waiting) → waits_for_semaphore w ≡ true → waits_for_nothing w ≡ false
semaphore_waits TaskSem h = refl
semaphore_waits _ h = absurd (false≢true h)

pub queue_waits : (w : Waiting) → waits_for_queue w ≡ true → waits_for_nothing w ≡ false
queue_waits TaskQ h = refl
queue_waits _ h = absurd (false≢true h)

pub linked-task_abort : (waits : Waiting → Bool) → ((w : Waiting) → waits w ≡ true → waits_for_nothing w ≡ false) → (r : Request) (x h : ℕ) (k : Kernel) → IsLinked k → named_task r x < 60 → LinkedAfter (task_abort waits r x h k)
linked-task_abort waits tells r x h k v l =
    let y = named_task r x in
    choice LinkedAfter (y == x) (refused k PendAbortSelf) (task_abort_of (waits (task_at k y).waiting) y h k) v
    (linked-task_abort_of (waits (task_at k y).waiting) y h k v l (tells (task_at k y).waiting))
