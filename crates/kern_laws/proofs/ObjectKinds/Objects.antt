-- The services of semaphores, queues, event flags and mutexes keep the kinds of objects.
use Rattle.kern_model.proofs.Common.{◌≡◌, ℕ, zero, suc, ◌+◌, ◌^◌, List, [], ◌∷◌, length, refl, ◌∙◌, Bool, true, false, Option, Some, None, ◌==◌, ◌-◌, nat_lt, Request, OsErr, SemOverflow, Depth, MutexOwner, MutexNotOwner, MutexNesting, PendAbort, ObjectDeleted, SemPend, QPend, MutexPend, FlagPend, Obj, Multi, Kernel, Content, Count, Messages, Bits, Held, list_at, task_at, object_at, with_content, kind_of, kinds_of, at_head, at_tail, refused, done, answer, fine, message, wakes_all, result_of, posted_result, chosen, waits_unless, blocks_on, waits_for, argument, renewing}
use Rattle.kern_model.specs.FlagBits.{ready_bits, bits_after, consumed}
use Rattle.kern_model.specs.Options.{posts_to_all, stores_first, hands_to_all, does_not_wait, flags_do_not_wait}
use Rattle.kern_model.specs.Semaphores.{sem_post_to, sem_post, sem_pend}
use Rattle.kern_model.specs.Queues.{stored, store_error, store_in, q_post_to, q_post, q_pend}
use Rattle.kern_model.specs.Flags.{flag_wakes, flag_wakes_all, flag_post, flag_pend_on, flag_pend}
use Rattle.kern_model.specs.Mutexes.{nests, mutex_pend, passes_to, released, mutex_post, mutex_aborts, mutex_deletes}
use Rattle.kern_model.specs.Waiters.{aborts, deletes, emptied}
use Rattle.kern_model.specs.Several.{multi_checked, multi_takes, table_objects, polls, taken_from, taken_all, taken_count}
use Rattle.kern_model.proofs.Halves.Effects.{choice}
use Rattle.kern_laws.proofs.ObjectKinds.Changes.{KindsStay, kinds-object, kinds-content, kinds-wakes_all, kinds-waits_unless, kinds-waits, kinds-renewing}

-- semaphores

kinds-sem_post_to : (xs : List ℕ) (n o opt h : ℕ) (k : Kernel) → (object_at k o).content ≡ Count n → KindsStay k (sem_post_to xs n o opt h k)
kinds-sem_post_to [] n o opt h k e =
    choice (KindsStay k) (n == 2 ^ 32 - 1) (refused k SemOverflow) (done (with_content k o (Count (n + 1))) (fine (n + 1))) refl (kinds-content k o (Count n) (Count (n + 1)) e refl)
kinds-sem_post_to (x ∷ xs) n o opt h k e = kinds-wakes_all (posted_result o (fine 0)) h (chosen (posts_to_all opt) (x ∷ xs)) k

pub kinds-sem_post : (c : Content) (r : Request) (h : ℕ) (k : Kernel) → (object_at k (argument r 0)).content ≡ c → KindsStay k (sem_post c r h k)
kinds-sem_post (Count n) r h k e = kinds-sem_post_to (list_at k.pend (argument r 0)) n (argument r 0) (argument r 1) h k e
kinds-sem_post _ r h k e = refl

pub kinds-sem_pend : (c : Content) (r : Request) (x : ℕ) (k : Kernel) → (object_at k (argument r 0)).content ≡ c → KindsStay k (sem_pend c r x k)
kinds-sem_pend (Count zero) r x k e = kinds-waits k (does_not_wait (argument r 2)) x (waits_for (Obj SemPend) (argument r 0 ∷ []) (argument r 1))
kinds-sem_pend (Count (suc n)) r x k e = kinds-content k (argument r 0) (Count (suc n)) (Count n) e refl
kinds-sem_pend _ r x k e = refl

-- queues

kinds-store_in : (a : Option OsErr) (o limit : ℕ) (old ms : List (ℕ × ℕ)) (k : Kernel) → (object_at k o).content ≡ Messages limit old → KindsStay k (store_in a o limit ms k)
kinds-store_in (Some err) o limit old ms k e = refl
kinds-store_in None o limit old ms k e = kinds-content k o (Messages limit old) (Messages limit ms) e refl

kinds-q_post_to : (xs : List ℕ) (limit : ℕ) (ms : List (ℕ × ℕ)) (r : Request) (h : ℕ) (k : Kernel) → (object_at k (argument r 0)).content ≡ Messages limit ms → KindsStay k (q_post_to xs limit ms r h k)
kinds-q_post_to [] limit ms r h k e =
    kinds-store_in (store_error (length ms) limit k.free) (argument r 0) limit ms (stored (stores_first (argument r 3)) (argument r 1, argument r 2) ms) k e
kinds-q_post_to (x ∷ xs) limit ms r h k e =
    kinds-wakes_all (posted_result (argument r 0) (message (argument r 1) (argument r 2))) h (chosen (hands_to_all (argument r 3)) (x ∷ xs)) k

pub kinds-q_post : (c : Content) (r : Request) (h : ℕ) (k : Kernel) → (object_at k (argument r 0)).content ≡ c → KindsStay k (q_post c r h k)
kinds-q_post (Messages limit ms) r h k e = kinds-q_post_to (list_at k.pend (argument r 0)) limit ms r h k e
kinds-q_post _ r h k e = refl

pub kinds-q_pend : (c : Content) (r : Request) (x : ℕ) (k : Kernel) → (object_at k (argument r 0)).content ≡ c → KindsStay k (q_pend c r x k)
kinds-q_pend (Messages limit []) r x k e = kinds-waits k (does_not_wait (argument r 2)) x (waits_for (Obj QPend) (argument r 0 ∷ []) (argument r 1))
kinds-q_pend (Messages limit (m ∷ ms)) r x k e = kinds-content k (argument r 0) (Messages limit (m ∷ ms)) (Messages limit ms) e refl
kinds-q_pend _ r x k e = refl

-- event flags

kinds-flag_wakes : (a : Option ℕ) (h x : ℕ) (k : Kernel) → kinds_of (flag_wakes a h x k) ≡ kinds_of k
kinds-flag_wakes None h x k = refl
kinds-flag_wakes (Some ready) h x k = refl

kinds-flag_wakes_all : (bits h : ℕ) (xs : List ℕ) (k : Kernel) → kinds_of (flag_wakes_all bits h xs k) ≡ kinds_of k
kinds-flag_wakes_all bits h [] k = refl
kinds-flag_wakes_all bits h (x ∷ xs) k =
    let a = ready_bits bits (task_at k x).mask (task_at k x).opt in
    kinds-flag_wakes_all bits h xs (flag_wakes a h x k) ∙ kinds-flag_wakes a h x k

pub kinds-flag_post : (c : Content) (r : Request) (h : ℕ) (k : Kernel) → (object_at k (argument r 0)).content ≡ c → KindsStay k (flag_post c r h k)
kinds-flag_post (Bits old) r h k e =
    let o = argument r 0 in
    let bits = bits_after old (argument r 1) (argument r 2) in
    kinds-flag_wakes_all bits h (list_at k.pend o) (with_content k o (Bits bits)) ∙ kinds-content k o (Bits old) (Bits bits) e refl
kinds-flag_post _ r h k e = refl

kinds-flag_pend_on : (a : Option ℕ) (bits : ℕ) (r : Request) (x : ℕ) (k : Kernel) → (object_at k (argument r 0)).content ≡ Bits bits → KindsStay k (flag_pend_on a bits r x k)
kinds-flag_pend_on None bits r x k e =
    kinds-waits k (flags_do_not_wait (argument r 3)) x (record { waiting = Obj FlagPend; objects = argument r 0 ∷ []; mask = argument r 1; opt = argument r 3; table = 0; timeout = argument r 2 })
kinds-flag_pend_on (Some ready) bits r x k e = kinds-content k (argument r 0) (Bits bits) (Bits (consumed bits ready (argument r 3))) e refl

pub kinds-flag_pend : (c : Content) (r : Request) (x : ℕ) (k : Kernel) → (object_at k (argument r 0)).content ≡ c → KindsStay k (flag_pend c r x k)
kinds-flag_pend (Bits bits) r x k e = kinds-flag_pend_on (ready_bits bits (argument r 1) (argument r 3)) bits r x k e
kinds-flag_pend _ r x k e = refl

-- mutexes

kinds-held : (k : Kernel) (o : ℕ) (a b : Option ℕ) (m n : ℕ) → (object_at k o).content ≡ Held a m → kinds_of (with_content k o (Held b n)) ≡ kinds_of k
kinds-held k o a b m n e = kinds-content k o (Held a m) (Held b n) e refl

pub kinds-mutex_pend : (c : Content) (r : Request) (x : ℕ) (k : Kernel) → (object_at k (argument r 0)).content ≡ c → KindsStay k (mutex_pend c r x k)
kinds-mutex_pend (Held None n) r x k e = kinds-held k (argument r 0) None (Some x) n 1 e
kinds-mutex_pend (Held (Some y) n) r x k e =
    let o = argument r 0 in
    let b = blocks_on k x (waits_for (Obj MutexPend) (o ∷ []) (argument r 1)) in
    let not_now = does_not_wait (argument r 2) in
    choice (KindsStay k) (y == x) (nests o x n k) (waits_unless k not_now (renewing at_head b))
    (choice (KindsStay k) (n == 250) (refused k Depth) (done (with_content k o (Held (Some x) (n + 1))) (answer MutexOwner (n + 1))) refl (kinds-held k o (Some y) (Some x) n (n + 1) e))
    (kinds-waits_unless k not_now (renewing at_head b) (kinds-renewing at_head k b refl))
kinds-mutex_pend _ r x k e = refl

kinds-passes_to : (xs : List ℕ) (o h n : ℕ) (y : Option ℕ) (k : Kernel) → (object_at k o).content ≡ Held y n → KindsStay k (passes_to xs o h k)
kinds-passes_to [] o h n y k e = kinds-held k o y None n 0 e
kinds-passes_to (x ∷ xs) o h n y k e =
    kinds-wakes_all (result_of (fine 1)) h (x ∷ []) (with_content k o (Held (Some x) 1)) ∙ kinds-held k o y (Some x) n 1 e

pub kinds-mutex_post : (c : Content) (r : Request) (x h : ℕ) (k : Kernel) → (object_at k (argument r 0)).content ≡ c → KindsStay k (mutex_post c r x h k)
kinds-mutex_post (Held None n) r x h k e = refl
kinds-mutex_post (Held (Some y) n) r x h k e =
    let o = argument r 0 in
    let p = passes_to (list_at k.pend o) o h k in
    choice (KindsStay k) (y == x) (released n r x h k) (refused k MutexNotOwner)
    (choice (KindsStay k) (nat_lt 1 n) (done (with_content k o (Held (Some x) (n - 1))) (answer MutexNesting (n - 1))) (renewing at_tail p)
    (kinds-held k o (Some y) (Some x) n (n - 1) e) (kinds-renewing at_tail k p (kinds-passes_to (list_at k.pend o) o h n (Some y) k e)))
    refl
kinds-mutex_post _ r x h k e = refl

-- aborts and deletions

pub kinds-aborts : (xs : List ℕ) (h : ℕ) (k : Kernel) → KindsStay k (aborts xs h k)
kinds-aborts [] h k = refl
kinds-aborts (x ∷ xs) h k = kinds-wakes_all (result_of (answer PendAbort 0)) h (x ∷ xs) k

pub kinds-mutex_aborts : (xs : List ℕ) (h : ℕ) (k : Kernel) → KindsStay k (mutex_aborts xs h k)
kinds-mutex_aborts [] h k = refl
kinds-mutex_aborts (x ∷ xs) h k = kinds-renewing at_tail k (aborts (x ∷ xs) h k) (kinds-aborts (x ∷ xs) h k)

-- a queue without its messages is a queue
kind-emptied : (c : Content) → kind_of (emptied c) ≡ kind_of c
kind-emptied (Messages limit ms) = refl
kind-emptied _ = refl

kinds-deleted : (xs : List ℕ) (o h : ℕ) (k : Kernel) → KindsStay k (deletes true xs o h k)
kinds-deleted xs o h k =
    let f = result_of (answer ObjectDeleted 0) in
    let j = wakes_all f h xs k in
    let c = (object_at j o).content in
    kinds-object j o (record { content = emptied c; deleted = true }) (kind-emptied c) ∙ kinds-wakes_all f h xs k

pub kinds-deletes : (all : Bool) (xs : List ℕ) (o h : ℕ) (k : Kernel) → KindsStay k (deletes all xs o h k)
kinds-deletes false (x ∷ xs) o h k = refl
kinds-deletes false [] o h k = kinds-deleted [] o h k
kinds-deletes true xs o h k = kinds-deleted xs o h k

pub kinds-mutex_deletes : (all : Bool) (xs : List ℕ) (o h : ℕ) (k : Kernel) → KindsStay k (mutex_deletes all xs o h k)
kinds-mutex_deletes false (x ∷ xs) o h k = refl
kinds-mutex_deletes false [] o h k = kinds-renewing at_tail k (deletes false [] o h k) (kinds-deletes false [] o h k)
kinds-mutex_deletes true xs o h k = kinds-renewing at_tail k (deletes true xs o h k) (kinds-deletes true xs o h k)

-- several objects

kinds-taken_from : (o : ℕ) (c : Content) (k : Kernel) → (object_at k o).content ≡ c → kinds_of (taken_from o c k) ≡ kinds_of k
kinds-taken_from o (Count zero) k e = refl
kinds-taken_from o (Count (suc n)) k e = kinds-content k o (Count (suc n)) (Count n) e refl
kinds-taken_from o (Messages limit []) k e = refl
kinds-taken_from o (Messages limit (m ∷ ms)) k e = kinds-content k o (Messages limit (m ∷ ms)) (Messages limit ms) e refl
kinds-taken_from o _ k e = refl

kinds-taken_all : (os : List ℕ) (k : Kernel) → kinds_of (taken_all os k) ≡ kinds_of k
kinds-taken_all [] k = refl
kinds-taken_all (o ∷ os) k =
    let c = (object_at k o).content in
    kinds-taken_all os (taken_from o c k) ∙ kinds-taken_from o c k refl

kinds-multi_takes : (n : ℕ) (ps : List (Option (ℕ × ℕ))) (r : Request) (x : ℕ) (k : Kernel) → KindsStay k (multi_takes n ps r x k)
kinds-multi_takes zero ps r x k =
    kinds-waits k (does_not_wait (argument r 3)) x (record { waiting = Multi; objects = table_objects r; mask = 0; opt = 0; table = argument r 0; timeout = argument r 2 })
kinds-multi_takes (suc n) ps r x k = kinds-taken_all (table_objects r) k

pub kinds-multi_checked : (a : Option OsErr) (r : Request) (x : ℕ) (k : Kernel) → KindsStay k (multi_checked a r x k)
kinds-multi_checked (Some err) r x k = refl
kinds-multi_checked None r x k = let ps = polls (table_objects r) k in kinds-multi_takes (taken_count ps) ps r x k
