-- How many micro-steps every service and unit takes at most.
use Rattle.kern_model.proofs.Common.{◌≡◌, ℕ, zero, suc, ◌≤◌, ◌+◌, ◌*◌, List, [], ◌∷◌, ◌++◌, length, sym, ap, subst, Bool, true, false, ◌&&◌, ◌||◌, not, arith, Option, Some, None, map, mul-le-mul, ◌==◌, ◌-◌, ◌^◌, nat_lt, if◌then◌else◌, SemPend, QPend, FlagPend, Request, OsErr, SemOverflow, SchedLocked, Depth, PendAbort, PendAbortSelf, ObjectDeleted, TaskSuspended, TaskResumeSelf, LockOverflow, SchedNotLocked, RoundRobinDisabled, RoundRobinAlone, Waiting, Delay, Obj, TaskSem, TaskQ, Multi, Signal, Answer, Finished, Outcome, Kernel, Task, Content, Count, Messages, Bits, list_at, task_at, prio_of, with_content, with_task, is_ready, is_zero, waits_for_nothing, tick_task, timer_task, idle_task, Block, Lists, Halves, after, in_order, lists_of, plain, Effect, Wait, refused, done, answer, fine, message, woken, wake_cost, wakes_cost, result_of, posted_result, chosen, waits_unless, blocks_on, waits_for, and_then, argument, named_task, renewing, renew_blocks, cost, IsLinked}
use Rattle.kern_model.specs.FlagBits.{has_bit, ready_bits, bits_after}
use Rattle.kern_model.specs.Semaphores.{sem_post_to, sem_post, sem_pend}
use Rattle.kern_model.specs.Queues.{stored, store_error, store_in, q_post_to, q_post, q_pend}
use Rattle.kern_model.specs.Flags.{flag_blocks, flag_blocks_all, flags_become, flag_post, flag_pend_on, flag_pend}
use Rattle.kern_model.specs.Waiters.{aborts, deletes}
use Rattle.kern_model.specs.TaskObjects.{task_counts_up, task_sem_post_to, task_store, task_q_post_to, task_sem_pend_on, task_q_pend_on, task_abort_of, task_abort}
use Rattle.kern_model.specs.Several.{multi_error, multi_checked, multi_takes, table_objects, polls, taken_count}
use Rattle.kern_model.specs.Tasks.{unready_blocks, suspends, task_suspend, resumed_blocks, resumes, task_resume, sched_lock, unlocks, sched_unlock}
use Rattle.kern_model.specs.RoundRobin.{first_in, rotates, spends, round_robin, is_alone, round_robin_yield}
use Rattle.kern_model.specs.Time.{delays, delay_of, time_dly, resumes_delayed, signalled, signals_tick, signals_timer, time_tick}
use Rattle.kern_model.proofs.Halves.Effects.{choice, Leads, leads-and_then}
use Rattle.kern_model.proofs.Halves.Services.{leads-signals_tick, leads-round_robin}
use Rattle.kern_model.proofs.Linked.TaskServices.{table_holds}
use Rattle.kern_model.proofs.Linked.Contents.{length-pend}
use Rattle.kern_model.proofs.Cost.Blocks.{cost-blocks, takes_wake, takes_wakes, wakes_cost-le, block-le, length-in_order-append}
use Rattle.kern_model.proofs.Linked.Renewals.{renew-le}

-- the blocks of an effect take at most n micro-steps
pub record Within (n : ℕ) (k : Kernel) (e : Effect) : Type 0 where
  pub most : length (in_order e.blocks (lists_of k)) ≤ n

pub cost-within : (n : ℕ) (k : Kernel) (e : Effect) → Within n k e → cost e k ≤ n + 2
cost-within n k e w = omega (arith, cost-blocks e k, w.most)

pub within-more : (m n : ℕ) (k : Kernel) (e : Effect) → m ≤ n → Within m k e → Within n k e
within-more m n k e h w = record { most = omega (arith, h, w.most) }

-- without a block
pub within-none : (n : ℕ) (k j : Kernel) (o : Outcome) → Within n k (record { kernel = j; outcome = o; blocks = [] })
within-none n k j o = record { most = omega arith }

pub wake_cost-le : (k : Kernel) → IsLinked k → (x : ℕ) → wake_cost (task_at k x) ≤ 19
wake_cost-le k v x = omega (arith, (v.tasks.each_task x).few, least (is_zero (task_at k x).suspended))
  where
    least : (b : Bool) → (if b then 3 else 0) ≤ 3
    least true = omega arith
    least false = omega arith

-- these are woken: at most 60, each in at most 19
pub within-woken : (f : Task → Finished) (a : Answer) (h : ℕ) (xs : List ℕ) (k : Kernel) → IsLinked k → length xs ≤ 60 → Within 1140 k (woken f a h xs k)
within-woken f a h xs k v l =
    let most : wakes_cost k xs ≤ 19 * length xs = wakes_cost-le k xs 19 (wake_cost-le k v) in
    record { most = omega (arith, takes_wakes k h xs (lists_of k), most, l) }

pub chosen-le : (all : Bool) (xs : List ℕ) → length (chosen all xs) ≤ length xs
chosen-le all [] = omega arith
chosen-le true (x ∷ xs) = omega arith
chosen-le false (x ∷ xs) = omega arith

eight : (n : ℕ) → n ≤ 8 → n * (60 + n + 2) ≤ 560
eight n h = let sum : 60 + n + 2 ≤ 70 = omega (arith, h) in mul-le-mul h sum

pub within-blocks_on : (k : Kernel) → IsLinked k → (x : ℕ) (w : Wait) → length w.objects ≤ 8 → Within 562 k (blocks_on k x w)
within-blocks_on k v x w few =
    record { most = omega (arith, block-le k x 60 w.objects (lists_of k) (length-pend k v), eight (length w.objects) few) }

pub within-waits_unless : (n : ℕ) (k : Kernel) (b : Bool) (e : Effect) → Within n k e → Within n k (waits_unless k b e)
within-waits_unless n k true e h = record { most = omega arith }
within-waits_unless n k false e h = choice (Within n k) (k.lock == 0) e (refused k SchedLocked) h (record { most = omega arith })

pub within-and_then : (m n : ℕ) (k : Kernel) (e : Effect) (f : Kernel → Effect) → Leads k e → Within m k e → Within n e.kernel (f e.kernel) → Within (m + n) k (and_then e f)
within-and_then m n k e f l p q =
    let g = f e.kernel in
    let there : after (in_order e.blocks (lists_of k)) (lists_of k) ≡ lists_of e.kernel = ap (λ (h : Halves). h.forward) l.lists in
    let next : length (in_order g.blocks (after (in_order e.blocks (lists_of k)) (lists_of k))) ≤ n = subst (λ (a : Lists). length (in_order g.blocks a) ≤ n) (sym there) q.most in
    record { most = omega (arith, length-in_order-append e.blocks g.blocks (lists_of k), p.most, next) }

pub within-renewing_by : (n : ℕ) (place : List ℕ → ℕ) (k : Kernel) (e : Effect) → Leads k e → length (in_order (renew_blocks place e.kernel) (lists_of e.kernel)) ≤ 30744 → Within n k e → Within (n + 30744) k (renewing place e)
within-renewing_by n place k e l few p =
    let bs = renew_blocks place e.kernel in
    let there : after (in_order e.blocks (lists_of k)) (lists_of k) ≡ lists_of e.kernel = ap (λ (h : Halves). h.forward) l.lists in
    let next : length (in_order bs (after (in_order e.blocks (lists_of k)) (lists_of k))) ≤ 30744 = subst (λ (a : Lists). length (in_order bs a) ≤ 30744) (sym there) few in
    record { most = omega (arith, length-in_order-append e.blocks bs (lists_of k), p.most, next) }

pub within-renewing : (n : ℕ) (place : List ℕ → ℕ) (k : Kernel) (e : Effect) → Leads k e → IsLinked e.kernel → Within n k e → Within (n + 30744) k (renewing place e)
within-renewing n place k e l v p = within-renewing_by n place k e l (renew-le place e.kernel v) p

-- flags: at most 60 waiters, each passed in 1 micro-step and woken in at most 19
flag_block-le : (o : Option ℕ) (h x : ℕ) (k : Kernel) → IsLinked k → (l : Lists) → length (in_order (flag_blocks o h x k) l) ≤ 20
flag_block-le None h x k v l = omega arith
flag_block-le (Some ready) h x k v l = omega (arith, takes_wake k h x l, wake_cost-le k v x)

flag_blocks-le : (bits h : ℕ) (xs : List ℕ) (k : Kernel) → IsLinked k → (l : Lists) → length (in_order (flag_blocks_all bits h xs k) l) ≤ 20 * length xs
flag_blocks-le bits h [] k v l = omega arith
flag_blocks-le bits h (x ∷ xs) k v l =
    let o = ready_bits bits (task_at k x).mask (task_at k x).opt in
    omega (arith, length-in_order-append (flag_blocks o h x k) (flag_blocks_all bits h xs k) l, flag_block-le o h x k v l, flag_blocks-le bits h xs k v (after (in_order (flag_blocks o h x k) l) l))

pub within-flags_become : (bits o h : ℕ) (k : Kernel) → IsLinked k → Within 1200 k (flags_become bits o h k)
within-flags_become bits o h k v =
    record { most = omega (arith, flag_blocks-le bits h (list_at k.pend o) k v (lists_of k), length-pend k v o) }

-- rows without a renewal of priorities

pub within-sem_post : (c : Content) (r : Request) (h : ℕ) (k : Kernel) → IsLinked k → Within 1198 k (sem_post c r h k)
within-sem_post (Count n) r h k v = by_waiters (list_at k.pend (argument r 0)) (length-pend k v (argument r 0))
  where
    by_waiters : (xs : List ℕ) → length xs ≤ 60 → Within 1198 k (sem_post_to xs n (argument r 0) (argument r 1) h k)
    by_waiters [] l =
        choice (Within 1198 k) (n == 2 ^ 32 - 1) (refused k SemOverflow) (done (with_content k (argument r 0) (Count (n + 1))) (fine (n + 1))) (record { most = omega arith }) (record { most = omega arith })
    by_waiters (x ∷ xs) l =
        let all = argument r 1 == 2 in
        let e = woken (posted_result (argument r 0) (fine 0)) (fine 0) h (chosen all (x ∷ xs)) k in
        within-more 1140 1198 k e (omega arith) (within-woken (posted_result (argument r 0) (fine 0)) (fine 0) h (chosen all (x ∷ xs)) k v (omega (arith, chosen-le all (x ∷ xs), l)))
within-sem_post _ r h k v = record { most = omega arith }

-- the caller waits for at most 8 objects, unless it can not
pub within-pends : (k : Kernel) → IsLinked k → (x : ℕ) (b : Bool) (w : Wait) → length w.objects ≤ 8 → Within 1198 k (waits_unless k b (blocks_on k x w))
within-pends k v x b w few =
    within-waits_unless 1198 k b (blocks_on k x w) (within-more 562 1198 k (blocks_on k x w) (omega arith) (within-blocks_on k v x w few))

pub within-sem_pend : (c : Content) (r : Request) (x : ℕ) (k : Kernel) → IsLinked k → Within 1198 k (sem_pend c r x k)
within-sem_pend (Count zero) r x k v = within-pends k v x (argument r 2 == 1) (waits_for (Obj SemPend) (argument r 0 ∷ []) (argument r 1)) (omega arith)
within-sem_pend (Count (suc n)) r x k v = record { most = omega arith }
within-sem_pend _ r x k v = record { most = omega arith }

pub within-store_in : (e : Option OsErr) (o limit : ℕ) (ms : List (ℕ × ℕ)) (k : Kernel) → Within 1198 k (store_in e o limit ms k)
within-store_in (Some err) o limit ms k = record { most = omega arith }
within-store_in None o limit ms k = record { most = omega arith }

pub within-q_post : (c : Content) (r : Request) (h : ℕ) (k : Kernel) → IsLinked k → Within 1198 k (q_post c r h k)
within-q_post (Messages limit ms) r h k v = by_waiters (list_at k.pend (argument r 0)) (length-pend k v (argument r 0))
  where
    by_waiters : (xs : List ℕ) → length xs ≤ 60 → Within 1198 k (q_post_to xs limit ms r h k)
    by_waiters [] l = within-store_in (store_error (length ms) limit k.free) (argument r 0) limit (stored (has_bit (argument r 3) 1) (argument r 1, argument r 2) ms) k
    by_waiters (x ∷ xs) l =
        let all = has_bit (argument r 3) 2 in
        let f = posted_result (argument r 0) (message (argument r 1) (argument r 2)) in
        within-more 1140 1198 k (woken f (fine 0) h (chosen all (x ∷ xs)) k) (omega arith) (within-woken f (fine 0) h (chosen all (x ∷ xs)) k v (omega (arith, chosen-le all (x ∷ xs), l)))
within-q_post _ r h k v = record { most = omega arith }

pub within-q_pend : (c : Content) (r : Request) (x : ℕ) (k : Kernel) → IsLinked k → Within 1198 k (q_pend c r x k)
within-q_pend (Messages limit []) r x k v = within-pends k v x (argument r 2 == 1) (waits_for (Obj QPend) (argument r 0 ∷ []) (argument r 1)) (omega arith)
within-q_pend (Messages limit (m ∷ ms)) r x k v = record { most = omega arith }
within-q_pend _ r x k v = record { most = omega arith }

pub within-flag_post : (c : Content) (r : Request) (h : ℕ) (k : Kernel) → IsLinked k → Within 1200 k (flag_post c r h k)
within-flag_post (Bits bits) r h k v = within-flags_become (bits_after bits (argument r 1) (argument r 2)) (argument r 0) h k v
within-flag_post _ r h k v = record { most = omega arith }

pub within-flag_pend_on : (o : Option ℕ) (bits : ℕ) (r : Request) (x : ℕ) (k : Kernel) → IsLinked k → Within 1198 k (flag_pend_on o bits r x k)
within-flag_pend_on None bits r x k v =
    within-pends k v x (has_bit (argument r 3) 8) (record { waiting = Obj FlagPend; objects = argument r 0 ∷ []; mask = argument r 1; opt = argument r 3; table = 0; timeout = argument r 2 }) (omega arith)
within-flag_pend_on (Some ready) bits r x k v = record { most = omega arith }

pub within-flag_pend : (c : Content) (r : Request) (x : ℕ) (k : Kernel) → IsLinked k → Within 1198 k (flag_pend c r x k)
within-flag_pend (Bits bits) r x k v = within-flag_pend_on (ready_bits bits (argument r 1) (argument r 3)) bits r x k v
within-flag_pend _ r x k v = record { most = omega arith }

pub within-aborts : (xs : List ℕ) (h : ℕ) (k : Kernel) → IsLinked k → length xs ≤ 60 → Within 1140 k (aborts xs h k)
within-aborts [] h k v l = record { most = omega arith }
within-aborts (x ∷ xs) h k v l = within-woken (result_of (answer PendAbort 0)) (fine (length (x ∷ xs))) h (x ∷ xs) k v l

pub within-deleted : (xs : List ℕ) (o h : ℕ) (k : Kernel) → IsLinked k → length xs ≤ 60 → Within 1140 k (deletes true xs o h k)
within-deleted xs o h k v l = record { most = Within.most (within-woken (result_of (answer ObjectDeleted 0)) (fine (length xs)) h xs k v l) }

pub within-deletes : (all : Bool) (xs : List ℕ) (o h : ℕ) (k : Kernel) → IsLinked k → length xs ≤ 60 → Within 1140 k (deletes all xs o h k)
within-deletes false (x ∷ xs) o h k v l = record { most = omega arith }
within-deletes false [] o h k v l = within-deleted [] o h k v l
within-deletes true xs o h k v l = within-deleted xs o h k v l

-- one task is woken
pub within-one : (f : Task → Finished) (a : Answer) (h x : ℕ) (k : Kernel) → IsLinked k → Within 1198 k (woken f a h (x ∷ []) k)
within-one f a h x k v = within-more 1140 1198 k (woken f a h (x ∷ []) k) (omega arith) (within-woken f a h (x ∷ []) k v (omega arith))

pub within-task_counts_up : (n x : ℕ) (k : Kernel) → Within 1198 k (task_counts_up n x k)
within-task_counts_up n x k =
    choice (Within 1198 k) (n == 2 ^ 32 - 1) (refused k SemOverflow) (done (with_task k x (λ t. record t { count = n + 1 })) (fine (n + 1))) (record { most = omega arith }) (record { most = omega arith })

pub within-task_sem_post_to : (w : Waiting) (x h : ℕ) (k : Kernel) → IsLinked k → Within 1198 k (task_sem_post_to w x h k)
within-task_sem_post_to TaskSem x h k v = within-one (result_of (fine 0)) (fine 0) h x k v
within-task_sem_post_to _ x h k v = within-task_counts_up (task_at k x).count x k

pub within-task_store : (e : Option OsErr) (x : ℕ) (ms : List (ℕ × ℕ)) (k : Kernel) → Within 1198 k (task_store e x ms k)
within-task_store (Some err) x ms k = record { most = omega arith }
within-task_store None x ms k = record { most = omega arith }

pub within-task_q_post_to : (w : Waiting) (r : Request) (x h : ℕ) (k : Kernel) → IsLinked k → Within 1198 k (task_q_post_to w r x h k)
within-task_q_post_to TaskQ r x h k v = within-one (result_of (message (argument r 1) (argument r 2))) (fine 0) h x k v
within-task_q_post_to _ r x h k v =
    let t = task_at k x in
    within-task_store (store_error (length t.messages) t.limit k.free) x (stored (has_bit (argument r 3) 1) (argument r 1, argument r 2) t.messages) k

pub within-task_sem_pend_on : (n : ℕ) (r : Request) (x : ℕ) (k : Kernel) → IsLinked k → Within 1198 k (task_sem_pend_on n r x k)
within-task_sem_pend_on zero r x k v = within-pends k v x (argument r 1 == 1) (waits_for TaskSem [] (argument r 0)) (omega arith)
within-task_sem_pend_on (suc n) r x k v = record { most = omega arith }

pub within-task_q_pend_on : (ms : List (ℕ × ℕ)) (r : Request) (x : ℕ) (k : Kernel) → IsLinked k → Within 1198 k (task_q_pend_on ms r x k)
within-task_q_pend_on [] r x k v = within-pends k v x (argument r 1 == 1) (waits_for TaskQ [] (argument r 0)) (omega arith)
within-task_q_pend_on (m ∷ ms) r x k v = record { most = omega arith }

pub within-task_abort_of : (b : Bool) (x h : ℕ) (k : Kernel) → IsLinked k → Within 1198 k (task_abort_of b x h k)
within-task_abort_of false x h k v = record { most = omega arith }
within-task_abort_of true x h k v = within-one (result_of (answer PendAbort 0)) (fine 1) h x k v

pub within-task_abort : (waits : Waiting → Bool) (r : Request) (x h : ℕ) (k : Kernel) → IsLinked k → Within 1198 k (task_abort waits r x h k)
within-task_abort waits r x h k v =
    let y = named_task r x in
    choice (Within 1198 k) (y == x) (refused k PendAbortSelf) (task_abort_of (waits (task_at k y).waiting) y h k) (record { most = omega arith }) (within-task_abort_of (waits (task_at k y).waiting) y h k v)

-- polls take one micro-step each, at most 8
length-polls : (os : List ℕ) (bs : List Block) (l : Lists) → length (in_order (map (λ o. plain) os ++ bs) l) ≡ length os + length (in_order bs l)
length-polls [] bs l = omega arith
length-polls (o ∷ os) bs l = omega (arith, length-polls os bs l)

pub within-multi_takes : (n : ℕ) (ps : List (Option (ℕ × ℕ))) (r : Request) (x : ℕ) (k : Kernel) → IsLinked k → length (table_objects r) ≤ 8 → Within 562 k (multi_takes n ps r x k)
within-multi_takes zero ps r x k v few =
    let w : Wait = record { waiting = Multi; objects = table_objects r; mask = 0; opt = 0; table = argument r 0; timeout = argument r 2 } in
    within-waits_unless 562 k (argument r 3 == 1) (blocks_on k x w) (within-blocks_on k v x w few)
within-multi_takes (suc n) ps r x k v few = record { most = omega arith }

pub within-multi_checked : (e : Option OsErr) (r : Request) (x : ℕ) (k : Kernel) → multi_error r k ≡ e → IsLinked k → Within 1198 k (multi_checked e r x k)
within-multi_checked (Some err) r x k e v = record { most = omega arith }
within-multi_checked None r x k e v =
    let ps = polls (table_objects r) k in
    let f = multi_takes (taken_count ps) ps r x k in
    let few = (table_holds r k e).few in
    let rest = within-multi_takes (taken_count ps) ps r x k v few in
    record { most = omega (arith, length-polls (table_objects r) f.blocks (lists_of k), rest.most, few) }

-- tasks

pub within-suspends : (own : Bool) (x : ℕ) (k : Kernel) → Within 1198 k (suspends own x k)
within-suspends own x k = by_case (is_ready (task_at k x))
  where
    by_case : (b : Bool) → Within 1198 k (record { kernel = (suspends own x k).kernel; outcome = (suspends own x k).outcome; blocks = unready_blocks b x (task_at k x).prio })
    by_case true = record { most = omega arith }
    by_case false = record { most = omega arith }

pub within-task_suspend : (r : Request) (x : ℕ) (k : Kernel) → Within 1198 k (task_suspend r x k)
within-task_suspend r x k =
    let y = named_task r x in
    choice (Within 1198 k) ((y == x) && nat_lt 0 k.lock) (refused k SchedLocked) (if (task_at k y).suspended == 250 then refused k Depth else suspends (y == x) y k) (record { most = omega arith })
    (choice (Within 1198 k) ((task_at k y).suspended == 250) (refused k Depth) (suspends (y == x) y k) (record { most = omega arith }) (within-suspends (y == x) y k))

resumed-le : (b : Bool) (n x p h : ℕ) (l : Lists) → length (in_order (resumed_blocks b n x p h) l) ≤ 3
resumed-le false n x p h l = omega arith
resumed-le true zero x p h l = omega arith
resumed-le true (suc n) x p h l = omega arith

pub within-resumes : (n x h : ℕ) (k : Kernel) → Within 1198 k (resumes n x h k)
within-resumes zero x h k = record { most = omega arith }
within-resumes (suc n) x h k =
    let t = task_at k x in
    record { most = omega (arith, resumed-le (waits_for_nothing t.waiting) n x t.prio h (lists_of k)) }

pub within-task_resume : (r : Request) (x h : ℕ) (k : Kernel) → Within 1198 k (task_resume r x h k)
within-task_resume r x h k =
    let y = named_task r x in
    choice (Within 1198 k) (y == x) (refused k TaskResumeSelf) (resumes (task_at k y).suspended y h k) (record { most = omega arith }) (within-resumes (task_at k y).suspended y h k)

pub within-sched_lock : (k : Kernel) → Within 1198 k (sched_lock k)
within-sched_lock k =
    choice (Within 1198 k) (k.lock == 250) (refused k LockOverflow) (done (record k { lock = k.lock + 1 }) (fine (k.lock + 1))) (record { most = omega arith }) (record { most = omega arith })

pub within-unlocks : (n : ℕ) (k : Kernel) → Within 1198 k (unlocks n k)
within-unlocks zero k = record { most = omega arith }
within-unlocks (suc n) k = record { most = omega arith }

pub within-sched_unlock : (x : ℕ) (k : Kernel) → Within 1198 k (sched_unlock x k)
within-sched_unlock x k =
    choice (Within 1198 k) ((k.lock == 0) || ((k.lock == 1) && (x == timer_task))) (refused k SchedNotLocked) (unlocks (k.lock - 1) k) (record { most = omega arith }) (within-unlocks (k.lock - 1) k)

-- round robin and time

pub within-rotates : (x p : ℕ) (k : Kernel) → Within 5 k (rotates x p k)
within-rotates x p k = record { most = omega arith }

pub within-spends : (xs : List ℕ) (p : ℕ) (k : Kernel) → Within 5 k (spends xs p k)
within-spends [] p k = record { most = omega arith }
within-spends (y ∷ []) p k = record { most = omega arith }
within-spends (y ∷ z ∷ zs) p k =
    let j = with_task k y (λ t. record t { quantum = t.quantum - 1 }) in
    choice (Within 5 k) ((task_at j y).quantum == 0) (rotates y p j) (done j (fine 0)) (record { most = omega arith }) (record { most = omega arith })

pub within-round_robin : (c : ℕ) (k : Kernel) → Within 5 k (round_robin c k)
within-round_robin c k =
    choice (Within 5 k) (k.settings.round_robin && ((k.lock == 0) && not (first_in (list_at k.ready c) == idle_task))) (spends (list_at k.ready c) c k) (done k (fine 0))
    (within-spends (list_at k.ready c) c k) (record { most = omega arith })

pub within-round_robin_yield : (x : ℕ) (k : Kernel) → Within 1198 k (round_robin_yield x k)
within-round_robin_yield x k =
    let alone = is_alone (list_at k.ready (prio_of k x)) in
    let last : Effect = if alone then refused k RoundRobinAlone else rotates x (prio_of k x) k in
    let rest : Effect = if not k.settings.round_robin then refused k RoundRobinDisabled else last in
    choice (Within 1198 k) (not (k.lock == 0)) (refused k SchedLocked) rest (record { most = omega arith })
    (choice (Within 1198 k) (not k.settings.round_robin) (refused k RoundRobinDisabled) last (record { most = omega arith })
    (choice (Within 1198 k) alone (refused k RoundRobinAlone) (rotates x (prio_of k x) k) (record { most = omega arith }) (within-more 5 1198 k (rotates x (prio_of k x) k) (omega arith) (within-rotates x (prio_of k x) k))))

pub within-delays : (n x : ℕ) (k : Kernel) → IsLinked k → Within 1198 k (delays n x k)
within-delays zero x k v = record { most = omega arith }
within-delays (suc n) x k v = within-more 562 1198 k (blocks_on k x (waits_for Delay [] (suc n))) (omega arith) (within-blocks_on k v x (waits_for Delay [] (suc n)) (omega arith))

pub within-time_dly : (r : Request) (x : ℕ) (k : Kernel) → IsLinked k → Within 1198 k (time_dly r x k)
within-time_dly r x k v = choice (Within 1198 k) (k.lock == 0) (delays (delay_of r k.ticks) x k) (refused k SchedLocked) (within-delays (delay_of r k.ticks) x k v) (record { most = omega arith })

pub within-resumes_delayed : (w : Waiting) (x h : ℕ) (k : Kernel) → IsLinked k → Within 1198 k (resumes_delayed w x h k)
within-resumes_delayed Delay x h k v = within-one (result_of (fine 0)) (if is_zero (task_at k x).suspended then fine 0 else answer TaskSuspended 0) h x k v
within-resumes_delayed _ x h k v = record { most = omega arith }

pub within-signalled : (w : Waiting) (x h : ℕ) (k : Kernel) → Within 3 k (signalled w x h k)
within-signalled Signal x h k = record { most = omega arith }
within-signalled _ x h k = record { most = omega arith }

pub within-signals_tick : (h : ℕ) (k : Kernel) → Within 3 k (signals_tick h k)
within-signals_tick h k = record { most = Within.most (within-signalled (task_at k tick_task).waiting tick_task h (record k { tick_signals = k.tick_signals + 1 })) }

pub within-signals_timer : (h : ℕ) (k : Kernel) → Within 3 k (signals_timer h k)
within-signals_timer h k =
    let j : Kernel = record k { tick_calls = 0; timer_signals = k.timer_signals + 1 } in
    choice (Within 3 k) (nat_lt (k.tick_calls + 1) k.settings.tmr_div) (done (record k { tick_calls = k.tick_calls + 1 }) (fine 0)) (signalled (task_at k timer_task).waiting timer_task h j)
    (record { most = omega arith }) (record { most = Within.most (within-signalled (task_at k timer_task).waiting timer_task h j) })

pub within-time_tick : (c h : ℕ) (k : Kernel) → Within 1198 k (time_tick c h k)
within-time_tick c h k =
    let e = signals_tick h k in
    let f = and_then e (round_robin c) in
    let first = within-and_then 3 5 k e (round_robin c) (leads-signals_tick h k) (within-signals_tick h k) (within-round_robin c e.kernel) in
    within-more (3 + 5 + 3) 1198 k (time_tick c h k) (omega arith)
    (within-and_then (3 + 5) 3 k f (signals_timer h) (leads-and_then k e (round_robin c) (leads-signals_tick h k) (leads-round_robin c e.kernel)) first (within-signals_timer h f.kernel))
