-- The handler of deferred posts is no task: it stands in no list, also in the middle of a whole step.
use Rattle.std.specs.Prelude.{take, insert, length, replicate, if◌then◌else◌, ◌==◌, ◌&&◌, ◌||◌, ◌-◌, ◌^◌, nat_lt, not}
use Rattle.std.proofs.Common.{◌≡◌, ◌≢◌, ℕ, zero, suc, ◌+◌, List, [], ◌∷◌, ◌++◌, Bool, true, false, Option, Some, None, refl, sym, ap, ◌∙◌, subst, inl, inr, arith, ne_eqb, length-set}
use Rattle.std.proofs.lemmas.Bool.{false≢true}
use Rattle.std.proofs.lemmas.Bool.Decides.{eqb_tells, leb_tells}
use Rattle.std.proofs.lemmas.List.{get_or_past}
use Rattle.kern_base.specs.declared.services.Service.{Service}
use Rattle.kern_base.specs.declared.services.Service.TheVariants.{SemPost, QPost, FlagPost, TaskSemPost, TaskQPost, SemPend, QPend, FlagPend, TaskSemPend, TaskQPend, SchedLock, SchedUnlock, TimeGet, TimeDly, TimeDlyResume, SemPendAbort, QPendAbort, FlagPendAbort, TaskSemPendAbort, TaskQPendAbort, SemDel, QDel, FlagDel, TaskSuspend, TaskResume, TimeTick, RoundRobinYield, TmrStart, TmrStop, TmrRemainGet, TmrStateGet, TmrDel}
use Rattle.kern_base.specs.Services.{is_post, names_task}
use Rattle.kern_base.specs.declared.requests.Request.{Request}
use Rattle.kern_base.specs.declared.errors.OsErr.{OsErr}
use Rattle.kern_base.specs.declared.errors.OsErr.TheVariants.{SemOverflow, SchedLocked, SchedNotLocked, LockOverflow, PendAbortSelf, CallUnknown, Depth, TaskResumeSelf, RoundRobinDisabled, RoundRobinAlone}
use Rattle.kern_base.specs.declared.outcomes.Waiting.{Waiting}
use Rattle.kern_base.specs.declared.outcomes.Waiting.TheVariants.{No, Delay, Obj, TaskSem, TaskQ, Multi, Signal}
use Rattle.kern_model.specs.Call.{Call}
use Rattle.kern_model.specs.State.{Kernel, Content, Count, Messages, Bits, Held, Timed, Timer, TimerState, Stopped, Running, Completed, count_of, is_ready, list_at, object_at, prio_of, task_at, update_list, waits_for_nothing, with_content, with_task, without, nesting_limit, tick_task, timer_task, idle_task}
use Rattle.kern_model.specs.Micro.{Micro, Plain, JoinForward, JoinBack, LeaveForward, LeaveBack, Mark, Ready, Pend, Block, Lists, Halves, changed, changed_all, in_order, join_place, after, plain, wait, wait_place, whole, lists_of}
use Rattle.kern_model.specs.Effect.{Effect, Wait, refused, done, fine, chosen, waits_unless, blocks_on, waits_for, leave_blocks, ready_blocks, wake_blocks, wakes_blocks, wait_blocks, block_blocks}
use Rattle.kern_model.specs.Checks.{argument, call_error, named_task}
use Rattle.kern_model.specs.FlagBits.{bits_after, ready_bits}
use Rattle.kern_model.specs.Flags.{flag_blocks, flag_blocks_all, flag_pend, flag_pend_on, flag_post}
use Rattle.kern_model.specs.Options.{aborts_all, deletes_always, does_not_wait, flags_do_not_wait, hands_to_all, stores_first}
use Rattle.kern_model.specs.Queues.{q_pend, q_post, q_post_to, store_error, store_in, stored}
use Rattle.kern_model.specs.TaskObjects.{task_abort, task_abort_of, waits_for_queue, waits_for_semaphore, task_q_pend_on, task_q_post_to, task_sem_pend_on, task_sem_post_to, task_store}
use Rattle.kern_model.specs.Semaphores.{sem_post_to, sem_post, sem_pend}
use Rattle.kern_model.specs.Tasks.{resumed_blocks, resumes, sched_lock, sched_unlock, suspends, task_resume, task_suspend, unlocks, unready_blocks}
use Rattle.kern_model.specs.RoundRobin.{first_in, is_alone, rotates, round_robin, round_robin_yield, spends}
use Rattle.kern_model.specs.Time.{delay_of, delays, resumes_delayed, signalled, signals_tick, signals_timer, time_dly, time_tick}
use Rattle.kern_model.specs.Timers.{tmr_del, tmr_remain_get, tmr_start, tmr_state_get, tmr_stop, tmr_stop_in}
use Rattle.kern_model.specs.Waiters.{aborts, delete, deletes, pend_abort}
use Rattle.served.specs.Served.{program_serves}
use Rattle.kern_model.specs.Services.{effect, after_checks, perform, blocks, half}
use Rattle.kern_model.specs.Valid.{IsLinked}
use Rattle.kern_model.proofs.Lemmas.{count-insert, count-without_other, count-without_same, list-inside, list-other, application-pend, inside-ready, choice}
use Rattle.kernel_records.proofs.TaskCalls.{named-alive}
use Rattle.machine_core.specs.LookView.{AreWithoutHandler, HasNoHandler}

-- One list of many.

abbrev Free : List (List ℕ) → Type 0
Free lists = (q : ℕ) → count_of 63 (list_at lists q) ≡ 0

free-update : (lists : List (List ℕ)) (i : ℕ) (f : List ℕ → List ℕ) → count_of 63 (f (list_at lists i)) ≡ 0 → Free lists → Free (update_list lists i f)
free-update lists i f new h q =
    elim (eqb_tells i q) [
      | inl e ↦ subst (λ y. count_of 63 (list_at (update_list lists i f) y) ≡ 0) e.1 (elim (leb_tells (i + 1) (length lists)) [
        | inl l ↦ ap (λ xs. count_of 63 xs) (list-inside f lists i (omega (arith, l.1))) ∙ new
        | inr g ↦
            let long : length (update_list lists i f) ≡ length lists = length-set lists i (f (list_at lists i)) in
            ap (λ xs. count_of 63 xs) (get_or_past (update_list lists i f) i [] (omega (arith, g.1, long)))
      ])
      | inr e ↦ ap (λ xs. count_of 63 xs) (list-other f lists i q e.1) ∙ h q
    ]

free-join : (lists : List (List ℕ)) (p i x : ℕ) → x ≢ 63 → Free lists → Free (update_list lists p (λ xs. insert xs i x))
free-join lists p i x other h =
    let joined = count-insert 63 x (list_at lists p) i in
    let no : (x == 63) ≡ false = ne_eqb x 63 other in
    free-update lists p (λ xs. insert xs i x) (rw (joined, no, h p) refl) h

free-leave : (lists : List (List ℕ)) (p x : ℕ) → Free lists → Free (update_list lists p (without x))
free-leave lists p x h =
    free-update lists p (without x)
    (elim (eqb_tells x 63) [
      | inl e ↦ subst (λ y. count_of y (without x (list_at lists p)) ≡ 0) e.1 (count-without_same x (list_at lists p))
      | inr e ↦ count-without_other 63 x (list_at lists p) (λ d. e.1 (sym d)) ∙ h p
    ])
    h

-- Micro-steps in which the handler joins no list.

abbrev pub IsApart : Micro → Type 0
IsApart (JoinForward c x i) = x ≢ 63
IsApart (JoinBack c x i) = x ≢ 63
IsApart m = Unit {0}

abbrev pub AreApart : List Micro → Type 0
AreApart [] = Unit {0}
AreApart (m ∷ ms) = IsApart m × AreApart ms

without-changed : (m : Micro) (h : Halves) → IsApart m → HasNoHandler h → HasNoHandler (changed m h)
without-changed Plain h a w = w
without-changed (JoinForward (Ready p) x i) h a w = record { forward = record { ready = free-join h.forward.ready p i x a w.forward.ready; pend = w.forward.pend }; back = w.back }
without-changed (JoinForward (Pend o) x i) h a w = record { forward = record { ready = w.forward.ready; pend = free-join h.forward.pend o i x a w.forward.pend }; back = w.back }
without-changed (JoinBack (Ready p) x i) h a w = record { forward = w.forward; back = record { ready = free-join h.back.ready p i x a w.back.ready; pend = w.back.pend } }
without-changed (JoinBack (Pend o) x i) h a w = record { forward = w.forward; back = record { ready = w.back.ready; pend = free-join h.back.pend o i x a w.back.pend } }
without-changed (LeaveForward (Ready p) x) h a w = record { forward = record { ready = free-leave h.forward.ready p x w.forward.ready; pend = w.forward.pend }; back = w.back }
without-changed (LeaveForward (Pend o) x) h a w = record { forward = record { ready = w.forward.ready; pend = free-leave h.forward.pend o x w.forward.pend }; back = w.back }
without-changed (LeaveBack (Ready p) x) h a w = record { forward = w.forward; back = record { ready = free-leave h.back.ready p x w.back.ready; pend = w.back.pend } }
without-changed (LeaveBack (Pend o) x) h a w = record { forward = w.forward; back = record { ready = w.back.ready; pend = free-leave h.back.pend o x w.back.pend } }
without-changed (Mark p) h a w = record { forward = w.forward; back = w.back }

without-all : (ms : List Micro) (h : Halves) → AreApart ms → HasNoHandler h → HasNoHandler (changed_all ms h)
without-all [] h a w = w
without-all (m ∷ ms) h a w = without-all ms (changed m h) a.1 (without-changed m h a.0 w)

apart-take : (i : ℕ) (ms : List Micro) → AreApart ms → AreApart (take i ms)
apart-take zero [] a = tt
apart-take zero (m ∷ ms) a = tt
apart-take (suc i) [] a = tt
apart-take (suc i) (m ∷ ms) a = (a.0, apart-take i ms a.1)

apart-append : (ms ns : List Micro) → AreApart ms → AreApart ns → AreApart (ms ++ ns)
apart-append [] ns a b = b
apart-append (m ∷ ms) ns a b = (a.0, apart-append ms ns a.1 b)

apart-plains : (i : ℕ) → AreApart (replicate i Plain)
apart-plains zero = tt
apart-plains (suc i) = (tt, apart-plains i)

-- Blocks of such micro-steps.

abbrev pub AreBlocks : List Block → Type 0
AreBlocks [] = Unit {0}
AreBlocks (b ∷ bs) = ((l : Lists) → AreApart (b l)) × AreBlocks bs

apart-in_order : (bs : List Block) (l : Lists) → AreBlocks bs → AreApart (in_order bs l)
apart-in_order [] l a = tt
apart-in_order (b ∷ bs) l a = apart-append (b l) (in_order bs (after (b l) l)) (a.0 l) (apart-in_order bs (after (b l) l) a.1)

pub blocks-append : (bs cs : List Block) → AreBlocks bs → AreBlocks cs → AreBlocks (bs ++ cs)
blocks-append [] cs a b = b
blocks-append (x ∷ bs) cs a b = (a.0, blocks-append bs cs a.1 b)

-- a task is woken

blocks-leave : (x : ℕ) (os : List ℕ) → AreBlocks (leave_blocks x os)
blocks-leave x [] = tt
blocks-leave x (o ∷ os) = (λ l. (tt, (tt, tt)), blocks-leave x os)

blocks-ready : (suspended x p compared : ℕ) → x ≢ 63 → AreBlocks (ready_blocks suspended x p compared)
blocks-ready zero x p compared other = (λ l. (other, (other, (tt, tt))), tt)
blocks-ready (suc n) x p compared other = tt

blocks-wake : (k : Kernel) (compared x : ℕ) → x ≢ 63 → AreBlocks (wake_blocks k compared x)
blocks-wake k compared x other =
    let t = task_at k x in
    blocks-append (leave_blocks x t.objects) (ready_blocks t.suspended x t.prio compared) (blocks-leave x t.objects) (blocks-ready t.suspended x t.prio compared other)

-- a number that stands nowhere in a list is not its first, and stands nowhere behind it
first-other : (x : ℕ) (xs : List ℕ) → count_of 63 (x ∷ xs) ≡ 0 → x ≢ 63
first-other x xs none e = let here : (x == 63) ≡ true = rw e refl in let one : 1 + count_of 63 xs ≡ 0 = rw here at none in absurd (omega (arith, one))

rest-none : (x : ℕ) (xs : List ℕ) → count_of 63 (x ∷ xs) ≡ 0 → count_of 63 xs ≡ 0
rest-none x xs none = omega (arith, none)

pub blocks-wakes : (k : Kernel) (compared : ℕ) (xs : List ℕ) → count_of 63 xs ≡ 0 → AreBlocks (wakes_blocks k compared xs)
blocks-wakes k compared [] none = tt
blocks-wakes k compared (x ∷ xs) none =
    blocks-append (wake_blocks k compared x) (wakes_blocks k compared xs) (blocks-wake k compared x (first-other x xs none)) (blocks-wakes k compared xs (rest-none x xs none))

-- the caller blocks

pub apart-wait : (prio : ℕ → ℕ) (x p o : ℕ) → x ≢ 63 → (l : Lists) → AreApart (wait prio x p o l)
apart-wait prio x p o other l =
    let i = wait_place prio p (list_at l.pend o) in
    apart-append (replicate i Plain) (JoinForward (Pend o) x i ∷ JoinBack (Pend o) x i ∷ []) (apart-plains i) (other, (other, tt))

blocks-waits : (prio : ℕ → ℕ) (x p : ℕ) (os : List ℕ) → x ≢ 63 → AreBlocks (wait_blocks prio x p os)
blocks-waits prio x p [] other = tt
blocks-waits prio x p (o ∷ os) other = (apart-wait prio x p o other, blocks-waits prio x p os other)

blocks-block : (k : Kernel) (x : ℕ) (os : List ℕ) → x ≢ 63 → AreBlocks (block_blocks k x os)
blocks-block k x os other = (λ l. (tt, (tt, tt)), blocks-waits (prio_of k) x (prio_of k x) os other)

-- The services that are served.

abbrev pub Apart : Effect → Type 0
Apart e = AreBlocks e.blocks

chosen-none : (all : Bool) (xs : List ℕ) → count_of 63 xs ≡ 0 → count_of 63 (chosen all xs) ≡ 0
chosen-none true [] none = refl
chosen-none false [] none = refl
chosen-none true (x ∷ xs) none = none
chosen-none false (x ∷ xs) none = omega (arith, none)

apart-sem_post_to : (xs : List ℕ) (n o opt h : ℕ) (k : Kernel) → count_of 63 xs ≡ 0 → Apart (sem_post_to xs n o opt h k)
apart-sem_post_to [] n o opt h k none = choice Apart (n == 2 ^ 32 - 1) (refused k SemOverflow) (done (with_content k o (Count (n + 1))) (fine (n + 1))) tt tt
apart-sem_post_to (x ∷ xs) n o opt h k none = blocks-wakes k h (chosen (opt == 2) (x ∷ xs)) (chosen-none (opt == 2) (x ∷ xs) none)

apart-sem_post : (c : Content) (r : Request) (h : ℕ) (k : Kernel) → IsLinked k → Apart (sem_post c r h k)
apart-sem_post (Count n) r h k v = apart-sem_post_to (list_at k.pend (argument r 0)) n (argument r 0) (argument r 1) h k (application-pend k v (argument r 0) 63 (omega arith))
apart-sem_post (Messages limit ms) r h k v = tt
apart-sem_post (Bits bits) r h k v = tt
apart-sem_post (Held owner nesting) r h k v = tt
apart-sem_post (Timed t) r h k v = tt

apart-tail : (k : Kernel) (b : Bool) (e : Effect) → Apart e → Apart (waits_unless k b e)
apart-tail k true e p = tt
apart-tail k false e p = choice Apart (k.lock == 0) e (refused k SchedLocked) p tt

apart-sem_pend : (c : Content) (r : Request) (x : ℕ) (k : Kernel) → x ≢ 63 → Apart (sem_pend c r x k)
apart-sem_pend (Count zero) r x k other =
    apart-tail k (argument r 2 == 1) (blocks_on k x (waits_for (Obj SemPend) (argument r 0 ∷ []) (argument r 1))) (blocks-block k x (argument r 0 ∷ []) other)
apart-sem_pend (Count (suc n)) r x k other = tt
apart-sem_pend (Messages limit ms) r x k other = tt
apart-sem_pend (Bits bits) r x k other = tt
apart-sem_pend (Held owner nesting) r x k other = tt
apart-sem_pend (Timed t) r x k other = tt

-- a queue

apart-store_in : (e : Option OsErr) (o limit : ℕ) (ms : List (ℕ × ℕ)) (k : Kernel) → Apart (store_in e o limit ms k)
apart-store_in (Some err) o limit ms k = tt
apart-store_in None o limit ms k = tt

apart-q_post_to : (xs : List ℕ) (limit : ℕ) (ms : List (ℕ × ℕ)) (r : Request) (h : ℕ) (k : Kernel) → count_of 63 xs ≡ 0 → Apart (q_post_to xs limit ms r h k)
apart-q_post_to [] limit ms r h k none =
    apart-store_in (store_error (length ms) limit k.free) (argument r 0) limit (stored (stores_first (argument r 3)) (argument r 1, argument r 2) ms) k
apart-q_post_to (x ∷ xs) limit ms r h k none = blocks-wakes k h (chosen (hands_to_all (argument r 3)) (x ∷ xs)) (chosen-none (hands_to_all (argument r 3)) (x ∷ xs) none)

apart-q_post : (c : Content) (r : Request) (h : ℕ) (k : Kernel) → IsLinked k → Apart (q_post c r h k)
apart-q_post (Messages limit ms) r h k v = apart-q_post_to (list_at k.pend (argument r 0)) limit ms r h k (application-pend k v (argument r 0) 63 (omega arith))
apart-q_post (Count n) r h k v = tt
apart-q_post (Bits bits) r h k v = tt
apart-q_post (Held owner nesting) r h k v = tt
apart-q_post (Timed t) r h k v = tt

apart-q_pend : (c : Content) (r : Request) (x : ℕ) (k : Kernel) → x ≢ 63 → Apart (q_pend c r x k)
apart-q_pend (Messages limit []) r x k other =
    apart-tail k (does_not_wait (argument r 2)) (blocks_on k x (waits_for (Obj QPend) (argument r 0 ∷ []) (argument r 1))) (blocks-block k x (argument r 0 ∷ []) other)
apart-q_pend (Messages limit (m ∷ ms)) r x k other = tt
apart-q_pend (Count n) r x k other = tt
apart-q_pend (Bits bits) r x k other = tt
apart-q_pend (Held owner nesting) r x k other = tt
apart-q_pend (Timed t) r x k other = tt

-- event flags

blocks-look : (ready : Option ℕ) (h x : ℕ) (k : Kernel) → x ≢ 63 → AreBlocks (flag_blocks ready h x k)
blocks-look None h x k other = (λ l. (tt, tt), tt)
blocks-look (Some ready) h x k other = (λ l. (tt, tt), blocks-wake k h x other)

blocks-looks : (bits h : ℕ) (xs : List ℕ) (k : Kernel) → count_of 63 xs ≡ 0 → AreBlocks (flag_blocks_all bits h xs k)
blocks-looks bits h [] k none = tt
blocks-looks bits h (x ∷ xs) k none =
    let ready = ready_bits bits (task_at k x).mask (task_at k x).opt in
    blocks-append (flag_blocks ready h x k) (flag_blocks_all bits h xs k) (blocks-look ready h x k (first-other x xs none)) (blocks-looks bits h xs k (rest-none x xs none))

apart-flag_post : (c : Content) (r : Request) (h : ℕ) (k : Kernel) → IsLinked k → Apart (flag_post c r h k)
apart-flag_post (Bits bits) r h k v = blocks-looks (bits_after bits (argument r 1) (argument r 2)) h (list_at k.pend (argument r 0)) k (application-pend k v (argument r 0) 63 (omega arith))
apart-flag_post (Count n) r h k v = tt
apart-flag_post (Messages limit ms) r h k v = tt
apart-flag_post (Held owner nesting) r h k v = tt
apart-flag_post (Timed t) r h k v = tt

apart-flag_pend_on : (ready : Option ℕ) (bits : ℕ) (r : Request) (x : ℕ) (k : Kernel) → x ≢ 63 → Apart (flag_pend_on ready bits r x k)
apart-flag_pend_on None bits r x k other =
    let w : Wait = record { waiting = Obj FlagPend; objects = argument r 0 ∷ []; mask = argument r 1; opt = argument r 3; table = 0; timeout = argument r 2 } in
    apart-tail k (flags_do_not_wait (argument r 3)) (blocks_on k x w) (blocks-block k x (argument r 0 ∷ []) other)
apart-flag_pend_on (Some ready) bits r x k other = tt

apart-flag_pend : (c : Content) (r : Request) (x : ℕ) (k : Kernel) → x ≢ 63 → Apart (flag_pend c r x k)
apart-flag_pend (Bits bits) r x k other = apart-flag_pend_on (ready_bits bits (argument r 1) (argument r 3)) bits r x k other
apart-flag_pend (Count n) r x k other = tt
apart-flag_pend (Messages limit ms) r x k other = tt
apart-flag_pend (Held owner nesting) r x k other = tt
apart-flag_pend (Timed t) r x k other = tt

-- a task's own semaphore and queue

-- the handler waits for nothing
waits-other : (k : Kernel) (y : ℕ) → IsLinked k → waits_for_nothing (task_at k y).waiting ≡ false → y ≢ 63
waits-other k y v h e = false≢true (sym v.internal.handler ∙ (v.tasks.each_task 63).lives (subst (λ z. waits_for_nothing (task_at k z).waiting ≡ false) e h))

one-none : (y : ℕ) → y ≢ 63 → count_of 63 (y ∷ []) ≡ 0
one-none y other = let no : (y == 63) ≡ false = ne_eqb y 63 other in rw no refl

apart-task_sem_post_to : (w : Waiting) (y h : ℕ) (k : Kernel) → w ≡ (task_at k y).waiting → IsLinked k → Apart (task_sem_post_to w y h k)
apart-task_sem_post_to TaskSem y h k e v = blocks-wakes k h (y ∷ []) (one-none y (waits-other k y v (ap waits_for_nothing (sym e))))
apart-task_sem_post_to _ y h k e v =
    choice Apart ((task_at k y).count == 2 ^ 32 - 1) (refused k SemOverflow) (done (with_task k y (λ t. record t { count = (task_at k y).count + 1 })) (fine ((task_at k y).count + 1))) tt tt

apart-task_store : (e : Option OsErr) (y : ℕ) (ms : List (ℕ × ℕ)) (k : Kernel) → Apart (task_store e y ms k)
apart-task_store (Some err) y ms k = tt
apart-task_store None y ms k = tt

apart-task_q_post_to : (w : Waiting) (r : Request) (y h : ℕ) (k : Kernel) → w ≡ (task_at k y).waiting → IsLinked k → Apart (task_q_post_to w r y h k)
apart-task_q_post_to TaskQ r y h k e v = blocks-wakes k h (y ∷ []) (one-none y (waits-other k y v (ap waits_for_nothing (sym e))))
apart-task_q_post_to _ r y h k e v =
    let t = task_at k y in
    apart-task_store (store_error (length t.messages) t.limit k.free) y (stored (stores_first (argument r 3)) (argument r 1, argument r 2) t.messages) k

apart-task_sem_pend_on : (n : ℕ) (r : Request) (x : ℕ) (k : Kernel) → x ≢ 63 → Apart (task_sem_pend_on n r x k)
apart-task_sem_pend_on zero r x k other = apart-tail k (does_not_wait (argument r 1)) (blocks_on k x (waits_for TaskSem [] (argument r 0))) (blocks-block k x [] other)
apart-task_sem_pend_on (suc n) r x k other = tt

apart-task_q_pend_on : (ms : List (ℕ × ℕ)) (r : Request) (x : ℕ) (k : Kernel) → x ≢ 63 → Apart (task_q_pend_on ms r x k)
apart-task_q_pend_on [] r x k other = apart-tail k (does_not_wait (argument r 1)) (blocks_on k x (waits_for TaskQ [] (argument r 0))) (blocks-block k x [] other)
apart-task_q_pend_on (m ∷ ms) r x k other = tt

-- the scheduler

apart-unlocks : (n : ℕ) (k : Kernel) → Apart (unlocks n k)
apart-unlocks zero k = tt
apart-unlocks (suc n) k = tt

apart-unlock : (x : ℕ) (k : Kernel) → Apart (sched_unlock x k)
apart-unlock x k = choice Apart ((k.lock == 0) || ((k.lock == 1) && (x == timer_task))) (refused k SchedNotLocked) (unlocks (k.lock - 1) k) tt (apart-unlocks (k.lock - 1) k)

apart-lock : (k : Kernel) → Apart (sched_lock k)
apart-lock k = choice Apart (k.lock == nesting_limit) (refused k LockOverflow) (done (record k { lock = k.lock + 1 }) (fine (k.lock + 1))) tt tt

apart-delays : (n x : ℕ) (k : Kernel) → x ≢ 63 → Apart (delays n x k)
apart-delays zero x k other = tt
apart-delays (suc n) x k other = blocks-block k x [] other

apart-delay : (r : Request) (x : ℕ) (k : Kernel) → x ≢ 63 → Apart (time_dly r x k)
apart-delay r x k other = choice Apart (k.lock == 0) (delays (delay_of r k.ticks) x k) (refused k SchedLocked) (apart-delays (delay_of r k.ticks) x k other) tt

apart-resume : (w : Waiting) (y h : ℕ) (k : Kernel) → w ≡ (task_at k y).waiting → IsLinked k → Apart (resumes_delayed w y h k)
apart-resume Delay y h k e v = blocks-wakes k h (y ∷ []) (one-none y (waits-other k y v (ap waits_for_nothing (sym e))))
apart-resume _ y h k e v = tt

-- aborts

apart-aborts : (xs : List ℕ) (h : ℕ) (k : Kernel) → count_of 63 xs ≡ 0 → Apart (aborts xs h k)
apart-aborts [] h k none = tt
apart-aborts (x ∷ xs) h k none = blocks-wakes k h (x ∷ xs) none

apart-abort : (r : Request) (h : ℕ) (k : Kernel) → IsLinked k → Apart (pend_abort r h k)
apart-abort r h k v =
    let all = aborts_all (argument r 1) in
    let xs = list_at k.pend (argument r 0) in
    apart-aborts (chosen all xs) h k (chosen-none all xs (application-pend k v (argument r 0) 63 (omega arith)))

apart-task_abort_of : (b : Bool) (y h : ℕ) (k : Kernel) → (b ≡ true → y ≢ 63) → Apart (task_abort_of b y h k)
apart-task_abort_of true y h k other = blocks-wakes k h (y ∷ []) (one-none y (other refl))
apart-task_abort_of false y h k other = tt

apart-task_abort : (waits : Waiting → Bool) → ((w : Waiting) → waits w ≡ true → waits_for_nothing w ≡ false) → (r : Request) (x h : ℕ) (k : Kernel) → IsLinked k → Apart (task_abort waits r x h k)
apart-task_abort waits some r x h k v =
    let y = named_task r x in
    let e = task_abort_of (waits (task_at k y).waiting) y h k in
    choice Apart (y == x) (refused k PendAbortSelf) e tt
    (apart-task_abort_of (waits (task_at k y).waiting) y h k (λ w. waits-other k y v (some (task_at k y).waiting w)))

-- deletions

apart-deletes : (all : Bool) (xs : List ℕ) (o h : ℕ) (k : Kernel) → count_of 63 xs ≡ 0 → Apart (deletes all xs o h k)
apart-deletes false (x ∷ xs) o h k none = tt
apart-deletes false [] o h k none = tt
apart-deletes true xs o h k none = blocks-wakes k h xs none

apart-delete : (r : Request) (h : ℕ) (k : Kernel) → IsLinked k → Apart (delete r h k)
apart-delete r h k v =
    apart-deletes (deletes_always (argument r 1)) (list_at k.pend (argument r 0)) (argument r 0) h k (application-pend k v (argument r 0) 63 (omega arith))

-- suspension

blocks-unready : (b : Bool) (y p : ℕ) → AreBlocks (unready_blocks b y p)
blocks-unready true y p = (λ l. (tt, (tt, tt)), tt)
blocks-unready false y p = tt

apart-task_suspend : (r : Request) (x : ℕ) (k : Kernel) → Apart (task_suspend r x k)
apart-task_suspend r x k =
    let y = named_task r x in
    let most = (task_at k y).suspended == nesting_limit in
    let e = suspends (y == x) y k in
    choice Apart ((y == x) && nat_lt 0 k.lock) (refused k SchedLocked) (if most then refused k Depth else e) tt
    (choice Apart most (refused k Depth) e tt (blocks-unready (is_ready (task_at k y)) y (task_at k y).prio))

blocks-resumed : (b : Bool) (n y p h : ℕ) → y ≢ 63 → AreBlocks (resumed_blocks b n y p h)
blocks-resumed true n y p h other = blocks-ready n y p h other
blocks-resumed false n y p h other = tt

apart-resumes : (n y h : ℕ) (k : Kernel) → y ≢ 63 → Apart (resumes n y h k)
apart-resumes zero y h k other = tt
apart-resumes (suc n) y h k other = blocks-resumed (waits_for_nothing (task_at k y).waiting) n y (task_at k y).prio h other

apart-task_resume : (r : Request) (x h : ℕ) (k : Kernel) → IsLinked k → (task_at k (named_task r x)).alive ≡ true → Apart (task_resume r x h k)
apart-task_resume r x h k v lives =
    let y = named_task r x in
    let n = (task_at k y).suspended in
    choice Apart (y == x) (refused k TaskResumeSelf) (resumes n y h k) tt
    (apart-resumes n y h k (λ e. false≢true (sym (ap (λ z. (task_at k z).alive) e ∙ v.internal.handler) ∙ lives)))

-- ticks and round robin

apart-signalled : (w : Waiting) (x h : ℕ) (k : Kernel) → x ≢ 63 → Apart (signalled w x h k)
apart-signalled Signal x h k other = (λ l. (other, (other, (tt, tt))), tt)
apart-signalled _ x h k other = tt

free-signalled : (w : Waiting) (x h : ℕ) (k : Kernel) → x ≢ 63 → Free k.ready → Free (signalled w x h k).kernel.ready
free-signalled Signal x h k other f = let p = prio_of k x in free-join k.ready p (join_place p h (list_at k.ready p)) x other f
free-signalled _ x h k other f = f

apart-signals_timer : (h : ℕ) (k : Kernel) → Apart (signals_timer h k)
apart-signals_timer h k =
    let j : Kernel = record k { tick_calls = 0; timer_signals = k.timer_signals + 1 } in
    let w = (task_at k timer_task).waiting in
    choice Apart (nat_lt (k.tick_calls + 1) k.settings.tmr_div) (done (record k { tick_calls = k.tick_calls + 1 }) (fine 0)) (signalled w timer_task h j) tt
    (apart-signalled w timer_task h j (λ (e : 61 ≡ 63). omega (arith, e)))

apart-rotates : (x p : ℕ) (k : Kernel) → x ≢ 63 → Apart (rotates x p k)
apart-rotates x p k other = (λ l. (tt, (tt, tt)), (λ l. (other, (other, (tt, tt))), tt))

apart-spends : (xs : List ℕ) (p : ℕ) (k : Kernel) → count_of 63 xs ≡ 0 → Apart (spends xs p k)
apart-spends [] p k none = tt
apart-spends (y ∷ []) p k none = tt
apart-spends (y ∷ z ∷ zs) p k none =
    let j = with_task k y (λ t. record t { quantum = t.quantum - 1 }) in
    choice Apart ((task_at j y).quantum == 0) (rotates y p j) (done j (fine 0)) (apart-rotates y p j (first-other y (z ∷ zs) none)) tt

apart-round_robin : (p : ℕ) (k : Kernel) → Free k.ready → Apart (round_robin p k)
apart-round_robin p k f =
    choice Apart (k.settings.round_robin && ((k.lock == 0) && not (first_in (list_at k.ready p) == idle_task))) (spends (list_at k.ready p) p k) (done k (fine 0))
    (apart-spends (list_at k.ready p) p k (f p)) tt

apart-tick : (i h : ℕ) (k : Kernel) → IsLinked k → Apart (time_tick i h k)
apart-tick i h k v =
    let w = (task_at k tick_task).waiting in
    let j : Kernel = record k { tick_signals = k.tick_signals + 1 } in
    let free : Free j.ready = λ p. inside-ready k v p 63 (omega arith) in
    let tick : tick_task ≢ 63 = λ (e : 60 ≡ 63). omega (arith, e) in
    let a = signals_tick h k in
    let b = round_robin i a.kernel in
    let c = signals_timer h b.kernel in
    blocks-append (a.blocks ++ b.blocks) c.blocks
    (blocks-append a.blocks b.blocks (apart-signalled w tick_task h j tick) (apart-round_robin i a.kernel (free-signalled w tick_task h j tick free)))
    (apart-signals_timer h b.kernel)

apart-yield : (x : ℕ) (k : Kernel) → x ≢ 63 → Apart (round_robin_yield x k)
apart-yield x k other =
    let p = prio_of k x in
    let alone = if is_alone (list_at k.ready p) then refused k RoundRobinAlone else rotates x p k in
    choice Apart (not (k.lock == 0)) (refused k SchedLocked) (if not k.settings.round_robin then refused k RoundRobinDisabled else alone) tt
    (choice Apart (not k.settings.round_robin) (refused k RoundRobinDisabled) alone tt
    (choice Apart (is_alone (list_at k.ready p)) (refused k RoundRobinAlone) (rotates x p k) tt (apart-rotates x p k other)))

-- timers

apart-tmr_start : (c : Content) (r : Request) (k : Kernel) → Apart (tmr_start c r k)
apart-tmr_start (Timed t) r k = tt
apart-tmr_start (Count n) r k = tt
apart-tmr_start (Messages limit ms) r k = tt
apart-tmr_start (Bits bits) r k = tt
apart-tmr_start (Held owner nesting) r k = tt

apart-tmr_stop_in : (state : TimerState) (t : Timer) (o : ℕ) (k : Kernel) → Apart (tmr_stop_in state t o k)
apart-tmr_stop_in Running t o k = tt
apart-tmr_stop_in Stopped t o k = tt
apart-tmr_stop_in Completed t o k = tt

apart-tmr_stop : (c : Content) (r : Request) (k : Kernel) → Apart (tmr_stop c r k)
apart-tmr_stop (Timed t) r k = apart-tmr_stop_in t.state t (argument r 0) k
apart-tmr_stop (Count n) r k = tt
apart-tmr_stop (Messages limit ms) r k = tt
apart-tmr_stop (Bits bits) r k = tt
apart-tmr_stop (Held owner nesting) r k = tt

apart-tmr_remain_get : (c : Content) (r : Request) (k : Kernel) → Apart (tmr_remain_get c r k)
apart-tmr_remain_get (Timed t) r k = tt
apart-tmr_remain_get (Count n) r k = tt
apart-tmr_remain_get (Messages limit ms) r k = tt
apart-tmr_remain_get (Bits bits) r k = tt
apart-tmr_remain_get (Held owner nesting) r k = tt

apart-tmr_state_get : (c : Content) (k : Kernel) → Apart (tmr_state_get c k)
apart-tmr_state_get (Timed t) k = tt
apart-tmr_state_get (Count n) k = tt
apart-tmr_state_get (Messages limit ms) k = tt
apart-tmr_state_get (Bits bits) k = tt
apart-tmr_state_get (Held owner nesting) k = tt

apart-tmr_del : (c : Content) (r : Request) (k : Kernel) → Apart (tmr_del c r k)
apart-tmr_del (Timed t) r k = tt
apart-tmr_del (Count n) r k = tt
apart-tmr_del (Messages limit ms) r k = tt
apart-tmr_del (Bits bits) r k = tt
apart-tmr_del (Held owner nesting) r k = tt

-- who waits for its own semaphore or queue waits
semaphore-waits : (w : Waiting) → waits_for_semaphore w ≡ true → waits_for_nothing w ≡ false
semaphore-waits TaskSem h = refl
semaphore-waits _ h = absurd (false≢true h)

queue-waits : (w : Waiting) → waits_for_queue w ≡ true → waits_for_nothing w ≡ false
queue-waits TaskQ h = refl
queue-waits _ h = absurd (false≢true h)

apart-perform : (s : Service) (call : Call) (k : Kernel) → IsLinked k → program_serves s ≡ true → (is_post s ≡ false → call.caller ≢ 63) → (names_task s ≡ true → (task_at k (named_task call.request call.caller)).alive ≡ true) → Apart (perform s call k)
apart-perform SemPost call k v e who lives = apart-sem_post (object_at k (argument call.request 0)).content call.request call.compared k v
apart-perform QPost call k v e who lives = apart-q_post (object_at k (argument call.request 0)).content call.request call.compared k v
apart-perform FlagPost call k v e who lives = apart-flag_post (object_at k (argument call.request 0)).content call.request call.compared k v
apart-perform TaskSemPost call k v e who lives = let y = named_task call.request call.caller in apart-task_sem_post_to (task_at k y).waiting y call.compared k refl v
apart-perform TaskQPost call k v e who lives = let y = named_task call.request call.caller in apart-task_q_post_to (task_at k y).waiting call.request y call.compared k refl v
apart-perform SemPend call k v e who lives = apart-sem_pend (object_at k (argument call.request 0)).content call.request call.caller k (who refl)
apart-perform QPend call k v e who lives = apart-q_pend (object_at k (argument call.request 0)).content call.request call.caller k (who refl)
apart-perform FlagPend call k v e who lives = apart-flag_pend (object_at k (argument call.request 0)).content call.request call.caller k (who refl)
apart-perform TaskSemPend call k v e who lives = apart-task_sem_pend_on (task_at k call.caller).count call.request call.caller k (who refl)
apart-perform TaskQPend call k v e who lives = apart-task_q_pend_on (task_at k call.caller).messages call.request call.caller k (who refl)
apart-perform SchedLock call k v e who lives = apart-lock k
apart-perform SchedUnlock call k v e who lives = apart-unlock call.caller k
apart-perform TimeGet call k v e who lives = tt
apart-perform TimeDly call k v e who lives = apart-delay call.request call.caller k (who refl)
apart-perform SemPendAbort call k v e who lives = apart-abort call.request call.compared k v
apart-perform QPendAbort call k v e who lives = apart-abort call.request call.compared k v
apart-perform FlagPendAbort call k v e who lives = apart-abort call.request call.compared k v
apart-perform TaskSemPendAbort call k v e who lives = apart-task_abort waits_for_semaphore semaphore-waits call.request call.caller call.compared k v
apart-perform TaskQPendAbort call k v e who lives = apart-task_abort waits_for_queue queue-waits call.request call.caller call.compared k v
apart-perform SemDel call k v e who lives = apart-delete call.request call.compared k v
apart-perform QDel call k v e who lives = apart-delete call.request call.compared k v
apart-perform FlagDel call k v e who lives = apart-delete call.request call.compared k v
apart-perform TimeDlyResume call k v e who lives = let y = named_task call.request call.caller in apart-resume (task_at k y).waiting y call.compared k refl v
apart-perform TaskSuspend call k v e who lives = apart-task_suspend call.request call.caller k
apart-perform TaskResume call k v e who lives = apart-task_resume call.request call.caller call.compared k v (lives refl)
apart-perform TimeTick call k v e who lives = apart-tick call.interrupted call.compared k v
apart-perform RoundRobinYield call k v e who lives = apart-yield call.caller k (who refl)
apart-perform TmrStart call k v e who lives = apart-tmr_start (object_at k (argument call.request 0)).content call.request k
apart-perform TmrStop call k v e who lives = apart-tmr_stop (object_at k (argument call.request 0)).content call.request k
apart-perform TmrRemainGet call k v e who lives = apart-tmr_remain_get (object_at k (argument call.request 0)).content call.request k
apart-perform TmrStateGet call k v e who lives = apart-tmr_state_get (object_at k (argument call.request 0)).content k
apart-perform TmrDel call k v e who lives = apart-tmr_del (object_at k (argument call.request 0)).content call.request k
apart-perform _ call k v e who lives = absurd (false≢true e)

apart-checked : (o : Option OsErr) (call : Call) (k : Kernel) → call_error call.request call.caller k ≡ o → IsLinked k → program_serves call.request.service ≡ true → (is_post call.request.service ≡ false → call.caller ≢ 63) → Apart (after_checks o call k)
apart-checked (Some err) call k c v e who = tt
apart-checked None call k c v e who = apart-perform call.request.service call k v e who (λ n. named-alive call.request call.caller k n c)

apart-served : (b : Bool) (call : Call) (k : Kernel) → IsLinked k → program_serves call.request.service ≡ b → (is_post call.request.service ≡ false → call.caller ≢ 63) → Apart (if b then after_checks (call_error call.request call.caller k) call k else refused k CallUnknown)
apart-served true call k v e who = apart-checked (call_error call.request call.caller k) call k refl v e who
apart-served false call k v e who = tt

-- Half-made lists.

pub without-whole : (k : Kernel) → IsLinked k → HasNoHandler (whole (lists_of k))
without-whole k v =
    let l : AreWithoutHandler (lists_of k) = record { ready = λ p. inside-ready k v p 63 (omega arith); pend = λ o. application-pend k v o 63 (omega arith) } in
    record { forward = l; back = l }

pub without-half_of : (e : Effect) (k : Kernel) (i : ℕ) → IsLinked k → Apart e → HasNoHandler (half e k i)
without-half_of e k i v a =
    let bs : AreBlocks (plain ∷ e.blocks ++ plain ∷ []) = (λ l. (tt, tt), blocks-append e.blocks (plain ∷ []) a (λ l. (tt, tt), tt)) in
    without-all (take i (blocks e k)) (whole (lists_of k)) (apart-take i (blocks e k) (apart-in_order (plain ∷ e.blocks ++ plain ∷ []) (lists_of k) bs)) (without-whole k v)

-- where the handler does nothing but post
pub without-half : (call : Call) (k : Kernel) (i : ℕ) → IsLinked k → (is_post call.request.service ≡ false → call.caller ≢ 63) → HasNoHandler (half (effect program_serves call k) k i)
without-half call k i v who = without-half_of (effect program_serves call k) k i v (apart-served (program_serves call.request.service) call k v refl who)
