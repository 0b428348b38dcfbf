-- The services of tasks, time, round robin, timers and several objects, and the units of the internal tasks, keep the kernel
-- linked, service by service.
use Rattle.kern_model.proofs.Common.{◌≡◌, ◌≢◌, ◌⊎◌, ℕ, zero, suc, ◌<◌, ◌≤◌, ◌+◌, ◌^◌, List, [], ◌∷◌, ◌++◌, length, refl, sym, ap, ◌∙◌, subst, Bool, true, false, ◌&&◌, ◌||◌, not, arith, inl, inr, Option, Some, None, All, ◌==◌, ◌-◌, ◌%◌, nat_lt, nat_le, if◌then◌else◌, cond, filter, map, Request, OsErr, SchedLocked, Depth, TaskResumeSelf, PrioInvalid, LockOverflow, SchedNotLocked, RoundRobinDisabled, RoundRobinAlone, Table, ObjectType, Waiting, No, Delay, Multi, Signal, Outcome, Gone, Quiet, TmrEnd, Kernel, Task, Timer, TimerState, Stopped, Running, Completed, Content, Count, Messages, Timed, list_at, task_at, prio_of, object_at, with_content, with_task, update_object, count_of, is_ready, is_zero, waits_for_nothing, tick_task, timer_task, idle_task, kinds_of, at_tail, Effect, Wait, refused, done, answers, fine, result_of, blocks_on, and_then, unmatched, wakes_all, argument, named_task, first_error, renewing, IsLinked, IsContent, IsWord, MayCall, AllWait, one_if, matched, renewed}
use Rattle.std.proofs.lemmas.List.{length-take, length-set}
use Rattle.std.proofs.lemmas.List.Elements.{All-nil, All-cons}
use Rattle.std.proofs.lemmas.Bool.{false≢true, true≢false, cases_lt}
use Rattle.std.proofs.lemmas.Bool.Decides.{eqb_tells}
use Rattle.kern_model.specs.Several.{multi_error, multi_checked, multi_takes, table_objects, polls, taken_from, taken_all, taken_count, repeats, is_table_fault, kinds_error, deleted_error}
use Rattle.kern_model.specs.Tasks.{suspends, task_suspend, resumes, task_resume, task_ends, task_del, task_change_prio, sched_lock, unlocks, sched_unlock}
use Rattle.kern_model.specs.RoundRobin.{first_in, full_quantum, rotates, spends, round_robin, is_alone, round_robin_yield}
use Rattle.kern_model.specs.Time.{delays, delay_of, time_dly, resumes_delayed, signalled, signals_tick, signals_timer, time_tick, due, timed_out, waits_for_signal, ticked, tick_unit}
use Rattle.kern_model.specs.Timers.{runs, rests, tmr_start, tmr_stop_in, tmr_stop, tmr_remain_get, tmr_state_get, tmr_del, timer_counts, fired, timer_ends, timer_goes_on, timer_unit, due_timer, has_callback, start_delay}
use Rattle.kern_model.specs.Stop.{callback_ended}
use Rattle.kern_model.proofs.Basics.Updates.{update_task_same}
use Rattle.kern_model.proofs.Basics.Choices.{choice_by, equal, unequal, at_most, not_less, and_first, and_second, or_first, or_second, not_false, some≢none, second_passed}
use Rattle.kern_model.proofs.Halves.Effects.{choice}
use Rattle.kern_model.proofs.Linked.Wakes.{linked-wakes_all, linked-blocked, self_equal, ready_free}
use Rattle.kern_model.proofs.Linked.Contents.{linked-objects, linked-with_content, update_object_keeps, object_inside, all_wait, matched_none}
use Rattle.kern_model.proofs.Linked.Counters.{linked-plain, linked-free, linked-timer_matches, linked-tick_calls, linked-locked, linked-scalars, linked-rotated}
use Rattle.kern_model.proofs.Linked.Suspensions.{linked-suspends, linked-resumes, linked-task_ends}
use Rattle.kern_model.proofs.Linked.Signals.{linked-signalled, linked-waits}
use Rattle.kern_model.proofs.Linked.Renewals.{linked-renewing}
use Rattle.kern_model.proofs.Linked.Ticks.{signals, wakes_all-signals, renewed-signals, tick_signals-renewed}
use Rattle.kern_model.proofs.Linked.Suspensions.{above_zero}
use Rattle.kern_model.proofs.Basics.Updates.{task-updated, task-other}
use Rattle.kern_model.proofs.Linked.ObjectServices.{LinkedAfter, linked-waits_unless, caller_ready, linked-no_object, AllWait-one}

-- who calls: an application task that calls for itself is ready
own_ready : (k : Kernel) (x y : ℕ) → y < 60 → MayCall x k → (y == x) ≡ true → is_ready (task_at k y) ≡ true
own_ready k x y l (inl m) e = subst (λ z. is_ready (task_at k z) ≡ true) (sym (equal y x e)) m.1
own_ready k x y l (inr m) e = let s : y ≡ x = equal y x e in absurd (omega (arith, m.0))

-- tasks

pub linked-task_suspend : (r : Request) (x : ℕ) (k : Kernel) → IsLinked k → MayCall x k → named_task r x < 60 → (task_at k (named_task r x)).alive ≡ true → LinkedAfter (task_suspend r x k)
linked-task_suspend r x k v m l a =
    let y = named_task r x in
    choice LinkedAfter ((y == x) && nat_lt 0 k.lock) (refused k SchedLocked) (if (task_at k y).suspended == 250 then refused k Depth else suspends (y == x) y k) v
    (choice_by LinkedAfter ((task_at k y).suspended == 250) (refused k Depth) (suspends (y == x) y k) (λ s. v)
    (λ s. linked-suspends k v y l (y == x) (unequal (task_at k y).suspended 250 s) a
    (λ e. ready_free (task_at k y).alive (waits_for_nothing (task_at k y).waiting) (is_zero (task_at k y).suspended) (own_ready k x y l m e))))

linked-resumes_by : (n x h : ℕ) (k : Kernel) → (task_at k x).suspended ≡ n → IsLinked k → x < 60 → (task_at k x).alive ≡ true → LinkedAfter (resumes n x h k)
linked-resumes_by zero x h k e v l a = v
linked-resumes_by (suc n) x h k e v l a = linked-resumes k v x l n e a h

pub linked-task_resume : (r : Request) (x h : ℕ) (k : Kernel) → IsLinked k → named_task r x < 60 → (task_at k (named_task r x)).alive ≡ true → LinkedAfter (task_resume r x h k)
linked-task_resume r x h k v l a =
    let y = named_task r x in
    choice LinkedAfter (y == x) (refused k TaskResumeSelf) (resumes (task_at k y).suspended y h k) v (linked-resumes_by (task_at k y).suspended y h k refl v l a)

pub linked-task_del : (r : Request) (x : ℕ) (k : Kernel) → IsLinked k → named_task r x < 60 → LinkedAfter (task_del r x k)
linked-task_del r x k v l =
    let y = named_task r x in
    let o : Outcome = if y == x then Gone else answers (fine 0) in
    choice LinkedAfter ((y == x) && nat_lt 0 k.lock) (refused k SchedLocked) (renewing at_tail (task_ends o y k)) v
    (linked-renewing at_tail (task_ends o y k) (linked-task_ends k v y l o))

pub linked-task_change_prio : (r : Request) (x : ℕ) (k : Kernel) → IsLinked k → named_task r x < 60 → LinkedAfter (task_change_prio r x k)
linked-task_change_prio r x k v l =
    let p = argument r 1 in
    let y = named_task r x in
    let e = done (with_task k y (λ t. record t { base = p })) (fine 0) in
    choice_by LinkedAfter (nat_le 1 p && nat_le p 62) (renewing at_tail e) (refused k PrioInvalid)
    (λ s. linked-renewing at_tail e (linked-plain k y (λ t. record t { base = p }) (λ t. refl) (at_most 1 p (and_first (nat_le 1 p) (nat_le p 62) s)) (v.tasks.each_task y).count (inr (l, at_most p 62 (and_second (nat_le 1 p) (nat_le p 62) s))) v))
    (λ s. v)

pub linked-sched_lock : (k : Kernel) → IsLinked k → LinkedAfter (sched_lock k)
linked-sched_lock k v =
    choice_by LinkedAfter (k.lock == 250) (refused k LockOverflow) (done (record k { lock = k.lock + 1 }) (fine (k.lock + 1))) (λ s. v)
    (λ s. linked-locked k (k.lock + 1) (next (unequal k.lock 250 s)) (λ p. omega arith) v)
  where
    next : k.lock ≢ 250 → k.lock + 1 ≤ 250
    next d = omega (arith, v.lock.few)

-- the caller may unlock where a lock is left, or the timer task is not processing
linked-unlocks : (n : ℕ) (k : Kernel) → n ≤ 250 → (k.processing ≡ true → 0 < n) → IsLinked k → LinkedAfter (unlocks n k)
linked-unlocks zero k l p v = linked-locked k 0 l p v
linked-unlocks (suc n) k l p v = linked-locked k (suc n) l p v

pub linked-sched_unlock : (x : ℕ) (k : Kernel) → IsLinked k → MayCall x k → LinkedAfter (sched_unlock x k)
linked-sched_unlock x k v m =
    choice_by LinkedAfter ((k.lock == 0) || ((k.lock == 1) && (x == timer_task))) (refused k SchedNotLocked) (unlocks (k.lock - 1) k) (λ s. v)
    (λ s. linked-unlocks (k.lock - 1) k (omega (arith, v.lock.few)) (left m (unequal k.lock 0 (or_first (k.lock == 0) ((k.lock == 1) && (x == timer_task)) s)) (or_second (k.lock == 0) ((k.lock == 1) && (x == timer_task)) s)) v)
  where
    both : (a b : Bool) → a && b ≡ false → a ≡ true → b ≡ true → ⊥
    both true true h p q = true≢false h
    both true false h p q = false≢true q
    both false b h p q = false≢true p

    left : MayCall x k → k.lock ≢ 0 → (k.lock == 1) && (x == timer_task) ≡ false → k.processing ≡ true → 0 < k.lock - 1
    left (inl m) d h p = absurd (true≢false (sym p ∙ m.3))
    left (inr m) d h p =
        elim (eqb_tells k.lock 1) [
          | inl e ↦ absurd (both (k.lock == 1) (x == timer_task) h e.0 (ap (λ n. n == 61) m.0))
          | inr e ↦ omega (arith, d, e.1)
        ]

-- round robin

-- who stands in a ready list is ready, and has its priority
pub in_ready : (k : Kernel) → IsLinked k → (p x : ℕ) → 0 < count_of x (list_at k.ready p) → (is_ready (task_at k x) ≡ true) × (prio_of k x ≡ p)
in_ready k v p x h = by_tests (is_ready (task_at k x)) (prio_of k x == p) refl refl (subst (λ n. 0 < n) (v.lists.stands p x) h)
  where
    by_tests : (a b : Bool) → is_ready (task_at k x) ≡ a → (prio_of k x == p) ≡ b → 0 < one_if (a && b) → (a ≡ true) × (prio_of k x ≡ p)
    by_tests true true e f l = (refl, equal (prio_of k x) p f)
    by_tests true false e f l = absurd (omega arith)
    by_tests false b e f l = absurd (omega arith)

pub linked-rotates : (x p : ℕ) (k : Kernel) → is_ready (task_at k x) ≡ true → prio_of k x ≡ p → IsLinked k → LinkedAfter (rotates x p k)
linked-rotates x p k r e v =
    let j = (rotates x p k).kernel in
    let y = first_in (list_at j.ready p) in
    let i : Kernel = record k { ready = j.ready } in
    let valid : IsLinked i = linked-rotated k at_tail x p r e v in
    linked-plain i y full_quantum (λ t. refl) (valid.tasks.each_task y).base_from (valid.tasks.each_task y).count (inl refl) valid

linked-spends : (xs : List ℕ) (p : ℕ) (k : Kernel) → ((y : ℕ) → 0 < count_of y xs → (is_ready (task_at k y) ≡ true) × (prio_of k y ≡ p)) → IsLinked k → LinkedAfter (spends xs p k)
linked-spends [] p k h v = v
linked-spends (y ∷ []) p k h v =
    linked-plain k y (λ t. record t { quantum = t.quantum - 1 }) (λ t. refl) (v.tasks.each_task y).base_from (v.tasks.each_task y).count (inl refl) v
linked-spends (y ∷ z ∷ zs) p k h v =
    let f : Task → Task = λ t. record t { quantum = t.quantum - 1 } in
    let j = with_task k y f in
    let valid : IsLinked j = linked-plain k y f (λ t. refl) (v.tasks.each_task y).base_from (v.tasks.each_task y).count (inl refl) v in
    let here = h y (omega (arith, ap one_if (self_equal y))) in
    choice LinkedAfter ((task_at j y).quantum == 0) (rotates y p j) (done j (fine 0))
    (linked-rotates y p j (update_task_same is_ready f (λ t. refl) k.tasks y y ∙ here.0) (update_task_same (λ t. t.prio) f (λ t. refl) k.tasks y y ∙ here.1) valid) valid

pub linked-round_robin : (c : ℕ) (k : Kernel) → IsLinked k → LinkedAfter (round_robin c k)
linked-round_robin c k v =
    choice LinkedAfter (k.settings.round_robin && ((k.lock == 0) && not (first_in (list_at k.ready c) == idle_task))) (spends (list_at k.ready c) c k) (done k (fine 0))
    (linked-spends (list_at k.ready c) c k (in_ready k v c) v) v

pub linked-round_robin_yield : (x : ℕ) (k : Kernel) → IsLinked k → MayCall x k → LinkedAfter (round_robin_yield x k)
linked-round_robin_yield x k v m =
    let alone = is_alone (list_at k.ready (prio_of k x)) in
    let last : Effect = if alone then refused k RoundRobinAlone else rotates x (prio_of k x) k in
    let rest : Effect = if not k.settings.round_robin then refused k RoundRobinDisabled else last in
    choice_by LinkedAfter (not (k.lock == 0)) (refused k SchedLocked) rest (λ s. v)
    (λ s. choice LinkedAfter (not k.settings.round_robin) (refused k RoundRobinDisabled) last v
    (choice LinkedAfter alone (refused k RoundRobinAlone) (rotates x (prio_of k x) k) v
    (linked-rotates x (prio_of k x) k (caller_ready k v x m (equal k.lock 0 (not_false (k.lock == 0) s))).1 refl v)))

-- time

linked-delays : (n x : ℕ) (k : Kernel) → IsLinked k → MayCall x k → k.lock ≡ 0 → LinkedAfter (delays n x k)
linked-delays zero x k v m l = v
linked-delays (suc n) x k v m l = linked-no_object k v x m l Delay refl (suc n)

pub linked-time_dly : (r : Request) (x : ℕ) (k : Kernel) → IsLinked k → MayCall x k → LinkedAfter (time_dly r x k)
linked-time_dly r x k v m =
    choice_by LinkedAfter (k.lock == 0) (delays (delay_of r k.ticks) x k) (refused k SchedLocked) (λ s. linked-delays (delay_of r k.ticks) x k v m (equal k.lock 0 s)) (λ s. v)

pub linked-resumes_delayed : (w : Waiting) (x h : ℕ) (k : Kernel) → (task_at k x).waiting ≡ w → IsLinked k → x < 60 → LinkedAfter (resumes_delayed w x h k)
linked-resumes_delayed Delay x h k e v l = linked-wakes_all (result_of (fine 0)) h (x ∷ []) k v (AllWait-one k x l (ap waits_for_nothing e))
linked-resumes_delayed _ x h k e v l = v

-- whether a task waits for a signal
abbrev is_signal : Waiting → Bool
is_signal Signal = true
is_signal w = false

-- a task that waits exactly where a test holds, and not for a signal, does not wait
not_waiting : (w : Waiting) (b : Bool) → w ≡ (if b then Signal else No) → is_signal w ≡ false → w ≡ No
not_waiting w true e h = absurd (true≢false (sym (ap is_signal e) ∙ h))
not_waiting w false e h = e

no_signal : (n : ℕ) → No ≡ (if is_zero (n + 1) then Signal else No)
no_signal n = ap (λ b. if b then Signal else No) (sym (above_zero n))

no_timer_signal : (n : ℕ) (b : Bool) → No ≡ (if is_zero (n + 1) && b then Signal else No)
no_timer_signal n b = ap (λ a. if a && b then Signal else No) (sym (above_zero n))

pub linked-tick_signalled : (w : Waiting) (h : ℕ) (k : Kernel) → (task_at k 60).waiting ≡ w → IsLinked k → LinkedAfter (signalled w 60 h (record k { tick_signals = k.tick_signals + 1 }))
linked-tick_signalled Signal h k e v =
    linked-signalled k v 60 (inl refl) h (k.tick_signals + 1) k.timer_signals k.tick_calls e
    (ap (λ (t : Task). t.waiting) (task-updated k.tasks 60 (λ t. record t { waiting = No }) (omega (arith, v.sizes.tasks))) ∙ no_signal k.tick_signals)
    (ap (λ (t : Task). t.waiting) (task-other k.tasks 60 (λ t. record t { waiting = No }) 61 (λ s. absurd (omega (arith, s)))) ∙ v.internal.timer_waits)
linked-tick_signalled _ h k e v =
    linked-scalars k k.timer_matches k.ticks k.timer_count (k.tick_signals + 1) k.timer_signals k.tick_calls k.processing k.in_callback k.lock k.free v.clocks.ticks v.clocks.timer_count
    (not_waiting (task_at k 60).waiting (is_zero k.tick_signals) v.internal.tick_waits (ap is_signal e) ∙ no_signal k.tick_signals) v.internal.timer_waits v.lock.few v.lock.locked v.lock.callback v

linked-signals_tick : (h : ℕ) (k : Kernel) → IsLinked k → LinkedAfter (signals_tick h k)
linked-signals_tick h k v = linked-tick_signalled (task_at k tick_task).waiting h k refl v

linked-timer_signalled : (w : Waiting) (h : ℕ) (k : Kernel) → (task_at k 61).waiting ≡ w → IsLinked k → LinkedAfter (signalled w 61 h (record k { tick_calls = 0; timer_signals = k.timer_signals + 1 }))
linked-timer_signalled Signal h k e v =
    linked-signalled k v 61 (inr refl) h k.tick_signals (k.timer_signals + 1) 0 e
    (ap (λ (t : Task). t.waiting) (task-other k.tasks 61 (λ t. record t { waiting = No }) 60 (λ s. absurd (omega (arith, s)))) ∙ v.internal.tick_waits)
    (ap (λ (t : Task). t.waiting) (task-updated k.tasks 61 (λ t. record t { waiting = No }) (omega (arith, v.sizes.tasks))) ∙ no_timer_signal k.timer_signals (not k.processing))
linked-timer_signalled _ h k e v =
    linked-scalars k k.timer_matches k.ticks k.timer_count k.tick_signals (k.timer_signals + 1) 0 k.processing k.in_callback k.lock k.free v.clocks.ticks v.clocks.timer_count v.internal.tick_waits
    (not_waiting (task_at k 61).waiting (is_zero k.timer_signals && not k.processing) v.internal.timer_waits (ap is_signal e) ∙ no_timer_signal k.timer_signals (not k.processing)) v.lock.few v.lock.locked v.lock.callback v

linked-signals_timer : (h : ℕ) (k : Kernel) → IsLinked k → LinkedAfter (signals_timer h k)
linked-signals_timer h k v =
    let j : Kernel = record k { tick_calls = 0; timer_signals = k.timer_signals + 1 } in
    choice LinkedAfter (nat_lt (k.tick_calls + 1) k.settings.tmr_div) (done (record k { tick_calls = k.tick_calls + 1 }) (fine 0)) (signalled (task_at k timer_task).waiting timer_task h j)
    (linked-tick_calls k (k.tick_calls + 1) v) (linked-timer_signalled (task_at k timer_task).waiting h k refl v)

pub linked-time_tick : (c h : ℕ) (k : Kernel) → IsLinked k → LinkedAfter (time_tick c h k)
linked-time_tick c h k v =
    let e = signals_tick h k in
    let f = and_then e (round_robin c) in
    linked-signals_timer h f.kernel (linked-round_robin c e.kernel (linked-signals_tick h k v))

-- who is due waits, and stands once
count-due : (tick x : ℕ) (ms : List (ℕ × ℕ)) → count_of x (due tick ms) ≤ count_of x (matched ms)
count-due tick x [] = omega arith
count-due tick x (m ∷ ms) = by_case (m.1 == tick) (count-due tick x ms)
  where
    by_case : (b : Bool) → count_of x (due tick ms) ≤ count_of x (matched ms) → count_of x (map (λ m. m.0) (cond b (m ∷ filter (λ m. m.1 == tick) ms) (filter (λ m. m.1 == tick) ms))) ≤ one_if (m.0 == x) + count_of x (matched ms)
    by_case true h = omega (arith, h)
    by_case false h = omega (arith, h)

pub AllWait-due : (k : Kernel) → IsLinked k → (tick : ℕ) → AllWait k (due tick k.matches)
AllWait-due k v tick = all_wait k (due tick k.matches) (λ x h. (below x h (cases_lt x 60), waits x (waits_for_nothing (task_at k x).waiting) refl h)) once
  where
    some : (x : ℕ) → 0 < count_of x (due tick k.matches) → 0 < count_of x (matched k.matches)
    some x h = omega (arith, count-due tick x k.matches)

    below : (x : ℕ) → 0 < count_of x (due tick k.matches) → (x < 60) ⊎ (60 ≤ x) → x < 60
    below x h (inl l) = l
    below x h (inr l) = absurd (omega (arith, some x h, matched_none k.matches v.matches.match_words x l))

    waits : (x : ℕ) (b : Bool) → waits_for_nothing (task_at k x).waiting ≡ b → 0 < count_of x (due tick k.matches) → b ≡ false
    waits x false e h = refl
    waits x true e h =
        let none : count_of x (matched k.matches) ≤ 0 = subst (λ (b : Bool). count_of x (matched k.matches) ≤ (if b then 0 else 1)) e (v.matches.once_matched x) in
        absurd (omega (arith, some x h, none))

    at_most_one : (b : Bool) → (if b then 0 else 1) ≤ 1
    at_most_one true = omega arith
    at_most_one false = omega arith

    least : {a b c : ℕ} → a ≤ b → b ≤ c → a ≤ c
    least p q = omega arith

    once : (x : ℕ) → count_of x (due tick k.matches) ≤ 1
    once x = least (count-due tick x k.matches) (least (v.matches.once_matched x) (at_most_one (waits_for_nothing (task_at k x).waiting)))

-- the kernel after the wakes and the renewal of a tick, with the signals as they were
abbrev pub tick_wakes : Kernel → Kernel
tick_wakes k =
    let tick = (k.ticks + 1) % 2 ^ 32 in
    wakes_all (λ t. timed_out t.waiting t) (prio_of k tick_task) (due tick k.matches) (record k { ticks = tick })

pub linked-tick_wakes : (k : Kernel) → IsLinked k → IsLinked (tick_wakes k)
linked-tick_wakes k v =
    let tick = (k.ticks + 1) % 2 ^ 32 in
    let j : Kernel = record k { ticks = tick } in
    let valid : IsLinked j = linked-scalars k k.timer_matches tick k.timer_count k.tick_signals k.timer_signals k.tick_calls k.processing k.in_callback k.lock k.free (word (k.ticks + 1)) v.clocks.timer_count v.internal.tick_waits v.internal.timer_waits v.lock.few v.lock.locked v.lock.callback v in
    linked-wakes_all (λ t. timed_out t.waiting t) (prio_of k tick_task) (due tick k.matches) j valid (AllWait-due j valid tick)
  where
    word : (n : ℕ) → IsWord (n % 2 ^ 32)
    word n = grind arith

abbrev pub tick_renewed : Kernel → Kernel
tick_renewed k = renewed at_tail (tick_wakes k)

pub linked-tick_renewed : (k : Kernel) → IsLinked k → IsLinked (tick_renewed k)
linked-tick_renewed k v = linked-renewing at_tail (record { kernel = tick_wakes k; outcome = Gone; blocks = [] }) (linked-tick_wakes k v)

-- a tick's kernel is that one with a signal less
pub kernel-ticked : (k : Kernel) → (ticked k).kernel ≡ signals (tick_renewed k) (k.tick_signals - 1)
kernel-ticked k =
    let tick = (k.ticks + 1) % 2 ^ 32 in
    ap (λ j. renewed at_tail j) (wakes_all-signals (λ t. timed_out t.waiting t) (prio_of k tick_task) (due tick k.matches) (record k { ticks = tick }) (k.tick_signals - 1))
    ∙ renewed-signals at_tail (tick_wakes k) (k.tick_signals - 1)

signals-same : (k : Kernel) → (tick_renewed k).tick_signals ≡ k.tick_signals
signals-same k =
    let tick = (k.ticks + 1) % 2 ^ 32 in
    tick_signals-renewed at_tail (λ t. timed_out t.waiting t) (prio_of k tick_task) (due tick k.matches) (record k { ticks = tick })

-- one signal less leaves some where there was not just one
still_some : (n : ℕ) → n ≢ 1 → is_zero n ≡ is_zero (n - 1)
still_some zero d = refl
still_some (suc zero) d = absurd (d refl)
still_some (suc (suc n)) d = ap is_zero (let e : suc n ≡ suc (suc n) - 1 = omega arith in e)

linked-ticked : (k : Kernel) → k.tick_signals ≢ 1 → IsLinked k → LinkedAfter (ticked k)
linked-ticked k d v =
    let t = tick_renewed k in
    let w = linked-tick_renewed k v in
    let tick : (task_at t 60).waiting ≡ (if is_zero (k.tick_signals - 1) then Signal else No) = w.internal.tick_waits ∙ ap (λ n. if is_zero n then Signal else No) (signals-same k) ∙ ap (λ b. if b then Signal else No) (still_some k.tick_signals d) in
    subst IsLinked (sym (kernel-ticked k))
    (linked-scalars t t.timer_matches t.ticks t.timer_count (k.tick_signals - 1) t.timer_signals t.tick_calls t.processing t.in_callback t.lock t.free w.clocks.ticks w.clocks.timer_count tick w.internal.timer_waits w.lock.few w.lock.locked w.lock.callback w)

linked-last_tick : (k : Kernel) → k.tick_signals ≡ 1 → IsLinked k → LinkedAfter (waits_for_signal tick_task (ticked k))
linked-last_tick k e v =
    let t = tick_renewed k in
    let w = linked-tick_renewed k v in
    let n = k.tick_signals - 1 in
    subst (λ j. LinkedAfter (waits_for_signal tick_task (record { kernel = j; outcome = Gone; blocks = [] }))) (sym (kernel-ticked k))
    (linked-waits t w 60 (inl refl) n t.timer_signals t.processing t.lock
    (ap (λ (u : Task). u.waiting) (task-updated t.tasks 60 (λ u. record u { waiting = Signal }) (omega (arith, w.sizes.tasks))) ∙ ap (λ b. if b then Signal else No) (sym (ap (λ m. is_zero (m - 1)) e)))
    (ap (λ (u : Task). u.waiting) (task-other t.tasks 60 (λ u. record u { waiting = Signal }) 61 (λ s. absurd (omega (arith, s)))) ∙ w.internal.timer_waits)
    w.lock.few w.lock.locked w.lock.callback)

pub linked-tick_unit : (k : Kernel) → IsLinked k → LinkedAfter (tick_unit k)
linked-tick_unit k v =
    choice_by LinkedAfter (k.tick_signals == 1) (waits_for_signal tick_task (ticked k)) (ticked k) (λ s. linked-last_tick k (equal k.tick_signals 1 s) v) (λ s. linked-ticked k (unequal k.tick_signals 1 s) v)

-- timers

pub linked-runs : (o : ℕ) (t : Timer) (n : ℕ) (k : Kernel) → IsContent (Timed t) → IsLinked k → IsLinked (runs o t n k)
linked-runs o t n k c v =
    let content : Content = Timed (record t { state = Running }) in
    linked-timer_matches (with_content k o content) (unmatched o k.timer_matches ++ (o, (k.timer_count + n) % 2 ^ 32) ∷ []) (linked-with_content k o content (c.0, c.1) v)

pub linked-rests : (o : ℕ) (t : Timer) (s : TimerState) (k : Kernel) → IsContent (Timed t) → IsLinked k → IsLinked (rests o t s k)
linked-rests o t s k c v =
    let content : Content = Timed (record t { state = s }) in
    linked-timer_matches (with_content k o content) (unmatched o k.timer_matches) (linked-with_content k o content (c.0, c.1) v)

pub linked-tmr_start : (c : Content) (r : Request) (k : Kernel) → IsContent c → IsLinked k → LinkedAfter (tmr_start c r k)
linked-tmr_start (Timed t) r k c v = linked-runs (argument r 0) t (start_delay t) k c v
linked-tmr_start _ r k c v = v

linked-tmr_stop_in : (s : TimerState) (t : Timer) (o : ℕ) (k : Kernel) → IsContent (Timed t) → IsLinked k → LinkedAfter (tmr_stop_in s t o k)
linked-tmr_stop_in Running t o k c v = linked-rests o t Stopped k c v
linked-tmr_stop_in _ t o k c v = v

pub linked-tmr_stop : (c : Content) (r : Request) (k : Kernel) → IsContent c → IsLinked k → LinkedAfter (tmr_stop c r k)
linked-tmr_stop (Timed t) r k c v = linked-tmr_stop_in t.state t (argument r 0) k c v
linked-tmr_stop _ r k c v = v

pub linked-tmr_remain_get : (c : Content) (r : Request) (k : Kernel) → IsLinked k → LinkedAfter (tmr_remain_get c r k)
linked-tmr_remain_get (Timed t) r k v = v
linked-tmr_remain_get _ r k v = v

pub linked-tmr_state_get : (c : Content) (k : Kernel) → IsLinked k → LinkedAfter (tmr_state_get c k)
linked-tmr_state_get (Timed t) k v = v
linked-tmr_state_get _ k v = v

pub linked-tmr_del : (c : Content) (r : Request) (k : Kernel) → IsContent c → IsLinked k → LinkedAfter (tmr_del c r k)
linked-tmr_del (Timed t) r k c v =
    let o = argument r 0 in
    let j = rests o t Stopped k in
    let valid : IsLinked j = linked-rests o t Stopped k c v in
    linked-objects j (update_object j.objects o (λ b. record b { deleted = true })) (length-set j.objects o _)
    (update_object_keeps (λ b. IsContent b.content) (λ b. record b { deleted = true }) j.objects o (λ c. c) valid.contents) valid
linked-tmr_del _ r k c v = v

-- the timer task's units

-- the timer task does not wait where it is ready
linked-timer_counts : (k : Kernel) → (task_at k 61).waiting ≡ No → IsLinked k → LinkedAfter (timer_counts k)
linked-timer_counts k w v =
    linked-scalars k k.timer_matches k.ticks ((k.timer_count + 1) % 2 ^ 32) k.tick_signals (k.timer_signals - 1) k.tick_calls true k.in_callback 1 k.free v.clocks.ticks (word (k.timer_count + 1)) v.internal.tick_waits (w ∙ no_test (is_zero (k.timer_signals - 1))) (omega arith) (λ p. omega arith) (λ p. refl) v
  where
    word : (n : ℕ) → IsWord (n % 2 ^ 32)
    word n = grind arith

    no_test : (b : Bool) → No ≡ (if b && false then Signal else No)
    no_test true = refl
    no_test false = refl

linked-in_callback : (k : Kernel) (b : Bool) → k.processing ≡ true → IsLinked k → IsLinked (record k { in_callback = b })
linked-in_callback k b p v =
    linked-scalars k k.timer_matches k.ticks k.timer_count k.tick_signals k.timer_signals k.tick_calls k.processing b k.lock k.free v.clocks.ticks v.clocks.timer_count v.internal.tick_waits v.internal.timer_waits v.lock.few v.lock.locked (λ e. p) v

linked-fired : (o : ℕ) (c : Content) (k : Kernel) → IsContent c → k.processing ≡ true → IsLinked k → IsLinked (fired o c k)
linked-fired o (Timed t) k c p v = by_kind t.periodic
  where
    by_kind : (b : Bool) → IsLinked (record (if b then runs o t t.period k else rests o t Completed k) { in_callback = has_callback t.callback })
    by_kind true = linked-in_callback (runs o t t.period k) (has_callback t.callback) p (linked-runs o t t.period k c v)
    by_kind false = linked-in_callback (rests o t Completed k) (has_callback t.callback) p (linked-rests o t Completed k c v)
linked-fired o _ k c p v = v

linked-timer_ends : (k : Kernel) → k.processing ≡ true → k.in_callback ≡ false → IsLinked k → LinkedAfter (timer_ends k)
linked-timer_ends k p quiet v =
    let e : Effect = record { kernel = record k { lock = 0; processing = false }; outcome = Quiet TmrEnd; blocks = [] } in
    let free : (task_at k 61).waiting ≡ No = v.internal.timer_waits ∙ ap (λ b. if is_zero k.timer_signals && not b then Signal else No) p ∙ no_wait (is_zero k.timer_signals) in
    choice_by LinkedAfter (k.timer_signals == 0) (waits_for_signal timer_task e) e
    (λ s. linked-waits k v 61 (inr refl) k.tick_signals k.timer_signals false 0
    (ap (λ (t : Task). t.waiting) (task-other k.tasks 61 (λ t. record t { waiting = Signal }) 60 (λ n. absurd (omega (arith, n)))) ∙ v.internal.tick_waits)
    (ap (λ (t : Task). t.waiting) (task-updated k.tasks 61 (λ t. record t { waiting = Signal }) (omega (arith, v.sizes.tasks))) ∙ ap (λ n. if is_zero n && true then Signal else No) (sym (equal k.timer_signals 0 s)))
    (omega arith) (λ q. absurd (false≢true q)) (λ q. sym quiet ∙ q))
    (λ s. linked-scalars k k.timer_matches k.ticks k.timer_count k.tick_signals k.timer_signals k.tick_calls false k.in_callback 0 k.free v.clocks.ticks v.clocks.timer_count v.internal.tick_waits (free ∙ some_left k.timer_signals (unequal k.timer_signals 0 s)) (omega arith) (λ q. absurd (false≢true q)) (λ q. sym quiet ∙ q) v)
  where
    no_wait : (b : Bool) → (if b && false then Signal else No) ≡ No
    no_wait true = refl
    no_wait false = refl

    some_left : (n : ℕ) → n ≢ 0 → No ≡ (if is_zero n && true then Signal else No)
    some_left zero d = absurd (d refl)
    some_left (suc n) d = refl

linked-timer_goes_on : (o : Option ℕ) (k : Kernel) → k.processing ≡ true → k.in_callback ≡ false → IsLinked k → LinkedAfter (timer_goes_on o k)
linked-timer_goes_on (Some o) k p quiet v = linked-fired o (object_at k o).content k (v.contents o) p v
linked-timer_goes_on None k p quiet v = linked-timer_ends k p quiet v

pub linked-timer_unit : (k : Kernel) → is_ready (task_at k 61) ≡ true → k.in_callback ≡ false → IsLinked k → LinkedAfter (timer_unit k)
linked-timer_unit k r quiet v =
    choice_by LinkedAfter k.processing (timer_goes_on (due_timer k.timer_count k.timer_matches) k) (timer_counts k)
    (λ p. linked-timer_goes_on (due_timer k.timer_count k.timer_matches) k p quiet v) (λ p. linked-timer_counts k free v)
  where
    free_test : (b : Bool) (w : Waiting) → w ≡ (if b then Signal else No) → waits_for_nothing w ≡ true → w ≡ No
    free_test true w e h = absurd (false≢true (sym (ap waits_for_nothing e) ∙ h))
    free_test false w e h = e

    free : (task_at k 61).waiting ≡ No
    free = free_test (is_zero k.timer_signals && not k.processing) (task_at k 61).waiting v.internal.timer_waits (ready_free (task_at k 61).alive (waits_for_nothing (task_at k 61).waiting) (is_zero (task_at k 61).suspended) r)

-- the end of a callback
pub linked-callback_ended : (k : Kernel) → IsLinked k → IsLinked (callback_ended k)
linked-callback_ended k v =
    linked-scalars k k.timer_matches k.ticks k.timer_count k.tick_signals k.timer_signals k.tick_calls k.processing false 1 k.free v.clocks.ticks v.clocks.timer_count v.internal.tick_waits v.internal.timer_waits (omega arith) (λ p. omega arith) (λ e. absurd (false≢true e)) v

-- several objects

-- the objects of a table without fault stand among the objects, are at most 8, and differ
inside_by : (o : ℕ) (os : List ℕ) (k : Kernel) → (deleted_error os k ≡ None → All (λ o. o < length k.objects) os) → (b : Bool) → (object_at k o).deleted ≡ b → (if b then Some ObjectType else deleted_error os k) ≡ None → All (λ o. o < length k.objects) (o ∷ os)
inside_by o os k rest true e h = absurd (some≢none ObjectType h)
inside_by o os k rest false e h = All-cons (λ o. o < length k.objects) o os (object_inside k o e) (rest h)

pub all_inside : (os : List ℕ) (k : Kernel) → deleted_error os k ≡ None → All (λ o. o < length k.objects) os
all_inside [] k h = All-nil (λ o. o < length k.objects)
all_inside (o ∷ os) k h = inside_by o os k (all_inside os k) (object_at k o).deleted refl h

zero_of : (n : ℕ) → is_zero n ≡ true → n ≡ 0
zero_of zero h = refl
zero_of (suc n) h = absurd (false≢true h)

all_differ : (os : List ℕ) → repeats os ≡ false → (o : ℕ) → count_of o os ≤ 1
all_differ [] h o = omega arith
all_differ (x ∷ os) h o =
    let none : count_of x os ≡ 0 = zero_of (count_of x os) (not_false (is_zero (count_of x os)) (or_first (not (is_zero (count_of x os))) (repeats os) h)) in
    elim (eqb_tells x o) [
      | inl e ↦ omega (arith, ap one_if e.0, none, ap (λ z. count_of z os) e.1)
      | inr e ↦ omega (arith, ap one_if e.0, all_differ os (or_second (not (is_zero (count_of x os))) (repeats os) h) o)
    ]

-- what the checks of a table tell
pub record TableHolds (r : Request) (k : Kernel) : Type 0 where
  pub inside : All (λ o. o < length k.objects) (table_objects r)
  pub few : length (table_objects r) ≤ 8
  pub different : (o : ℕ) → count_of o (table_objects r) ≤ 1

pub table_holds : (r : Request) (k : Kernel) → multi_error r k ≡ None → TableHolds r k
table_holds r k h = by_fault (is_table_fault r) refl h
  where
    by_fault : (b : Bool) → is_table_fault r ≡ b → (if b then Some Table else first_error (kinds_error (table_objects r) (kinds_of k)) (deleted_error (table_objects r) k)) ≡ None → TableHolds r k
    by_fault true e h = absurd (some≢none Table h)
    by_fault false e h =
        let sound = or_second (not r.table) (nat_lt 8 r.n_ids || repeats (table_objects r)) e in
        record {
          inside = all_inside (table_objects r) k (second_passed (kinds_error (table_objects r) (kinds_of k)) (deleted_error (table_objects r) k) h);
          few = omega (arith, length-take r.n_ids r.ids, not_less 8 r.n_ids (or_first (nat_lt 8 r.n_ids) (repeats (table_objects r)) sound));
          different = all_differ (table_objects r) (or_second (nat_lt 8 r.n_ids) (repeats (table_objects r)) sound);
        }

linked-taken_from : (o : ℕ) (c : Content) (k : Kernel) → IsContent c → IsLinked k → IsLinked (taken_from o c k)
linked-taken_from o (Count zero) k c v = v
linked-taken_from o (Count (suc n)) k c v = linked-with_content k o (Count n) (omega (arith, c)) v
linked-taken_from o (Messages limit []) k c v = v
linked-taken_from o (Messages limit (m ∷ ms)) k c v =
    linked-free (with_content k o (Messages limit ms)) (k.free + 1) (linked-with_content k o (Messages limit ms) (omega (arith, c)) v)
linked-taken_from o _ k c v = v

pub linked-taken_all : (os : List ℕ) (k : Kernel) → IsLinked k → IsLinked (taken_all os k)
linked-taken_all [] k v = v
linked-taken_all (o ∷ os) k v = linked-taken_all os (taken_from o (object_at k o).content k) (linked-taken_from o (object_at k o).content k (v.contents o) v)

linked-multi_takes : (n : ℕ) (ps : List (Option (ℕ × ℕ))) (r : Request) (x : ℕ) (k : Kernel) → TableHolds r k → IsLinked k → MayCall x k → LinkedAfter (multi_takes n ps r x k)
linked-multi_takes zero ps r x k t v m =
    let w : Wait = record { waiting = Multi; objects = table_objects r; mask = 0; opt = 0; table = argument r 0; timeout = argument r 2 } in
    linked-waits_unless k (argument r 3 == 1) (blocks_on k x w) v
    (λ l. let c = caller_ready k v x m l in linked-blocked k v x c.0 w c.1 c.2 refl t.inside t.few t.different)
linked-multi_takes (suc n) ps r x k t v m = linked-taken_all (table_objects r) k v

pub linked-multi_checked : (e : Option OsErr) (r : Request) (x : ℕ) (k : Kernel) → multi_error r k ≡ e → IsLinked k → MayCall x k → LinkedAfter (multi_checked e r x k)
linked-multi_checked (Some err) r x k e v m = v
linked-multi_checked None r x k e v m =
    let ps = polls (table_objects r) k in
    linked-multi_takes (taken_count ps) ps r x k (table_holds r k e) v m
