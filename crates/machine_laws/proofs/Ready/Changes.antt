-- Which changes of the kernel leave ready tasks ready: wakes, changes of objects, renewals, and so every post.
use Rattle.machine_laws.proofs.Common.{◌≡◌, Bool, ℕ, refl, true, List, [], false, ◌∙◌, ◌∷◌, None, Some, sym, Option, subst, ◌+◌, ◌==◌, nat_lt, ◌^◌, false≢true, is_post, OsErr, CallUnknown, Finished, Waiting, Request, Service, FlagPost, QPost, SemPost, TaskQPost, TaskSemPost, TimeTick, choice, call_of, call_error, Effect, fine, refused, result_of, wakes_all, posted, post_request, after_checks, content_for, perform, Kernel, task_at, idle_task, Task, is_ready, list_at, Content, timer_task, Bits, Count, no_task, tick_task}
use Rattle.std.proofs.Common.{◌-◌, length, get_or, ◌&&◌, not}
use Rattle.kern_base.specs.declared.errors.OsErr.TheVariants.{SemOverflow}
use Rattle.kern_base.specs.declared.outcomes.Waiting.TheVariants.{No, TaskSem, TaskQ, Signal}
use Rattle.kern_model.specs.State.{Messages, update_task, with_task, with_content, is_zero, waits_for_nothing, handler_task}
use Rattle.kern_model.specs.Call.{Call}
use Rattle.kern_model.specs.Effect.{done, message, wakes, answered_task, chosen, posted_result, and_then}
use Rattle.kern_model.specs.Checks.{argument, named_task}
use Rattle.kern_model.specs.FlagBits.{has_bit, ready_bits, bits_after}
use Rattle.kern_model.specs.Semaphores.{sem_post, sem_post_to}
use Rattle.kern_model.specs.Queues.{q_post, q_post_to, store_in, store_error, stored}
use Rattle.kern_model.specs.Flags.{flag_wakes, flag_wakes_all, flag_post}
use Rattle.kern_model.specs.TaskObjects.{task_counts_up, task_sem_post_to, task_store, task_q_post_to}
use Rattle.kern_model.specs.RoundRobin.{first_in, full_quantum, rotates, spends, round_robin}
use Rattle.kern_model.specs.Time.{signalled, signals_tick, signals_timer, time_tick}
use Rattle.kern_model.specs.Inherit.{moved, moved_all, moves_of, renewed_tasks, renewed, with_prio}
use Rattle.kern_model.proofs.Lemmas.{update_task_at}

-- ready tasks stay ready
abbrev pub StayReady : Kernel → Kernel → Type 0
StayReady k j = (y : ℕ) → is_ready (task_at k y) ≡ true → is_ready (task_at j y) ≡ true

-- so they do, and the lock and whether the timer task is processing stay
pub record LeavesReady (k j : Kernel) : Type 0 where
  pub lock : j.lock ≡ k.lock
  pub processing : j.processing ≡ k.processing
  pub ready : StayReady k j

abbrev pub LeavesReadyBy : Kernel → Effect → Type 0
LeavesReadyBy k e = LeavesReady k e.kernel

pub leaves_ready-refl : (k : Kernel) → LeavesReady k k
leaves_ready-refl k = record { lock = refl; processing = refl; ready = λ y r. r }

pub leaves_ready-trans : (a b c : Kernel) → LeavesReady a b → LeavesReady b c → LeavesReady a c
leaves_ready-trans a b c p q = record { lock = q.lock ∙ p.lock; processing = q.processing ∙ p.processing; ready = λ y r. q.ready y (p.ready y r) }

-- the same tasks
pub leaves_ready-same : (k j : Kernel) → j.lock ≡ k.lock → j.processing ≡ k.processing → j.tasks ≡ k.tasks → LeavesReady k j
leaves_ready-same k j lock processing tasks = record { lock = lock; processing = processing; ready = λ y r. subst (λ ts. is_ready (get_or ts y no_task) ≡ true) (sym tasks) r }

-- a change of one task that leaves it ready
pub ready-updated : (f : Task → Task) → ((t : Task) → is_ready t ≡ true → is_ready (f t) ≡ true) → (ts : List Task) (x y : ℕ) → is_ready (get_or ts y no_task) ≡ true → is_ready (get_or (update_task ts x f) y no_task) ≡ true
ready-updated f h ts x = update_task_at (λ y t. is_ready (get_or ts y no_task) ≡ true → is_ready t ≡ true) f ts x (λ _ r. h (get_or ts x no_task) r) (λ y r. r)

pub leaves_ready-updated : (k j : Kernel) (x : ℕ) (f : Task → Task) → ((t : Task) → is_ready t ≡ true → is_ready (f t) ≡ true) → j.lock ≡ k.lock → j.processing ≡ k.processing → j.tasks ≡ update_task k.tasks x f → LeavesReady k j
leaves_ready-updated k j x f h lock processing tasks =
    record { lock = lock; processing = processing; ready = λ y r. subst (λ ts. is_ready (get_or ts y no_task) ≡ true) (sym tasks) (ready-updated f h k.tasks x y r) }

pub leaves_ready-with_task : (k : Kernel) (x : ℕ) (f : Task → Task) → ((t : Task) → is_ready t ≡ true → is_ready (f t) ≡ true) → LeavesReady k (with_task k x f)
leaves_ready-with_task k x f h = leaves_ready-updated k (with_task k x f) x f h refl refl refl

-- a ready task waits for nothing
awake : (alive waits runs : Bool) → alive && (waits && runs) ≡ true → alive && (true && runs) ≡ true
awake true true runs h = h
awake true false runs h = absurd (false≢true h)
awake false waits runs h = h

pub leaves_ready-wakes : (f : Finished) (h x : ℕ) (k : Kernel) → LeavesReady k (wakes f h x k)
leaves_ready-wakes f h x k =
    leaves_ready-updated k (wakes f h x k) x (answered_task f) (λ t r. awake t.alive (waits_for_nothing t.waiting) (is_zero t.suspended) r) refl refl refl

pub leaves_ready-wakes_all : (f : Task → Finished) (h : ℕ) (xs : List ℕ) (k : Kernel) → LeavesReady k (wakes_all f h xs k)
leaves_ready-wakes_all f h [] k = leaves_ready-refl k
leaves_ready-wakes_all f h (x ∷ xs) k =
    let j = wakes (f (task_at k x)) h x k in
    leaves_ready-trans k j (wakes_all f h xs j) (leaves_ready-wakes (f (task_at k x)) h x k) (leaves_ready-wakes_all f h xs j)

-- moves to other priorities

pub leaves_ready-moved : (place : List ℕ → ℕ) (x p : ℕ) (k : Kernel) → LeavesReady k (moved place x p k)
leaves_ready-moved place x p k = leaves_ready-updated k (moved place x p k) x (with_prio p) (λ t r. r) refl refl refl

pub leaves_ready-moved_all : (place : List ℕ → ℕ) (ms : List (ℕ × ℕ)) (k : Kernel) → LeavesReady k (moved_all place ms k)
leaves_ready-moved_all place [] k = leaves_ready-refl k
leaves_ready-moved_all place (m ∷ ms) k =
    let j = moved place m.0 m.1 k in
    leaves_ready-trans k j (moved_all place ms j) (leaves_ready-moved place m.0 m.1 k) (leaves_ready-moved_all place ms j)

pub leaves_ready-renewed : (place : List ℕ → ℕ) (k : Kernel) → LeavesReady k (renewed place k)
leaves_ready-renewed place k = leaves_ready-moved_all place (moves_of renewed_tasks k) k

-- semaphores, queues, event flags

leaves_ready-sem_post_to : (xs : List ℕ) (n o opt h : ℕ) (k : Kernel) → LeavesReadyBy k (sem_post_to xs n o opt h k)
leaves_ready-sem_post_to [] n o opt h k =
    let j = with_content k o (Count (n + 1)) in
    choice (LeavesReadyBy k) (n == 2 ^ 32 - 1) (refused k SemOverflow) (done j (fine (n + 1))) (leaves_ready-refl k) (leaves_ready-same k j refl refl refl)
leaves_ready-sem_post_to (x ∷ xs) n o opt h k = leaves_ready-wakes_all (posted_result o (fine 0)) h (chosen (opt == 2) (x ∷ xs)) k

pub leaves_ready-sem_post : (c : Content) (r : Request) (h : ℕ) (k : Kernel) → LeavesReadyBy k (sem_post c r h k)
leaves_ready-sem_post (Count n) r h k = leaves_ready-sem_post_to (list_at k.pend (argument r 0)) n (argument r 0) (argument r 1) h k
leaves_ready-sem_post _ r h k = leaves_ready-refl k

leaves_ready-store_in : (e : Option OsErr) (o limit : ℕ) (ms : List (ℕ × ℕ)) (k : Kernel) → LeavesReadyBy k (store_in e o limit ms k)
leaves_ready-store_in (Some err) o limit ms k = leaves_ready-refl k
leaves_ready-store_in None o limit ms k = leaves_ready-same k (store_in None o limit ms k).kernel refl refl refl

leaves_ready-q_post_to : (xs : List ℕ) (limit : ℕ) (ms : List (ℕ × ℕ)) (r : Request) (h : ℕ) (k : Kernel) → LeavesReadyBy k (q_post_to xs limit ms r h k)
leaves_ready-q_post_to [] limit ms r h k =
    leaves_ready-store_in (store_error (length ms) limit k.free) (argument r 0) limit (stored (has_bit (argument r 3) 1) (argument r 1, argument r 2) ms) k
leaves_ready-q_post_to (x ∷ xs) limit ms r h k =
    leaves_ready-wakes_all (posted_result (argument r 0) (message (argument r 1) (argument r 2))) h (chosen (has_bit (argument r 3) 2) (x ∷ xs)) k

pub leaves_ready-q_post : (c : Content) (r : Request) (h : ℕ) (k : Kernel) → LeavesReadyBy k (q_post c r h k)
leaves_ready-q_post (Messages limit ms) r h k = leaves_ready-q_post_to (list_at k.pend (argument r 0)) limit ms r h k
leaves_ready-q_post _ r h k = leaves_ready-refl k

leaves_ready-flag_wakes : (o : Option ℕ) (h x : ℕ) (k : Kernel) → LeavesReady k (flag_wakes o h x k)
leaves_ready-flag_wakes None h x k = leaves_ready-refl k
leaves_ready-flag_wakes (Some ready) h x k = leaves_ready-wakes (result_of (fine ready) (task_at k x)) h x k

leaves_ready-flag_wakes_all : (bits h : ℕ) (xs : List ℕ) (k : Kernel) → LeavesReady k (flag_wakes_all bits h xs k)
leaves_ready-flag_wakes_all bits h [] k = leaves_ready-refl k
leaves_ready-flag_wakes_all bits h (x ∷ xs) k =
    let o = ready_bits bits (task_at k x).mask (task_at k x).opt in
    leaves_ready-trans k (flag_wakes o h x k) (flag_wakes_all bits h xs (flag_wakes o h x k)) (leaves_ready-flag_wakes o h x k) (leaves_ready-flag_wakes_all bits h xs (flag_wakes o h x k))

pub leaves_ready-flag_post : (c : Content) (r : Request) (h : ℕ) (k : Kernel) → LeavesReadyBy k (flag_post c r h k)
leaves_ready-flag_post (Bits old) r h k =
    let bits = bits_after old (argument r 1) (argument r 2) in
    let j = with_content k (argument r 0) (Bits bits) in
    let xs = list_at k.pend (argument r 0) in
    leaves_ready-trans k j (flag_wakes_all bits h xs j) (leaves_ready-same k j refl refl refl) (leaves_ready-flag_wakes_all bits h xs j)
leaves_ready-flag_post _ r h k = leaves_ready-refl k

-- a task's own semaphore and queue

leaves_ready-task_counts_up : (n x : ℕ) (k : Kernel) → LeavesReadyBy k (task_counts_up n x k)
leaves_ready-task_counts_up n x k =
    let f : Task → Task = λ t. record t { count = n + 1 } in
    choice (LeavesReadyBy k) (n == 2 ^ 32 - 1) (refused k SemOverflow) (done (with_task k x f) (fine (n + 1))) (leaves_ready-refl k) (leaves_ready-with_task k x f (λ t r. r))

pub leaves_ready-task_sem_post_to : (w : Waiting) (x h : ℕ) (k : Kernel) → LeavesReadyBy k (task_sem_post_to w x h k)
leaves_ready-task_sem_post_to TaskSem x h k = leaves_ready-wakes_all (result_of (fine 0)) h (x ∷ []) k
leaves_ready-task_sem_post_to _ x h k = leaves_ready-task_counts_up (task_at k x).count x k

leaves_ready-task_store : (e : Option OsErr) (x : ℕ) (ms : List (ℕ × ℕ)) (k : Kernel) → LeavesReadyBy k (task_store e x ms k)
leaves_ready-task_store (Some err) x ms k = leaves_ready-refl k
leaves_ready-task_store None x ms k = leaves_ready-updated k (task_store None x ms k).kernel x (λ t. record t { messages = ms }) (λ t r. r) refl refl refl

pub leaves_ready-task_q_post_to : (w : Waiting) (r : Request) (x h : ℕ) (k : Kernel) → LeavesReadyBy k (task_q_post_to w r x h k)
leaves_ready-task_q_post_to TaskQ r x h k = leaves_ready-wakes_all (result_of (message (argument r 1) (argument r 2))) h (x ∷ []) k
leaves_ready-task_q_post_to _ r x h k =
    let t = task_at k x in
    leaves_ready-task_store (store_error (length t.messages) t.limit k.free) x (stored (has_bit (argument r 3) 1) (argument r 1, argument r 2) t.messages) k

-- the tick

leaves_ready-signalled : (w : Waiting) (x h : ℕ) (k : Kernel) → LeavesReadyBy k (signalled w x h k)
leaves_ready-signalled Signal x h k =
    leaves_ready-updated k (signalled Signal x h k).kernel x (λ t. record t { waiting = No }) (λ t r. awake t.alive (waits_for_nothing t.waiting) (is_zero t.suspended) r) refl refl refl
leaves_ready-signalled _ x h k = leaves_ready-refl k

leaves_ready-signals_tick : (h : ℕ) (k : Kernel) → LeavesReadyBy k (signals_tick h k)
leaves_ready-signals_tick h k =
    let j : Kernel = record k { tick_signals = k.tick_signals + 1 } in
    let w = (task_at k tick_task).waiting in
    leaves_ready-trans k j (signalled w tick_task h j).kernel (leaves_ready-same k j refl refl refl) (leaves_ready-signalled w tick_task h j)

leaves_ready-signals_timer : (h : ℕ) (k : Kernel) → LeavesReadyBy k (signals_timer h k)
leaves_ready-signals_timer h k =
    let i : Kernel = record k { tick_calls = k.tick_calls + 1 } in
    let j : Kernel = record k { tick_calls = 0; timer_signals = k.timer_signals + 1 } in
    let w = (task_at k timer_task).waiting in
    choice (LeavesReadyBy k) (nat_lt (k.tick_calls + 1) k.settings.tmr_div) (done i (fine 0)) (signalled w timer_task h j) (leaves_ready-same k i refl refl refl)
    (leaves_ready-trans k j (signalled w timer_task h j).kernel (leaves_ready-same k j refl refl refl) (leaves_ready-signalled w timer_task h j))

pub leaves_ready-rotates : (x p : ℕ) (k : Kernel) → LeavesReadyBy k (rotates x p k)
leaves_ready-rotates x p k = leaves_ready-updated k (rotates x p k).kernel (first_in (list_at (rotates x p k).kernel.ready p)) full_quantum (λ t r. r) refl refl refl

leaves_ready-spends : (xs : List ℕ) (p : ℕ) (k : Kernel) → LeavesReadyBy k (spends xs p k)
leaves_ready-spends [] p k = leaves_ready-refl k
leaves_ready-spends (y ∷ []) p k = leaves_ready-with_task k y (λ t. record t { quantum = t.quantum - 1 }) (λ t r. r)
leaves_ready-spends (y ∷ z ∷ zs) p k =
    let f : Task → Task = λ t. record t { quantum = t.quantum - 1 } in
    let j = with_task k y f in
    let first : LeavesReady k j = leaves_ready-with_task k y f (λ t r. r) in
    choice (LeavesReadyBy k) ((task_at j y).quantum == 0) (rotates y p j) (done j (fine 0)) (leaves_ready-trans k j (rotates y p j).kernel first (leaves_ready-rotates y p j)) first

leaves_ready-round_robin : (c : ℕ) (k : Kernel) → LeavesReadyBy k (round_robin c k)
leaves_ready-round_robin c k =
    choice (LeavesReadyBy k) (k.settings.round_robin && ((k.lock == 0) && not (first_in (list_at k.ready c) == idle_task))) (spends (list_at k.ready c) c k) (done k (fine 0)) (leaves_ready-spends (list_at k.ready c) c k) (leaves_ready-refl k)

pub leaves_ready-time_tick : (c h : ℕ) (k : Kernel) → LeavesReadyBy k (time_tick c h k)
leaves_ready-time_tick c h k =
    let e = signals_tick h k in
    let f = and_then e (round_robin c) in
    leaves_ready-trans k f.kernel (signals_timer h f.kernel).kernel (leaves_ready-trans k e.kernel (round_robin c e.kernel).kernel (leaves_ready-signals_tick h k) (leaves_ready-round_robin c e.kernel)) (leaves_ready-signals_timer h f.kernel)

-- Every post leaves ready tasks ready.

leaves_ready-perform : (s : Service) (call : Call) (k : Kernel) → is_post s ≡ true → LeavesReadyBy k (perform s call k)
leaves_ready-perform SemPost call k p = leaves_ready-sem_post (content_for call.request k) call.request call.compared k
leaves_ready-perform QPost call k p = leaves_ready-q_post (content_for call.request k) call.request call.compared k
leaves_ready-perform FlagPost call k p = leaves_ready-flag_post (content_for call.request k) call.request call.compared k
leaves_ready-perform TaskSemPost call k p = let y = named_task call.request call.caller in leaves_ready-task_sem_post_to (task_at k y).waiting y call.compared k
leaves_ready-perform TaskQPost call k p = let y = named_task call.request call.caller in leaves_ready-task_q_post_to (task_at k y).waiting call.request y call.compared k
leaves_ready-perform TimeTick call k p = leaves_ready-time_tick call.interrupted call.compared k
leaves_ready-perform _ call k p = absurd (false≢true p)

leaves_ready-after_checks : (e : Option OsErr) (call : Call) (k : Kernel) → is_post call.request.service ≡ true → LeavesReadyBy k (after_checks e call k)
leaves_ready-after_checks (Some err) call k p = leaves_ready-refl k
leaves_ready-after_checks None call k p = leaves_ready-perform call.request.service call k p

pub leaves_ready-posted : (served : Service → Bool) (s : Service) (args : List ℕ) (c h : ℕ) (k : Kernel) → is_post s ≡ true → LeavesReady k (posted served s args c h k).kernel
leaves_ready-posted served s args c h k p =
    let call = call_of (post_request s args) handler_task c h in
    choice (LeavesReadyBy k) (served s) (after_checks (call_error call.request handler_task k) call k) (refused k CallUnknown) (leaves_ready-after_checks (call_error call.request handler_task k) call k p) (leaves_ready-refl k)
