-- A post changes no present priority, no lock, and nothing else that decides who runs but the ready lists.
use Rattle.kern_model.proofs.Common.{Call, call_of, ◌≡◌, ℕ, List, [], ◌∷◌, length, refl, ap, ◌∙◌, Option, Some, None, Bool, true, not, ◌&&◌, ◌==◌, ◌-◌, ◌^◌, ◌+◌, nat_lt, slice_index_or, Service, SemPost, QPost, FlagPost, TaskSemPost, TaskQPost, TimeTick, Request, OsErr, SemOverflow, CallUnknown, Finished, Waiting, No, TaskSem, TaskQ, Signal, is_post, Kernel, Task, Content, Count, Messages, Bits, no_task, list_at, task_at, with_content, with_task, tick_task, timer_task, idle_task, Effect, wakes, wakes_all, answered_task, refused, done, fine, message, posted_result, result_of, chosen, and_then, argument, named_task, call_error, effect, after_checks, perform, content_for, posted, post_request}
use Rattle.std.proofs.lemmas.Bool.{false≢true}
use Rattle.kern_model.specs.Posts.{PostKeeps}
use Rattle.kern_model.specs.FlagBits.{has_bit, ready_bits, bits_after}
use Rattle.kern_model.specs.Semaphores.{sem_post_to, sem_post}
use Rattle.kern_model.specs.Queues.{store_in, store_error, stored, q_post_to, q_post}
use Rattle.kern_model.specs.Flags.{flag_wakes, flag_wakes_all, flag_post}
use Rattle.kern_model.specs.TaskObjects.{task_counts_up, task_sem_post_to, task_store, task_q_post_to}
use Rattle.kern_model.specs.RoundRobin.{first_in, full_quantum, rotates, spends, round_robin}
use Rattle.kern_model.specs.Time.{signalled, signals_tick, signals_timer, time_tick}
use Rattle.kern_model.proofs.Halves.Effects.{choice}
use Rattle.kern_model.proofs.Basics.Updates.{update_task_same}

pub keeps-refl : (k : Kernel) → PostKeeps k k
keeps-refl k =
    record { lock = refl; prio = λ x. refl; base = λ x. refl; alive = λ x. refl; suspended = λ x. refl; ticks = refl; timer_count = refl; processing = refl; in_callback = refl; settings = refl }

pub keeps-trans : (a b c : Kernel) → PostKeeps a b → PostKeeps b c → PostKeeps a c
keeps-trans a b c p q =
    record {
      lock = q.lock ∙ p.lock;
      prio = λ x. q.prio x ∙ p.prio x;
      base = λ x. q.base x ∙ p.base x;
      alive = λ x. q.alive x ∙ p.alive x;
      suspended = λ x. q.suspended x ∙ p.suspended x;
      ticks = q.ticks ∙ p.ticks;
      timer_count = q.timer_count ∙ p.timer_count;
      processing = q.processing ∙ p.processing;
      in_callback = q.in_callback ∙ p.in_callback;
      settings = q.settings ∙ p.settings;
    }

-- other objects
pub keeps-with_content : (k : Kernel) (o : ℕ) (c : Content) → PostKeeps k (with_content k o c)
keeps-with_content k o c =
    record { lock = refl; prio = λ x. refl; base = λ x. refl; alive = λ x. refl; suspended = λ x. refl; ticks = refl; timer_count = refl; processing = refl; in_callback = refl; settings = refl }

pub keeps-wakes : (f : Finished) (h x : ℕ) (k : Kernel) → PostKeeps k (wakes f h x k)
keeps-wakes f h x k =
    record {
      lock = refl;
      prio = update_task_same (λ t. t.prio) (answered_task f) (λ t. refl) k.tasks x;
      base = update_task_same (λ t. t.base) (answered_task f) (λ t. refl) k.tasks x;
      alive = update_task_same (λ t. t.alive) (answered_task f) (λ t. refl) k.tasks x;
      suspended = update_task_same (λ t. t.suspended) (answered_task f) (λ t. refl) k.tasks x;
      ticks = refl;
      timer_count = refl;
      processing = refl;
      in_callback = refl;
      settings = refl;
    }

pub keeps-wakes_all : (f : Task → Finished) (h : ℕ) (xs : List ℕ) (k : Kernel) → PostKeeps k (wakes_all f h xs k)
keeps-wakes_all f h [] k = keeps-refl k
keeps-wakes_all f h (x ∷ xs) k =
    let j = wakes (f (task_at k x)) h x k in
    keeps-trans k j (wakes_all f h xs j) (keeps-wakes (f (task_at k x)) h x k) (keeps-wakes_all f h xs j)

abbrev pub KeepsBy : Kernel → Effect → Type 0
KeepsBy k e = PostKeeps k e.kernel

-- a change of one task that leaves these four fields, and of parts of the kernel that do not count
pub record KeepsTask (f : Task → Task) : Type 0 where
  pub prio : (t : Task) → (f t).prio ≡ t.prio
  pub base : (t : Task) → (f t).base ≡ t.base
  pub alive : (t : Task) → (f t).alive ≡ t.alive
  pub suspended : (t : Task) → (f t).suspended ≡ t.suspended

pub keeps-with_task : (k : Kernel) (x : ℕ) (f : Task → Task) → KeepsTask f → PostKeeps k (with_task k x f)
keeps-with_task k x f h =
    record {
      lock = refl;
      prio = update_task_same (λ t. t.prio) f h.prio k.tasks x;
      base = update_task_same (λ t. t.base) f h.base k.tasks x;
      alive = update_task_same (λ t. t.alive) f h.alive k.tasks x;
      suspended = update_task_same (λ t. t.suspended) f h.suspended k.tasks x;
      ticks = refl;
      timer_count = refl;
      processing = refl;
      in_callback = refl;
      settings = refl;
    }

-- the same tasks, and other lists, signals or free messages
pub keeps-same : (k j i : Kernel) → PostKeeps k j → i.tasks ≡ j.tasks → (i.lock ≡ j.lock) × (i.ticks ≡ j.ticks) × (i.timer_count ≡ j.timer_count) × (i.processing ≡ j.processing) × (i.in_callback ≡ j.in_callback) × (i.settings ≡ j.settings) → PostKeeps k i
keeps-same k j i h e s =
    record {
      lock = s.0 ∙ h.lock;
      prio = λ x. ap (λ ts. Task.prio (slice_index_or ts x no_task)) e ∙ h.prio x;
      base = λ x. ap (λ ts. Task.base (slice_index_or ts x no_task)) e ∙ h.base x;
      alive = λ x. ap (λ ts. Task.alive (slice_index_or ts x no_task)) e ∙ h.alive x;
      suspended = λ x. ap (λ ts. Task.suspended (slice_index_or ts x no_task)) e ∙ h.suspended x;
      ticks = s.1 ∙ h.ticks;
      timer_count = s.2 ∙ h.timer_count;
      processing = s.3 ∙ h.processing;
      in_callback = s.4 ∙ h.in_callback;
      settings = s.5 ∙ h.settings;
    }

keeps-and_then : (k : Kernel) (e : Effect) (f : Kernel → Effect) → KeepsBy k e → KeepsBy e.kernel (f e.kernel) → KeepsBy k (and_then e f)
keeps-and_then k e f p q = keeps-trans k e.kernel (f e.kernel).kernel p q

keeps-sem_post_to : (xs : List ℕ) (n o opt h : ℕ) (k : Kernel) → KeepsBy k (sem_post_to xs n o opt h k)
keeps-sem_post_to [] n o opt h k =
    choice (KeepsBy k) (n == 2 ^ 32 - 1) (refused k SemOverflow) (done (with_content k o (Count (n + 1))) (fine (n + 1))) (keeps-refl k) (keeps-with_content k o (Count (n + 1)))
keeps-sem_post_to (x ∷ xs) n o opt h k = keeps-wakes_all (posted_result o (fine 0)) h (chosen (opt == 2) (x ∷ xs)) k

keeps-sem_post : (c : Content) (r : Request) (h : ℕ) (k : Kernel) → KeepsBy k (sem_post c r h k)
keeps-sem_post (Count n) r h k = keeps-sem_post_to (list_at k.pend (argument r 0)) n (argument r 0) (argument r 1) h k
keeps-sem_post _ r h k = keeps-refl k

keeps-store_in : (e : Option OsErr) (o limit : ℕ) (ms : List (ℕ × ℕ)) (k : Kernel) → KeepsBy k (store_in e o limit ms k)
keeps-store_in (Some err) o limit ms k = keeps-refl k
keeps-store_in None o limit ms k =
    let j = with_content k o (Messages limit ms) in
    keeps-same k j (record j { free = k.free - 1 }) (keeps-with_content k o (Messages limit ms)) refl (refl, refl, refl, refl, refl, refl)

keeps-q_post_to : (xs : List ℕ) (limit : ℕ) (ms : List (ℕ × ℕ)) (r : Request) (h : ℕ) (k : Kernel) → KeepsBy k (q_post_to xs limit ms r h k)
keeps-q_post_to [] limit ms r h k =
    keeps-store_in (store_error (length ms) limit k.free) (argument r 0) limit (stored (has_bit (argument r 3) 1) (argument r 1, argument r 2) ms) k
keeps-q_post_to (x ∷ xs) limit ms r h k =
    keeps-wakes_all (posted_result (argument r 0) (message (argument r 1) (argument r 2))) h (chosen (has_bit (argument r 3) 2) (x ∷ xs)) k

keeps-q_post : (c : Content) (r : Request) (h : ℕ) (k : Kernel) → KeepsBy k (q_post c r h k)
keeps-q_post (Messages limit ms) r h k = keeps-q_post_to (list_at k.pend (argument r 0)) limit ms r h k
keeps-q_post _ r h k = keeps-refl k

pub keeps-flag_wakes : (o : Option ℕ) (h x : ℕ) (k : Kernel) → PostKeeps k (flag_wakes o h x k)
keeps-flag_wakes None h x k = keeps-refl k
keeps-flag_wakes (Some ready) h x k = keeps-wakes (result_of (fine ready) (task_at k x)) h x k

keeps-flag_wakes_all : (bits h : ℕ) (xs : List ℕ) (k : Kernel) → PostKeeps k (flag_wakes_all bits h xs k)
keeps-flag_wakes_all bits h [] k = keeps-refl k
keeps-flag_wakes_all bits h (x ∷ xs) k =
    let o = ready_bits bits (task_at k x).mask (task_at k x).opt in
    keeps-trans k (flag_wakes o h x k) (flag_wakes_all bits h xs (flag_wakes o h x k)) (keeps-flag_wakes o h x k) (keeps-flag_wakes_all bits h xs (flag_wakes o h x k))

keeps-flag_post : (c : Content) (r : Request) (h : ℕ) (k : Kernel) → KeepsBy k (flag_post c r h k)
keeps-flag_post (Bits old) r h k =
    let bits = bits_after old (argument r 1) (argument r 2) in
    let j = with_content k (argument r 0) (Bits bits) in
    let xs = list_at k.pend (argument r 0) in
    keeps-trans k j (flag_wakes_all bits h xs j) (keeps-with_content k (argument r 0) (Bits bits)) (keeps-flag_wakes_all bits h xs j)
keeps-flag_post _ r h k = keeps-refl k

keeps-task_counts_up : (n x : ℕ) (k : Kernel) → KeepsBy k (task_counts_up n x k)
keeps-task_counts_up n x k =
    choice (KeepsBy k) (n == 2 ^ 32 - 1) (refused k SemOverflow) (done (with_task k x (λ t. record t { count = n + 1 })) (fine (n + 1))) (keeps-refl k)
    (keeps-with_task k x (λ t. record t { count = n + 1 }) (record { prio = λ t. refl; base = λ t. refl; alive = λ t. refl; suspended = λ t. refl }))

keeps-task_sem_post_to : (w : Waiting) (x h : ℕ) (k : Kernel) → KeepsBy k (task_sem_post_to w x h k)
keeps-task_sem_post_to TaskSem x h k = keeps-wakes_all (result_of (fine 0)) h (x ∷ []) k
keeps-task_sem_post_to _ x h k = keeps-task_counts_up (task_at k x).count x k

keeps-task_store : (e : Option OsErr) (x : ℕ) (ms : List (ℕ × ℕ)) (k : Kernel) → KeepsBy k (task_store e x ms k)
keeps-task_store (Some err) x ms k = keeps-refl k
keeps-task_store None x ms k =
    let j = with_task k x (λ t. record t { messages = ms }) in
    keeps-same k j (record j { free = k.free - 1 }) (keeps-with_task k x (λ t. record t { messages = ms }) (record { prio = λ t. refl; base = λ t. refl; alive = λ t. refl; suspended = λ t. refl })) refl (refl, refl, refl, refl, refl, refl)

keeps-task_q_post_to : (w : Waiting) (r : Request) (x h : ℕ) (k : Kernel) → KeepsBy k (task_q_post_to w r x h k)
keeps-task_q_post_to TaskQ r x h k = keeps-wakes_all (result_of (message (argument r 1) (argument r 2))) h (x ∷ []) k
keeps-task_q_post_to _ r x h k =
    let t = task_at k x in
    keeps-task_store (store_error (length t.messages) t.limit k.free) x (stored (has_bit (argument r 3) 1) (argument r 1, argument r 2) t.messages) k

-- the tick

keeps-signalled : (w : Waiting) (x h : ℕ) (k : Kernel) → KeepsBy k (signalled w x h k)
keeps-signalled Signal x h k =
    let f : Task → Task = λ t. record t { waiting = No } in
    let j = with_task k x f in
    keeps-same k j (signalled Signal x h k).kernel (keeps-with_task k x f (record { prio = λ t. refl; base = λ t. refl; alive = λ t. refl; suspended = λ t. refl })) refl (refl, refl, refl, refl, refl, refl)
keeps-signalled _ x h k = keeps-refl k

keeps-signals_tick : (h : ℕ) (k : Kernel) → KeepsBy k (signals_tick h k)
keeps-signals_tick h k =
    let j : Kernel = record k { tick_signals = k.tick_signals + 1 } in
    let w = (task_at k tick_task).waiting in
    keeps-trans k j (signalled w tick_task h j).kernel (keeps-same k k j (keeps-refl k) refl (refl, refl, refl, refl, refl, refl)) (keeps-signalled w tick_task h j)

keeps-signals_timer : (h : ℕ) (k : Kernel) → KeepsBy k (signals_timer h k)
keeps-signals_timer h k =
    let i : Kernel = record k { tick_calls = k.tick_calls + 1 } in
    let j : Kernel = record k { tick_calls = 0; timer_signals = k.timer_signals + 1 } in
    let w = (task_at k timer_task).waiting in
    choice (KeepsBy k) (nat_lt (k.tick_calls + 1) k.settings.tmr_div) (done i (fine 0)) (signalled w timer_task h j)
    (keeps-same k k i (keeps-refl k) refl (refl, refl, refl, refl, refl, refl))
    (keeps-trans k j (signalled w timer_task h j).kernel (keeps-same k k j (keeps-refl k) refl (refl, refl, refl, refl, refl, refl)) (keeps-signalled w timer_task h j))

keeps-rotates : (x p : ℕ) (k : Kernel) → KeepsBy k (rotates x p k)
keeps-rotates x p k =
    let y = first_in (list_at (rotates x p k).kernel.ready p) in
    let j = with_task k y full_quantum in
    keeps-same k j (rotates x p k).kernel (keeps-with_task k y full_quantum (record { prio = λ t. refl; base = λ t. refl; alive = λ t. refl; suspended = λ t. refl })) refl (refl, refl, refl, refl, refl, refl)

keeps-spends : (xs : List ℕ) (p : ℕ) (k : Kernel) → KeepsBy k (spends xs p k)
keeps-spends [] p k = keeps-refl k
keeps-spends (y ∷ []) p k =
    keeps-with_task k y (λ t. record t { quantum = t.quantum - 1 }) (record { prio = λ t. refl; base = λ t. refl; alive = λ t. refl; suspended = λ t. refl })
keeps-spends (y ∷ z ∷ zs) p k =
    let j = with_task k y (λ t. record t { quantum = t.quantum - 1 }) in
    let first : PostKeeps k j = keeps-with_task k y (λ t. record t { quantum = t.quantum - 1 }) (record { prio = λ t. refl; base = λ t. refl; alive = λ t. refl; suspended = λ t. refl }) in
    choice (KeepsBy k) ((task_at j y).quantum == 0) (rotates y p j) (done j (fine 0)) (keeps-trans k j (rotates y p j).kernel first (keeps-rotates y p j)) first

keeps-round_robin : (c : ℕ) (k : Kernel) → KeepsBy k (round_robin c k)
keeps-round_robin c k =
    choice (KeepsBy k) (k.settings.round_robin && ((k.lock == 0) && not (first_in (list_at k.ready c) == idle_task))) (spends (list_at k.ready c) c k) (done k (fine 0))
    (keeps-spends (list_at k.ready c) c k) (keeps-refl k)

keeps-time_tick : (c h : ℕ) (k : Kernel) → KeepsBy k (time_tick c h k)
keeps-time_tick c h k =
    let e = signals_tick h k in
    let f = and_then e (round_robin c) in
    keeps-and_then k f (signals_timer h) (keeps-and_then k e (round_robin c) (keeps-signals_tick h k) (keeps-round_robin c e.kernel)) (keeps-signals_timer h f.kernel)

keeps-perform : (s : Service) (call : Call) (k : Kernel) → is_post s ≡ true → KeepsBy k (perform s call k)
keeps-perform SemPost call k p = keeps-sem_post (content_for call.request k) call.request call.compared k
keeps-perform QPost call k p = keeps-q_post (content_for call.request k) call.request call.compared k
keeps-perform FlagPost call k p = keeps-flag_post (content_for call.request k) call.request call.compared k
keeps-perform TaskSemPost call k p = let y = named_task call.request call.caller in keeps-task_sem_post_to (task_at k y).waiting y call.compared k
keeps-perform TaskQPost call k p = let y = named_task call.request call.caller in keeps-task_q_post_to (task_at k y).waiting call.request y call.compared k
keeps-perform TimeTick call k p = keeps-time_tick call.interrupted call.compared k
keeps-perform _ call k p = absurd (false≢true p)

keeps-after_checks : (e : Option OsErr) (call : Call) (k : Kernel) → is_post call.request.service ≡ true → KeepsBy k (after_checks e call k)
keeps-after_checks (Some err) call k p = keeps-refl k
keeps-after_checks None call k p = keeps-perform call.request.service call k p

-- each of the six posts
pub keeps-post : (served : Service → Bool) (call : Call) (k : Kernel) → is_post call.request.service ≡ true → PostKeeps k (effect served call k).kernel
keeps-post served call k p =
    choice (KeepsBy k) (served call.request.service) (after_checks (call_error call.request call.caller k) call k) (refused k CallUnknown) (keeps-after_checks (call_error call.request call.caller k) call k p) (keeps-refl k)

pub keeps-posted : (served : Service → Bool) (s : Service) (args : List ℕ) (c h : ℕ) (k : Kernel) → is_post s ≡ true → PostKeeps k (posted served s args c h k).kernel
keeps-posted served s args c h k p = keeps-post served (call_of (post_request s args) 63 c h) k p
