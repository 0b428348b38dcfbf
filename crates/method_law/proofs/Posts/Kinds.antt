-- A post changes no kind of an object.
use Rattle.machine_laws.proofs.Common.{◌≡◌, Bool, ℕ, refl, true, List, [], ◌∙◌, ◌∷◌, None, Some, Option, ap, ◌==◌, ◌&&◌, nat_lt, All, not, ◌^◌, ◌-◌, false≢true, All-head, All-tail, is_post, OsErr, CallUnknown, Finished, Waiting, Request, Service, FlagPost, QPost, SemPost, TaskQPost, TaskSemPost, TimeTick, choice, call_of, call_error, Effect, fine, refused, result_of, wakes_all, posted, post_request, after_checks, content_for, perform, Kernel, task_at, idle_task, Task, list_at, Content, kinds_of, timer_task, Bits, Count, tick_task, Queued}
use Rattle.std.specs.Prelude.{◌+◌}
use Rattle.std.proofs.Common.{length}
use Rattle.std.proofs.Math.Seq.{map-set_same}
use Rattle.kern_base.specs.declared.errors.OsErr.TheVariants.{SemOverflow}
use Rattle.kern_base.specs.declared.outcomes.Waiting.TheVariants.{TaskSem, TaskQ, Signal}
use Rattle.kern_model.specs.Call.{Call}
use Rattle.kern_model.specs.State.{Object, Messages, no_object, object_at, with_content, with_task, kind_of}
use Rattle.kern_model.specs.FlagBits.{has_bit, ready_bits, bits_after}
use Rattle.kern_model.specs.Effect.{wakes, done, message, posted_result, chosen}
use Rattle.kern_model.specs.Checks.{argument, named_task}
use Rattle.kern_model.specs.Semaphores.{sem_post_to, sem_post}
use Rattle.kern_model.specs.Queues.{store_in, store_error, stored, q_post_to, q_post}
use Rattle.kern_model.specs.Flags.{flag_wakes, flag_wakes_all, flag_post}
use Rattle.kern_model.specs.TaskObjects.{task_counts_up, task_sem_post_to, task_store, task_q_post_to}
use Rattle.kern_model.specs.RoundRobin.{first_in, rotates, spends, round_robin}
use Rattle.kern_model.specs.Time.{signalled, signals_tick, signals_timer, time_tick}
use Rattle.method_law.specs.Relation.{performed, all_performed}

-- the kinds are as they were
abbrev Kept : Kernel → Kernel → Type 0
Kept k j = kinds_of j ≡ kinds_of k

abbrev KeptBy : Kernel → Effect → Type 0
KeptBy k e = Kept k e.kernel

-- another content of the same kind
kept-with_content : (k : Kernel) (o : ℕ) (c : Content) → kind_of c ≡ kind_of (object_at k o).content → Kept k (with_content k o c)
kept-with_content k o c h =
    let b : Object = record (object_at k o) { content = c } in
    ap (λ kinds. record { objects = kinds; tasks = k.settings.tasks }) (map-set_same (λ (a : Object). kind_of a.content) k.objects o b no_object h)

kept-wakes_all : (f : Task → Finished) (h : ℕ) (xs : List ℕ) (k : Kernel) → Kept k (wakes_all f h xs k)
kept-wakes_all f h [] k = refl
kept-wakes_all f h (x ∷ xs) k = kept-wakes_all f h xs (wakes (f (task_at k x)) h x k)

-- semaphores

kept-sem_post_to : (xs : List ℕ) (n o opt h : ℕ) (k : Kernel) → kind_of (Count n) ≡ kind_of (object_at k o).content → KeptBy k (sem_post_to xs n o opt h k)
kept-sem_post_to [] n o opt h k e =
    choice (KeptBy k) (n == 2 ^ 32 - 1) (refused k SemOverflow) (done (with_content k o (Count (n + 1))) (fine (n + 1))) refl (kept-with_content k o (Count (n + 1)) e)
kept-sem_post_to (x ∷ xs) n o opt h k e = kept-wakes_all (posted_result o (fine 0)) h (chosen (opt == 2) (x ∷ xs)) k

kept-sem_post : (c : Content) (r : Request) (h : ℕ) (k : Kernel) → c ≡ content_for r k → KeptBy k (sem_post c r h k)
kept-sem_post (Count n) r h k e = kept-sem_post_to (list_at k.pend (argument r 0)) n (argument r 0) (argument r 1) h k (ap kind_of e)
kept-sem_post _ r h k e = refl

-- queues

kept-store_in : (e : Option OsErr) (o limit : ℕ) (ms : List (ℕ × ℕ)) (k : Kernel) → kind_of (Messages limit ms) ≡ kind_of (object_at k o).content → KeptBy k (store_in e o limit ms k)
kept-store_in (Some err) o limit ms k e = refl
kept-store_in None o limit ms k e = kept-with_content k o (Messages limit ms) e

kept-q_post_to : (xs : List ℕ) (limit : ℕ) (ms : List (ℕ × ℕ)) (r : Request) (h : ℕ) (k : Kernel) → kind_of (Messages limit ms) ≡ kind_of (content_for r k) → KeptBy k (q_post_to xs limit ms r h k)
kept-q_post_to [] limit ms r h k e =
    kept-store_in (store_error (length ms) limit k.free) (argument r 0) limit (stored (has_bit (argument r 3) 1) (argument r 1, argument r 2) ms) k e
kept-q_post_to (x ∷ xs) limit ms r h k e =
    kept-wakes_all (posted_result (argument r 0) (message (argument r 1) (argument r 2))) h (chosen (has_bit (argument r 3) 2) (x ∷ xs)) k

kept-q_post : (c : Content) (r : Request) (h : ℕ) (k : Kernel) → c ≡ content_for r k → KeptBy k (q_post c r h k)
kept-q_post (Messages limit ms) r h k e = kept-q_post_to (list_at k.pend (argument r 0)) limit ms r h k (ap kind_of e)
kept-q_post _ r h k e = refl

-- event flags

kept-flag_wakes : (o : Option ℕ) (h x : ℕ) (k : Kernel) → Kept k (flag_wakes o h x k)
kept-flag_wakes None h x k = refl
kept-flag_wakes (Some ready) h x k = refl

kept-flag_wakes_all : (bits h : ℕ) (xs : List ℕ) (k : Kernel) → Kept k (flag_wakes_all bits h xs k)
kept-flag_wakes_all bits h [] k = refl
kept-flag_wakes_all bits h (x ∷ xs) k =
    let o = ready_bits bits (task_at k x).mask (task_at k x).opt in
    kept-flag_wakes_all bits h xs (flag_wakes o h x k) ∙ kept-flag_wakes o h x k

kept-flag_post : (c : Content) (r : Request) (h : ℕ) (k : Kernel) → c ≡ content_for r k → KeptBy k (flag_post c r h k)
kept-flag_post (Bits old) r h k e =
    let bits = bits_after old (argument r 1) (argument r 2) in
    let j = with_content k (argument r 0) (Bits bits) in
    kept-flag_wakes_all bits h (list_at k.pend (argument r 0)) j ∙ kept-with_content k (argument r 0) (Bits bits) (ap kind_of e)
kept-flag_post _ r h k e = refl

-- the tasks' own semaphores and queues

kept-task_counts_up : (n x : ℕ) (k : Kernel) → KeptBy k (task_counts_up n x k)
kept-task_counts_up n x k =
    choice (KeptBy k) (n == 2 ^ 32 - 1) (refused k SemOverflow) (done (with_task k x (λ t. record t { count = n + 1 })) (fine (n + 1))) refl refl

kept-task_sem_post_to : (w : Waiting) (x h : ℕ) (k : Kernel) → KeptBy k (task_sem_post_to w x h k)
kept-task_sem_post_to TaskSem x h k = kept-wakes_all (result_of (fine 0)) h (x ∷ []) k
kept-task_sem_post_to _ x h k = kept-task_counts_up (task_at k x).count x k

kept-task_store : (e : Option OsErr) (x : ℕ) (ms : List (ℕ × ℕ)) (k : Kernel) → KeptBy k (task_store e x ms k)
kept-task_store (Some err) x ms k = refl
kept-task_store None x ms k = refl

kept-task_q_post_to : (w : Waiting) (r : Request) (x h : ℕ) (k : Kernel) → KeptBy k (task_q_post_to w r x h k)
kept-task_q_post_to TaskQ r x h k = kept-wakes_all (result_of (message (argument r 1) (argument r 2))) h (x ∷ []) k
kept-task_q_post_to _ r x h k =
    let t = task_at k x in
    kept-task_store (store_error (length t.messages) t.limit k.free) x (stored (has_bit (argument r 3) 1) (argument r 1, argument r 2) t.messages) k

-- the tick

kept-signalled : (w : Waiting) (x h : ℕ) (k : Kernel) → KeptBy k (signalled w x h k)
kept-signalled Signal x h k = refl
kept-signalled _ x h k = refl

kept-signals_timer : (h : ℕ) (k : Kernel) → KeptBy k (signals_timer h k)
kept-signals_timer h k =
    let i : Kernel = record k { tick_calls = k.tick_calls + 1 } in
    let j : Kernel = record k { tick_calls = 0; timer_signals = k.timer_signals + 1 } in
    let w = (task_at k timer_task).waiting in
    choice (KeptBy k) (nat_lt (k.tick_calls + 1) k.settings.tmr_div) (done i (fine 0)) (signalled w timer_task h j) refl (kept-signalled w timer_task h j)

kept-spends : (xs : List ℕ) (p : ℕ) (k : Kernel) → KeptBy k (spends xs p k)
kept-spends [] p k = refl
kept-spends (y ∷ []) p k = refl
kept-spends (y ∷ z ∷ zs) p k =
    let j = with_task k y (λ t. record t { quantum = t.quantum - 1 }) in
    choice (KeptBy k) ((task_at j y).quantum == 0) (rotates y p j) (done j (fine 0)) refl refl

kept-round_robin : (c : ℕ) (k : Kernel) → KeptBy k (round_robin c k)
kept-round_robin c k =
    choice (KeptBy k) (k.settings.round_robin && ((k.lock == 0) && not (first_in (list_at k.ready c) == idle_task))) (spends (list_at k.ready c) c k) (done k (fine 0))
    (kept-spends (list_at k.ready c) c k) refl

kept-time_tick : (c h : ℕ) (k : Kernel) → KeptBy k (time_tick c h k)
kept-time_tick c h k =
    let i : Kernel = record k { tick_signals = k.tick_signals + 1 } in
    let first : Kernel = (signals_tick h k).kernel in
    let second : Kernel = (round_robin c first).kernel in
    kept-signals_timer h second ∙ kept-round_robin c first ∙ kept-signalled (task_at k tick_task).waiting tick_task h i

-- each of the six posts

kept-perform : (s : Service) (call : Call) (k : Kernel) → is_post s ≡ true → KeptBy k (perform s call k)
kept-perform SemPost call k p = kept-sem_post (content_for call.request k) call.request call.compared k refl
kept-perform QPost call k p = kept-q_post (content_for call.request k) call.request call.compared k refl
kept-perform FlagPost call k p = kept-flag_post (content_for call.request k) call.request call.compared k refl
kept-perform TaskSemPost call k p = let y = named_task call.request call.caller in kept-task_sem_post_to (task_at k y).waiting y call.compared k
kept-perform TaskQPost call k p = let y = named_task call.request call.caller in kept-task_q_post_to (task_at k y).waiting call.request y call.compared k
kept-perform TimeTick call k p = kept-time_tick call.interrupted call.compared k
kept-perform _ call k p = absurd (false≢true p)

kept-after_checks : (e : Option OsErr) (call : Call) (k : Kernel) → is_post call.request.service ≡ true → KeptBy k (after_checks e call k)
kept-after_checks (Some err) call k p = refl
kept-after_checks None call k p = kept-perform call.request.service call k p

pub kinds-posted : (served : Service → Bool) (s : Service) (args : List ℕ) (c h : ℕ) (k : Kernel) → is_post s ≡ true → kinds_of (posted served s args c h k).kernel ≡ kinds_of k
kinds-posted served s args c h k p =
    let r = post_request s args in
    choice (KeptBy k) (served s) (after_checks (call_error r 63 k) (call_of r 63 c h) k) (refused k CallUnknown) (kept-after_checks (call_error r 63 k) (call_of r 63 c h) k p) refl

-- queued posts

pub kinds-all_performed : (served : Service → Bool) (later : List Queued) (k : Kernel) → All (λ q. is_post q.service ≡ true) later → kinds_of (all_performed served later k) ≡ kinds_of k
kinds-all_performed served [] k posts = refl
kinds-all_performed served (q ∷ later) k posts =
    let first = All-head (λ (p : Queued). is_post p.service ≡ true) q later posts in
    let rest = All-tail (λ (p : Queued). is_post p.service ≡ true) q later posts in
    kinds-all_performed served later (performed served q k) rest ∙ kinds-posted served q.service q.args q.saved q.saved k first
