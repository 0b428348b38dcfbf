-- Every plain change keeps each task's own messages within its limit.
use Rattle.kern_model.proofs.Common.{◌≡◌, ℕ, ◌≤◌, List, length, get_or, sym, subst, false, arith, inl, inr, Kernel, Task, Settings, task_at, with_task, no_task, answered_task, waiting_task, with_prio}
use Rattle.kern_model.specs.Tasks.{deleted_task}
use Rattle.kern_model.proofs.Basics.Updates.{update_task_keeps}
use Rattle.kern_laws.proofs.Changes.Each.{HasRoom, Shape, shape}
use Rattle.kern_laws.proofs.Changes.Parts.{OwnQueues, Keeps}

-- a task's own messages are within its limit
abbrev pub Bounded : Task → Type 0
Bounded t = length t.messages ≤ t.limit

-- a change of one task that keeps its own messages within its limit
queues-task : (k : Kernel) (x : ℕ) (f : Task → Task) → (Bounded (task_at k x) → Bounded (f (task_at k x))) → OwnQueues k → OwnQueues (with_task k x f)
queues-task k x f h old = update_task_keeps Bounded f k.tasks x h old

bounded-same : (t u : Task) → shape u ≡ shape t → Bounded t → Bounded u
bounded-same t u e h = subst (λ (s : Shape). length s.messages ≤ s.limit) (sym e) h

bounded-stored : (t : Task) (ms : List (ℕ × ℕ)) → HasRoom ms t → Bounded t → length ms ≤ t.limit
bounded-stored t ms (inl l) h = l
bounded-stored t ms (inr l) h = omega (arith, l, h)

pub keeps-own_queues : (s : Settings) → Keeps s OwnQueues
keeps-own_queues s =
    record {
      wake = λ f h x k w e. queues-task k x (answered_task f) (λ q. q) e.messages;
      block = λ k x w b e. queues-task k x (waiting_task w) (λ q. q) e.messages;
      moves = λ place x p k v who a from to e. queues-task k x (with_prio p) (λ q. q) e.messages;
      content = λ k o old new h same word e. e.messages;
      taken = λ k o n x h who e. e.messages;
      owned = λ k o m n v x h who from to e. e.messages;
      freed = λ k o m v h none e. e.messages;
      deleted = λ k o content h plain none e. e.messages;
      timer_runs = λ k o after t h e. e.messages;
      timer_rests = λ k o t state h still e. e.messages;
      timer_deleted = λ k o t v h still e. e.messages;
      task = λ k x f same e. queues-task k x f (bounded-same (task_at k x) (f (task_at k x)) (same (task_at k x))) e.messages;
      based = λ k x p inside from to e. queues-task k x (λ t. record t { base = p }) (λ q. q) e.messages;
      stores = λ k x ms room words e. queues-task k x (λ t. record t { messages = ms }) (bounded-stored (task_at k x) ms room) e.messages;
      answers = λ k x a plain e. queues-task k x (λ t. record t { answered = a }) (λ q. q) e.messages;
      ended = λ k outcome x v inside e. queues-task k x deleted_task (λ q. omega arith) e.messages;
      died = λ k x v inside r e. queues-task k x (λ t. record t { alive = false }) (λ q. q) e.messages;
      internal = λ k x w v who to e. queues-task k x (λ t. record t { waiting = w }) (λ q. q) e.messages;
      rest = λ k j same e. subst (λ ts. (x : ℕ) → Bounded (get_or ts x no_task)) (sym same.tasks) e.messages;
    }
