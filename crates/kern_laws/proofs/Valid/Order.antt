-- Every plain change keeps each list of waiters rising in priority number.
use Rattle.kern_model.proofs.Common.{◌≡◌, ◌≢◌, ◌⊎◌, ℕ, ◌<◌, List, [], length, get_or, sym, ap, ◌∙◌, subst, refl, Bool, true, false, arith, inl, inr, if◌then◌else◌, Kernel, Task, Settings, list_at, task_at, prio_of, with_task, no_task, count_of, waits_for_nothing, wakes, blocked, waiting_task, moved, with_prio, rewaited, waited_objects, IsLinked, Rises}
use Rattle.kern_model.specs.Tasks.{task_ends, deleted_task}
use Rattle.kern_model.specs.Stop.{stopped}
use Rattle.kern_model.proofs.Basics.Updates.{update_task_same, task-updated, task-other, prio_of-wakes}
use Rattle.kern_laws.proofs.Changes.Each.{Shape, SameRest}
use Rattle.kern_laws.proofs.Changes.Parts.{Ordered, Keeps}
use Rattle.kern_laws.proofs.Lists.Rising.{AllRise, map-same, map-agree, rises-left_all, rises-stands_in, rises-rewaited, rest-old}

-- lists that rise by the priorities of k rise by those of j, where these are the same
ordered-same : (k j : Kernel) → ((y : ℕ) → prio_of j y ≡ prio_of k y) → AllRise (prio_of k) j.pend → Ordered j
ordered-same k j same h o = subst Rises (sym (map-same (prio_of k) (prio_of j) same (list_at j.pend o))) (h o)

-- a change of one task that keeps its priority
ordered-task : (k : Kernel) (x : ℕ) (f : Task → Task) → ((t : Task) → (f t).prio ≡ t.prio) → Ordered k → Ordered (with_task k x f)
ordered-task k x f same h = ordered-same k (with_task k x f) (update_task_same (λ t. t.prio) f same k.tasks x) h

-- a living task moves to another priority
ordered-moved : (place : List ℕ → ℕ) (x p : ℕ) (k : Kernel) → IsLinked k → (x < 60) ⊎ (x ≡ 61) → Ordered k → Ordered (moved place x p k)
ordered-moved place x p k v who h =
    let j = moved place x p k in
    subst (λ n. AllRise (prio_of j) (rewaited (prio_of k) x n (waited_objects (task_at k x)) k.pend)) own
    (rises-rewaited (prio_of k) (prio_of j) x others (waited_objects (task_at k x)) k.pend
    (rest-old (prio_of k) (prio_of j) x others k.pend h)
    (λ q n. subst Rises (sym (map-agree (prio_of k) (prio_of j) x others (list_at k.pend q) (absent q (waits_for_nothing (task_at k x).waiting) refl n))) (h q)))
  where
    inside : x < length k.tasks
    inside = elim who [ inl l ↦ omega (arith, v.sizes.tasks, l) | inr e ↦ omega (arith, v.sizes.tasks, e) ]

    own : prio_of (moved place x p k) x ≡ p
    own = ap (λ (t : Task). t.prio) (task-updated k.tasks x (with_prio p) inside)

    others : (y : ℕ) → x ≢ y → prio_of (moved place x p k) y ≡ prio_of k y
    others y d = ap (λ (t : Task). t.prio) (task-other k.tasks x (with_prio p) y d)

    absent : (q : ℕ) (b : Bool) → waits_for_nothing (task_at k x).waiting ≡ b → count_of q (if b then [] else (task_at k x).objects) ≡ 0 → count_of x (list_at k.pend q) ≡ 0
    absent q true e n = v.lists.waiters q x ∙ ap (λ b. if b then 0 else count_of q (task_at k x).objects) e
    absent q false e n = v.lists.waiters q x ∙ ap (λ b. if b then 0 else count_of q (task_at k x).objects) e ∙ n

ordered-rest : (k j : Kernel) → SameRest j k → Ordered k → Ordered j
ordered-rest k j same h =
    ordered-same k j (λ y. ap (λ ts. Task.prio (get_or ts y no_task)) same.tasks) (subst (λ lists. AllRise (prio_of k) lists) (sym same.pend) h)

pub keeps-ordered : (s : Settings) → Keeps s Ordered
keeps-ordered s =
    record {
      wake = λ f h x k w e. ordered-same k (wakes f h x k) (prio_of-wakes f h x k) (rises-left_all (prio_of k) x (task_at k x).objects k.pend e.ordered);
      block = λ k x w b e. ordered-same k (blocked k x w) (update_task_same (λ t. t.prio) (waiting_task w) (λ t. refl) k.tasks x) (rises-stands_in (prio_of k) x w.objects k.pend e.ordered);
      moves = λ place x p k v who a from to e. ordered-moved place x p k v who e.ordered;
      content = λ k o old new h same word e. e.ordered;
      taken = λ k o n x h who e. e.ordered;
      owned = λ k o m n v x h who from to e. e.ordered;
      freed = λ k o m v h none e. e.ordered;
      deleted = λ k o content h plain none e. e.ordered;
      timer_runs = λ k o after t h e. e.ordered;
      timer_rests = λ k o t state h rests e. e.ordered;
      timer_deleted = λ k o t v h rests e. e.ordered;
      task = λ k x f same e. ordered-task k x f (λ t. ap (λ (s : Shape). s.prio) (same t)) e.ordered;
      based = λ k x p inside from to e. ordered-task k x (λ t. record t { base = p }) (λ t. refl) e.ordered;
      stores = λ k x ms room words e. ordered-task k x (λ t. record t { messages = ms }) (λ t. refl) e.ordered;
      answers = λ k x a plain e. ordered-task k x (λ t. record t { answered = a }) (λ t. refl) e.ordered;
      ended = λ k outcome x v inside e. ordered-same k (task_ends outcome x k).kernel (update_task_same (λ t. t.prio) deleted_task (λ t. refl) k.tasks x) (rises-left_all (prio_of k) x (waited_objects (task_at k x)) k.pend e.ordered);
      died = λ k x v inside r e. ordered-same k (stopped x k) (update_task_same (λ t. t.prio) (λ t. record t { alive = false }) (λ t. refl) k.tasks x) e.ordered;
      internal = λ k x w v who to e. ordered-task k x (λ t. record t { waiting = w }) (λ t. refl) e.ordered;
      rest = λ k j same e. ordered-rest k j same e.ordered;
    }
