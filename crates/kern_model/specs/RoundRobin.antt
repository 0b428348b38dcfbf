-- Round robin among the ready tasks of one priority.
use Rattle.std.specs.Prelude.{ℕ, ◌-◌, Bool, true, false, not, ◌&&◌, List, [], ◌∷◌, if◌then◌else◌, ◌==◌}
use Rattle.kern_base.specs.declared.errors.OsErr.TheVariants.{SchedLocked, RoundRobinDisabled, RoundRobinAlone}
use Rattle.kern_model.specs.State.{Kernel, Task, list_at, update_list, update_task, without, task_at, prio_of, with_task, idle_task}
use Rattle.kern_model.specs.Micro.{unready, readied_at, at_tail}
use Rattle.kern_model.specs.Effect.{Effect, refused, done, answers, fine, joined}

-- the head of a ready list
abbrev pub first_in : List ℕ → ℕ
first_in [] = idle_task
first_in (x ∷ xs) = x

-- the task has its full quantum again
abbrev pub full_quantum : Task → Task
full_quantum t = record t { quantum = t.full }

-- a task of priority p goes to the tail of its ready list, and the new head gets its full quantum
abbrev pub rotates : ℕ → ℕ → Kernel → Effect
rotates x p k =
    let lists = joined at_tail x p (update_list k.ready p (without x)) in
    record {
      kernel = record k { tasks = update_task k.tasks (first_in (list_at lists p)) full_quantum; ready = lists };
      outcome = answers (fine 0);
      blocks = unready x p ∷ readied_at at_tail x p ∷ [];
    }

-- the quantum of the head falls by 1 unless it is 0; where it is then 0 and another task is ready, the head rotates
abbrev pub spends : List ℕ → ℕ → Kernel → Effect
spends [] x k = done k (fine 0)
spends (y ∷ []) p k = done (with_task k y (λ t. record t { quantum = t.quantum - 1 })) (fine 0)
spends (y ∷ z ∷ zs) p k =
    let j = with_task k y (λ t. record t { quantum = t.quantum - 1 }) in
    if (task_at j y).quantum == 0 then rotates y p j else done j (fine 0)

-- Round robin at a tick looks at the list of the interrupted priority; it is idle where it is off, under the lock, and for the idle task.
abbrev pub round_robin : ℕ → Kernel → Effect
round_robin interrupted k =
    if k.settings.round_robin && ((k.lock == 0) && not (first_in (list_at k.ready interrupted) == idle_task)) then spends (list_at k.ready interrupted) interrupted k
    else done k (fine 0)

-- whether no other task stands in a list
abbrev pub is_alone : List ℕ → Bool
is_alone (x ∷ y ∷ ys) = false
is_alone xs = true

-- OSSchedRoundRobinYield: the caller goes to the tail of its ready list.
abbrev pub round_robin_yield : ℕ → Kernel → Effect
round_robin_yield x k =
    if not (k.lock == 0) then refused k SchedLocked
    else (if not k.settings.round_robin then refused k RoundRobinDisabled
    else (if is_alone (list_at k.ready (prio_of k x)) then refused k RoundRobinAlone else rotates x (prio_of k x) k))
