-- Priority inheritance: a task's present priority is the least of its base priority and those of all tasks that wait, directly
-- or through a chain of mutexes, for a mutex that it owns.
use Rattle.std.specs.Prelude.{ℕ, zero, suc, ◌+◌, Bool, true, false, not, ◌&&◌, ◌||◌, List, [], ◌∷◌, ◌++◌, if◌then◌else◌, ◌==◌, min, insert, Option, Some, None}
use Rattle.kern_base.specs.declared.services.Service.TheVariants.{MutexPend}
use Rattle.kern_base.specs.declared.outcomes.Waiting.{Waiting}
use Rattle.kern_base.specs.declared.outcomes.Waiting.TheVariants.{Obj}
use Rattle.kern_model.specs.State.{Kernel, Task, Content, Held, update_list, update_task, without, task_at, object_at, prio_of, is_ready, waits_for_nothing, table_size, idle_priority, application_limit, timer_task}
use Rattle.kern_model.specs.Micro.{Block, unready, readied_at, leave, wait, wait_place}
use Rattle.kern_model.specs.Effect.{Effect, joined}

-- the owner of a mutex, where it has one that lives
abbrev pub living : Option ℕ → Kernel → Option ℕ
living None k = None
living (Some v) k = if (task_at k v).alive then Some v else None

-- the living owner in what an object holds
abbrev pub owner_in : Content → Kernel → Option ℕ
owner_in (Held owner nesting) k = living owner k
owner_in content k = None

-- the living owner of the mutex among the objects of such a wait
abbrev pub owner_for : Waiting → List ℕ → Kernel → Option ℕ
owner_for (Obj MutexPend) (o ∷ os) k = owner_in (object_at k o).content k
owner_for w os k = None

-- the living owner of the mutex for which a task waits
abbrev pub waits_on : Kernel → ℕ → Option ℕ
waits_on k u = owner_for (task_at k u).waiting (task_at k u).objects k

-- whether x is u, or is reached from u by so many steps from a task to the owner for which it waits
abbrev pub reaches_by : ℕ → Kernel → ℕ → Option ℕ → Bool
reaches_by n k x None = false
reaches_by zero k x (Some u) = u == x
reaches_by (suc n) k x (Some u) = (u == x) || reaches_by n k x (waits_on k u)

-- whether x is reached from u; no chain of mutexes has more than 64 tasks
abbrev pub reaches : Kernel → ℕ → ℕ → Bool
reaches k u x = reaches_by table_size k x (Some u)

-- the numbers from a on, so many
abbrev pub numbers : ℕ → ℕ → List ℕ
numbers a zero = []
numbers a (suc n) = a ∷ numbers (a + 1) n

-- the least base priority among those of these tasks from which x is reached
abbrev pub least_of : ℕ → List ℕ → Kernel → ℕ
least_of x [] k = idle_priority
least_of x (u ∷ us) k = min (if reaches k u x then (task_at k u).base else idle_priority) (least_of x us k)

-- The inherited priority of a task: the least base priority among it and all tasks from which it is reached.
abbrev pub inherited : Kernel → ℕ → ℕ
inherited k x = least_of x (numbers 0 table_size) k

-- To move a task to another priority: it goes to its place in the ready list of that priority, or among the waiters of each
-- of its objects.

-- the task at another present priority
abbrev pub with_prio : ℕ → Task → Task
with_prio p t = record t { prio = p }

-- the ready lists after x went from priority q to p, where it stands in one
abbrev pub moved_ready : Bool → (List ℕ → ℕ) → ℕ → ℕ → ℕ → List (List ℕ) → List (List ℕ)
moved_ready false place x q p lists = lists
moved_ready true place x q p lists = joined place x p (update_list lists q (without x))

-- the pend lists after x left each of these and joined it again at priority p
abbrev pub rewaited : (ℕ → ℕ) → ℕ → ℕ → List ℕ → List (List ℕ) → List (List ℕ)
rewaited prio x p [] lists = lists
rewaited prio x p (o ∷ os) lists =
    rewaited prio x p os (update_list (update_list lists o (without x)) o (λ xs. insert xs (wait_place prio p xs) x))

-- the objects in whose lists of waiters a task stands
abbrev pub waited_objects : Task → List ℕ
waited_objects t = if waits_for_nothing t.waiting then [] else t.objects

-- the kernel after x went to priority p
abbrev pub moved : (List ℕ → ℕ) → ℕ → ℕ → Kernel → Kernel
moved place x p k =
    let t = task_at k x in
    record k {
      tasks = update_task k.tasks x (with_prio p);
      ready = moved_ready (is_ready t) place x t.prio p k.ready;
      pend = rewaited (prio_of k) x p (waited_objects t) k.pend;
    }

-- the blocks of that in pend lists
abbrev pub rewait_blocks : (ℕ → ℕ) → ℕ → ℕ → List ℕ → List Block
rewait_blocks prio x p [] = []
rewait_blocks prio x p (o ∷ os) = leave x o ∷ wait prio x p o ∷ rewait_blocks prio x p os

-- the blocks of that in ready lists
abbrev pub ready_move_blocks : Bool → (List ℕ → ℕ) → ℕ → ℕ → ℕ → List Block
ready_move_blocks false place x q p = []
ready_move_blocks true place x q p = unready x q ∷ readied_at place x p ∷ []

-- the blocks of a move
abbrev pub move_blocks : (List ℕ → ℕ) → ℕ → ℕ → Kernel → List Block
move_blocks place x p k =
    let t = task_at k x in
    ready_move_blocks (is_ready t) place x t.prio p ++ rewait_blocks (prio_of k) x p (waited_objects t)

-- To renew: each living application task and the timer task, in rising number, moves to its inherited priority, where that is
-- not its present one.

-- the numbers of the tasks that inherit
abbrev pub renewed_tasks : List ℕ
renewed_tasks = numbers 0 application_limit ++ timer_task ∷ []

-- the moves to be made, as pairs of task and priority
abbrev pub moves_of : List ℕ → Kernel → List (ℕ × ℕ)
moves_of [] k = []
moves_of (x ∷ xs) k =
    if (task_at k x).alive && not (inherited k x == prio_of k x) then (x, inherited k x) ∷ moves_of xs k else moves_of xs k

-- the kernel after these moves
abbrev pub moved_all : (List ℕ → ℕ) → List (ℕ × ℕ) → Kernel → Kernel
moved_all place [] k = k
moved_all place (m ∷ ms) k = moved_all place ms (moved place m.0 m.1 k)

-- the blocks of these moves
abbrev pub moves_blocks : (List ℕ → ℕ) → List (ℕ × ℕ) → Kernel → List Block
moves_blocks place [] k = []
moves_blocks place (m ∷ ms) k = move_blocks place m.0 m.1 k ++ moves_blocks place ms (moved place m.0 m.1 k)

-- the kernel with its priorities renewed
abbrev pub renewed : (List ℕ → ℕ) → Kernel → Kernel
renewed place k = moved_all place (moves_of renewed_tasks k) k

-- the blocks of a renewal
abbrev pub renew_blocks : (List ℕ → ℕ) → Kernel → List Block
renew_blocks place k = moves_blocks place (moves_of renewed_tasks k) k

-- an effect, and after its blocks priorities are renewed; a ready task that moves joins its list at this place
abbrev pub renewing : (List ℕ → ℕ) → Effect → Effect
renewing place e =
    record { kernel = renewed place e.kernel; outcome = e.outcome; blocks = e.blocks ++ renew_blocks place e.kernel }
