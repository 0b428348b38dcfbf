-- What round robin sees, and what its decisions come to.
use Rattle.std.specs.Prelude.{◌≡◌, ℕ, ◌-◌, Bool, true, false, not, ◌&&◌, List, [], ◌∷◌, Option, Some, None, if◌then◌else◌, ◌==◌, nat_le}
use Rattle.kern_base.specs.declared.numbers.TaskId.{TaskId}
use Rattle.kern_base.specs.declared.errors.OsErr.TheVariants.{SchedLocked, RoundRobinDisabled, RoundRobinAlone}
use Rattle.kern_base.specs.declared.outcomes.Decision.{Decision}
use Rattle.kern_base.specs.declared.outcomes.Decision.TheVariants.{Done}
use Rattle.kern_model.specs.State.{Kernel, list_at, task_at, with_task, idle_task}
use Rattle.kern_model.specs.Effect.{Effect, done, fine}
use Rattle.kern_model.specs.RoundRobin.{full_quantum, rotates, round_robin}
use Rattle.decisions.specs.Rows.{refusal}
use Rattle.round_robin.specs.declared.turns.Front.{Front}
use Rattle.round_robin.specs.declared.turns.Turn.{Turn}
use Rattle.round_robin.specs.declared.turns.Turn.TheVariants.{Stays, Spends, Rotates}

-- the first task of a list, and the second
abbrev pub first_task : List ℕ → Option TaskId
first_task [] = None
first_task (x ∷ xs) = Some (record { 0 = x })

abbrev pub second_task : List ℕ → Option TaskId
second_task [] = None
second_task (x ∷ xs) = first_task xs

-- the front of a ready list
abbrev pub front : List ℕ → Front
front xs = record { first = first_task xs; second = second_task xs }

-- whether this is the idle task, which has no quantum to spend
abbrev pub is_idle : Option TaskId → Bool
is_idle None = false
is_idle (Some y) = y.0 == idle_task

-- the turn at this front, where the first task has this quantum
abbrev pub turn_at : Option TaskId → Option TaskId → ℕ → Turn
turn_at None second quantum = Stays
turn_at (Some y) None quantum = Spends y
turn_at (Some y) (Some z) quantum = if nat_le quantum 1 then Rotates y z else Spends y

-- the turn at a tick, where the scheduler is locked or not and round robin is on or not
abbrev pub turn_of : Front → ℕ → Bool → Bool → Turn
turn_of f quantum locked on = if on && (not locked && not (is_idle f.first)) then turn_at f.first f.second quantum else Stays

-- the quantum of a task; 0 where there is none
abbrev pub quantum_of : Option TaskId → Kernel → ℕ
quantum_of None k = 0
quantum_of (Some y) k = (task_at k y.0).quantum

-- the turn at a tick in a kernel whose ready list in question has this front
abbrev pub turn_in : Front → Kernel → Turn
turn_in f k = turn_of f (quantum_of f.first k) (not (k.lock == 0)) k.settings.round_robin

-- task y has spent from its quantum
abbrev pub spent : ℕ → Kernel → Kernel
spent y k = with_task k y (λ t. record t { quantum = t.quantum - 1 })

-- task z has its full quantum again
abbrev pub refilled : ℕ → Kernel → Kernel
refilled z k = with_task k z full_quantum

-- the effect of a turn at a tick for the tasks of this priority
abbrev pub turned : Turn → ℕ → Kernel → Effect
turned Stays prio k = done k (fine 0)
turned (Spends y) prio k = done (spent y.0 k) (fine 0)
turned (Rotates y z) prio k = rotates y.0 prio (spent y.0 k)

-- what a turn does to the tasks' records
abbrev pub turned_tasks : Turn → Kernel → Kernel
turned_tasks Stays k = k
turned_tasks (Spends y) k = spent y.0 k
turned_tasks (Rotates y z) k = refilled z.0 (spent y.0 k)

-- Round robin at a tick is the turn at the front of its list.
abbrev pub RoundRobinIsTurn : Type 0
RoundRobinIsTurn = (prio : ℕ) (k : Kernel) → round_robin prio k ≡ turned (turn_in (front (list_at k.ready prio)) k) prio k

-- a yield where this task stands behind the caller, in a ready list that takes turns
abbrev pub yield_to : Option TaskId → Decision
yield_to None = refusal RoundRobinAlone
yield_to (Some z) = Done (fine 0)

-- OSSchedRoundRobinYield of the first task of its list, behind which this one stands first
abbrev pub yield_decision : Option TaskId → Bool → Bool → Decision
yield_decision second locked on =
    if locked then refusal SchedLocked else (if not on then refusal RoundRobinDisabled else yield_to second)
