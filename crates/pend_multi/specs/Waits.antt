-- The waiters of objects, as tasks.
use Rattle.std.specs.Prelude.{◌≡◌, ◌<◌, ℕ, List, length, map, slice_index, slice_index_or}
use Rattle.kern_base.specs.declared.numbers.Prio.{Prio}
use Rattle.links.specs.Chain.{times, list_at}
use Rattle.pend_lists.specs.Pending.{node_for, waiters}

-- the waiters of each object
abbrev pub tasks_in : List (List ℕ) → List (List ℕ)
tasks_in lists = map waiters lists

-- the present priority of a task
abbrev pub prio_in : List Prio → Prio → ℕ → ℕ
prio_in prios blank x = (slice_index_or prios x blank).0

-- the task waits for no object
abbrev pub IsNowhere : ℕ → List (List ℕ) → Type 0
IsNowhere task lists = (o : ℕ) → o < 64 → times task (waiters (list_at lists o)) ≡ 0

-- each of the task's nodes stands in the list of its object
abbrev pub StandsIn : ℕ → List ℕ → List (List ℕ) → Type 0
StandsIn task ids lists = (i : ℕ) → i < length ids → 0 < times (node_for task i) (list_at lists (slice_index ids i))
