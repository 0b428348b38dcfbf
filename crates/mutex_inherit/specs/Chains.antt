-- Priority inheritance over arrays by task number: the base priorities of the tasks, and for each the living owner of the mutex
-- for which it waits.
use Rattle.std.specs.Prelude.{◌≡◌, ◌<◌, ℕ, zero, suc, ◌+◌, Bool, false, ◌||◌, List, Option, Some, None, if◌then◌else◌, ◌==◌, min, slice_index_or}
use Rattle.kern_base.specs.declared.numbers.TaskId.{TaskId}
use Rattle.kern_base.specs.declared.numbers.Prio.{Prio}
use Rattle.kern_model.specs.State.{Kernel, task_at, idle_priority}
use Rattle.kern_model.specs.Inherit.{waits_on, inherited}

-- the number of a task, where there is one
abbrev pub number_of : Option TaskId → Option ℕ
number_of None = None
number_of (Some x) = Some x.0

-- the priority of a task
abbrev pub prio_at : List Prio → ℕ → ℕ
prio_at prios x = (slice_index_or prios x (record { 0 = 0 })).0

-- the owner for which a task waits
abbrev pub owner_at : List (Option TaskId) → ℕ → Option ℕ
owner_at waits_for u = number_of (slice_index_or waits_for u None)

-- These arrays tell the base priorities of the kernel's 64 tasks, and for whom each task waits.
pub record Tells (bases : List Prio) (waits_for : List (Option TaskId)) (k : Kernel) : Type 0 where
  pub base : (u : ℕ) → u < 64 → (task_at k u).base ≡ prio_at bases u
  pub owner : (u : ℕ) → waits_on k u ≡ owner_at waits_for u

-- Each of these 64 is the inherited priority of a task of the kernel.
pub record AreInherited (prios : List Prio) (k : Kernel) : Type 0 where
  pub each : (x : ℕ) → x < 64 → prio_at prios x ≡ inherited k x

-- whether x is among the first so many tasks of the chain that begins with this one
unfoldable pub is_passed : ℕ → List (Option TaskId) → ℕ → Option ℕ → Bool
is_passed zero waits_for x o = false
is_passed (suc n) waits_for x None = false
is_passed (suc n) waits_for x (Some u) = (u == x) || is_passed n waits_for x (owner_at waits_for u)

-- a priority after a task of this base priority was found to wait for its task, or not
abbrev pub raised : Bool → ℕ → ℕ → ℕ
raised passed base p = if passed then min p base else p

-- the least base priority among so many tasks, from number u on, in whose chain of 65 x stands; 63 where there is none
unfoldable pub least_from : ℕ → ℕ → List Prio → List (Option TaskId) → ℕ → ℕ
least_from zero u bases waits_for x = idle_priority
least_from (suc n) u bases waits_for x =
    min (if is_passed 65 waits_for x (Some u) then prio_at bases u else idle_priority) (least_from n (u + 1) bases waits_for x)
