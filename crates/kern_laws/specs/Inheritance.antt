-- The laws of priority inheritance, in terms of which tasks a task is reached from.
use Rattle.std.specs.Prelude.{◌≡◌, ◌⊎◌, ◌<◌, ℕ, true, List}
use Rattle.kern_model.specs.State.{Kernel, task_at, prio_of, application_limit, timer_task}
use Rattle.kern_model.specs.Inherit.{inherited, renewed}
use Rattle.kern_model.specs.Reached.{IsLeastBase}
use Rattle.kern_model.specs.Valid.{IsValid, IsLinked, IsAboveIdle}

-- Of each application task, alive or not, the tick task and the timer task: the inherited priority is at most the base priority
-- of every task from which it is reached, and is the base priority of one of them.
abbrev pub InheritedIsLeastBase : Type 0
InheritedIsLeastBase = (k : Kernel) → IsValid k → (x : ℕ) → IsAboveIdle k.settings.tasks x → IsLeastBase k x (inherited k x)

-- The present priority of each living application task and of the timer task is that.
abbrev pub PresentIsLeastBase : Type 0
PresentIsLeastBase = (k : Kernel) → IsValid k → (x : ℕ) → (x < application_limit) ⊎ (x ≡ timer_task) → (task_at k x).alive ≡ true → IsLeastBase k x (prio_of k x)

-- So it is after a renewal in the middle of a service.
abbrev pub RenewedIsLeastBase : Type 0
RenewedIsLeastBase = (place : List ℕ → ℕ) (k : Kernel) → IsLinked k → (x : ℕ) → (x < application_limit) ⊎ (x ≡ timer_task) → (task_at (renewed place k) x).alive ≡ true → IsLeastBase (renewed place k) x (prio_of (renewed place k) x)
