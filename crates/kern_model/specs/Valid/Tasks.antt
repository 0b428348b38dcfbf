-- The records of tasks of a valid kernel.
use Rattle.std.specs.Prelude.{◌≡◌, ◌⊎◌, ◌<◌, ◌≤◌, All, ℕ, Bool, true, false, List, length, Option, Some, None}
use Rattle.kern_base.specs.declared.outcomes.Finished.{Finished}
use Rattle.kern_model.specs.State.{Task, task_in, count_of, waits_for_nothing, idle_priority, nesting_limit, tick_task, timer_task, application_limit, lowest_priority}
use Rattle.kern_model.specs.Valid.Numbers.{IsWord}

-- whether a result waits
abbrev pub has_result : Option Finished → Bool
has_result None = false
has_result (Some f) = true

-- What holds of each task, where there are n objects.
pub record IsTask (n : ℕ) (t : Task) : Type 0 where
  -- priorities are 1 to 63
  pub prio_from : 1 ≤ t.prio
  pub prio_to : t.prio ≤ idle_priority
  pub base_from : 1 ≤ t.base
  -- it waits for at most 8 objects, all different
  pub objects : All (λ o. o < n) t.objects
  pub few : length t.objects ≤ 8
  pub different : (o : ℕ) → count_of o t.objects ≤ 1
  -- a task that is not alive does not wait
  pub lives : waits_for_nothing t.waiting ≡ false → t.alive ≡ true
  -- no result waits for a task that waits
  pub reads : waits_for_nothing t.waiting ≡ false → has_result t.answered ≡ false
  pub suspended : t.suspended ≤ nesting_limit
  pub count : IsWord t.count

-- one of n application tasks, the tick task or the timer task: all others have the last priority, or do not live
abbrev pub IsAboveIdle : ℕ → ℕ → Type 0
IsAboveIdle n x = (x < n) ⊎ (x ≡ tick_task) ⊎ (x ≡ timer_task)

-- each task, where n application tasks are declared: no other lives, and these have priorities of at most 62, alive or not
pub record AreTasks (ts : List Task) (objects n : ℕ) : Type 0 where
  pub each_task : (x : ℕ) → IsTask objects (task_in ts x)
  pub declared : (x : ℕ) → n ≤ x → x < application_limit → (task_in ts x).alive ≡ false
  pub above_idle : (x : ℕ) → IsAboveIdle n x → (task_in ts x).prio ≤ lowest_priority
  pub bases : (x : ℕ) → IsAboveIdle n x → (task_in ts x).base ≤ lowest_priority
