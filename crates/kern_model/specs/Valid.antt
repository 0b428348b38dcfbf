-- The valid kernel state: what the kernel keeps true of its state between whole steps, in parts by subject. Each part speaks of
-- the fields that it reads.
use Rattle.std.specs.Prelude.{◌≡◌, ◌⊎◌, ◌<◌, ℕ, true, length}
use Rattle.kern_model.specs.State.{Kernel, task_at, prio_of, application_limit, timer_task}
use Rattle.kern_model.specs.Inherit.{inherited}
use Rattle.kern_model.specs.Valid.Sizes.{HasSizes}
use Rattle.kern_model.specs.Valid.Lists.{AreListed, IsOrdered}
use Rattle.kern_model.specs.Valid.Internal.{HasInternalTasks}
use Rattle.kern_model.specs.Valid.Lock.{IsLock, HasClocks}
use Rattle.kern_model.specs.Valid.Timers.{HasTimerMatches}
use Rattle.kern_model.specs.Valid.Words.{AreWords}
use Rattle.kern_model.specs.Valid.Stored.{AreStored}
pub use Rattle.kern_model.specs.Valid.Numbers.{one_if, IsWord}
pub use Rattle.kern_model.specs.Valid.Tasks.{IsTask, AreTasks, IsAboveIdle, has_result}
pub use Rattle.kern_model.specs.Valid.Matches.{HasMatches, matched}
pub use Rattle.kern_model.specs.Valid.Objects.{IsContent, AreContents, AreObjects, MayOwn}
pub use Rattle.kern_model.specs.Valid.Waits.{AreWaits, AllWait}
pub use Rattle.kern_model.specs.Valid.Results.{AreResults}
pub use Rattle.kern_model.specs.Valid.Calls.{MayCall, IsRequest}
pub mod Numbers
pub mod Sizes
pub mod Tasks
pub mod Lists
pub mod Matches
pub mod Internal
pub mod Lock
pub mod Objects
pub mod Timers
pub mod Waits
pub mod Results
pub mod Words
pub mod Stored
pub mod Calls

-- How tasks, lists, timeouts and counters hang together. Every single change that a service is made of keeps this.
pub record IsLinked (k : Kernel) : Type 0 where
  pub sizes : HasSizes k.tasks k.objects k.ready k.pend k.settings.tasks
  pub tasks : AreTasks k.tasks (length k.objects) k.settings.tasks
  pub contents : AreContents k.objects
  pub lists : AreListed k.tasks k.ready k.pend
  pub matches : HasMatches k.tasks k.matches
  pub internal : HasInternalTasks k.tasks k.tick_signals k.timer_signals k.processing
  pub lock : IsLock k.lock k.processing k.in_callback
  pub clocks : HasClocks k.ticks k.timer_count

-- The present priority of each living application task and of the timer task is inherited.
abbrev pub IsInherited : Kernel → Type 0
IsInherited k = (x : ℕ) → (x < application_limit) ⊎ (x ≡ timer_task) → (task_at k x).alive ≡ true → prio_of k x ≡ inherited k x

-- The valid kernel state.
pub record IsValid (k : Kernel) : Type 0 where
  pub links : IsLinked k
  pub order : IsOrdered k.tasks k.pend
  pub waits : AreWaits k.tasks k.objects
  pub results : AreResults k.tasks
  pub objects : AreObjects k.objects k.pend k.settings.tasks
  pub timers : HasTimerMatches k.objects k.timer_matches
  pub messages : AreStored k.tasks k.objects k.free k.settings.pool
  pub words : AreWords k.tasks k.objects
  pub inherited : IsInherited k
