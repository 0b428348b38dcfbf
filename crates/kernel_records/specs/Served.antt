-- What a kernel still has to know that serves no wait for several objects: which waits and results there are, and which of its
-- services are about objects.
use Rattle.std.specs.Prelude.{◌≡◌, ◌<◌, ℕ, Bool, true, false, Option, Some, None}
use Rattle.kern_base.specs.declared.services.Service.{Service}
use Rattle.kern_base.specs.declared.services.Service.TheVariants.{SemPend, QPend, FlagPend, TaskSemPend, TaskQPend, SemPost, QPost, FlagPost, TaskSemPost, TaskQPost, TimeDly, TimeDlyResume, SemPendAbort, QPendAbort, FlagPendAbort, TaskSemPendAbort, TaskQPendAbort, SemDel, QDel, FlagDel}
use Rattle.kern_base.specs.declared.outcomes.Waiting.{Waiting}
use Rattle.kern_base.specs.declared.outcomes.Waiting.TheVariants.{Obj, Multi}
use Rattle.kern_base.specs.declared.outcomes.Finished.{Finished}
use Rattle.kern_model.specs.State.{Kernel, task_at}

-- the services that are served for objects, and for tasks' own semaphores and queues
abbrev pub serves_object : Service → Bool
serves_object SemPost = true
serves_object QPost = true
serves_object FlagPost = true
serves_object TaskSemPost = true
serves_object TaskQPost = true
serves_object SemPend = true
serves_object QPend = true
serves_object FlagPend = true
serves_object TaskSemPend = true
serves_object TaskQPend = true
serves_object SemPendAbort = true
serves_object QPendAbort = true
serves_object FlagPendAbort = true
serves_object TaskSemPendAbort = true
serves_object TaskQPendAbort = true
serves_object SemDel = true
serves_object QDel = true
serves_object FlagDel = true
serves_object _ = false

-- the waits that are served
abbrev pub is_served_wait : Service → Bool
is_served_wait SemPend = true
is_served_wait QPend = true
is_served_wait FlagPend = true
is_served_wait TaskSemPend = true
is_served_wait TaskQPend = true
is_served_wait TimeDly = true
is_served_wait _ = false

-- the calls that are served and wake the first that waits
abbrev pub is_served_wake : Service → Bool
is_served_wake SemPost = true
is_served_wake QPost = true
is_served_wake TaskSemPost = true
is_served_wake TaskQPost = true
is_served_wake TimeDlyResume = true
is_served_wake SemPendAbort = true
is_served_wake QPendAbort = true
is_served_wake FlagPendAbort = true
is_served_wake TaskSemPendAbort = true
is_served_wake TaskQPendAbort = true
is_served_wake SemDel = true
is_served_wake QDel = true
is_served_wake FlagDel = true
is_served_wake _ = false

-- those of them that may wake all who wait for an object
abbrev pub may_wake_all : Service → Bool
may_wake_all SemPost = true
may_wake_all QPost = true
may_wake_all SemPendAbort = true
may_wake_all QPendAbort = true
may_wake_all FlagPendAbort = true
may_wake_all SemDel = true
may_wake_all QDel = true
may_wake_all FlagDel = true
may_wake_all _ = false

-- a wait that is served: not for several objects, and not for a mutex
abbrev pub IsSingle : Waiting → Type 0
IsSingle Multi = ⊥
IsSingle (Obj s) = is_served_wait s ≡ true
IsSingle _ = Unit {0}

-- a result without a table
abbrev pub HasNoTable : Option Finished → Type 0
HasNoTable None = Unit {0}
HasNoTable (Some f) = f.n_ids ≡ 0

-- No application task waits for several objects or for a mutex, no result has a table, and each task has its base priority.
pub record IsServed (k : Kernel) : Type 0 where
  pub waits : (x : ℕ) → x < 60 → IsSingle (task_at k x).waiting
  pub reads : (x : ℕ) → HasNoTable (task_at k x).answered
  pub bases : (x : ℕ) → (task_at k x).base ≡ (task_at k x).prio
