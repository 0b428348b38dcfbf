-- Who may call in a valid kernel, and what a call's request is.
use Rattle.std.specs.Prelude.{◌≡◌, ◌⊎◌, ◌<◌, All, ℕ, true, false, length}
use Rattle.kern_base.specs.declared.services.Service.TheVariants.{PendMulti}
use Rattle.kern_base.specs.declared.requests.Request.{Request}
use Rattle.kern_model.specs.State.{Kernel, task_at, is_ready, application_limit, timer_task}
use Rattle.kern_model.specs.Checks.{argument}
use Rattle.kern_model.specs.Several.{table_objects}
use Rattle.kern_model.specs.Valid.Numbers.{IsWord}
use Rattle.kern_model.specs.Valid.Tasks.{has_result}
use Rattle.kern_model.specs.Valid.Waits.{IsTable}

-- Who may call: a ready application task for which no result waits, while the timer task is not processing, or the timer
-- task in a callback.
abbrev pub MayCall : ℕ → Kernel → Type 0
MayCall x k =
    ((x < application_limit) × (is_ready (task_at k x) ≡ true) × (has_result (task_at k x).answered ≡ false) × (k.processing ≡ false)) ⊎ ((x ≡ timer_task) × (k.in_callback ≡ true))

-- A request of a program: its arguments are words, and a table of OSPendMulti that was read lies in RAM.
pub record IsRequest (r : Request) : Type 0 where
  pub words : All IsWord r.args
  pub table : r.service ≡ PendMulti → r.table ≡ true → IsTable (argument r 0) (length (table_objects r))
