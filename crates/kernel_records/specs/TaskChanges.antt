-- Changes of one task.
use Rattle.std.specs.Prelude.{Bool, true, false, None}
use Rattle.kern_base.specs.declared.services.Service.{Service}
use Rattle.kern_base.specs.declared.services.Service.TheVariants.{FlagPend}
use Rattle.kern_base.specs.declared.errors.OsErr.{OsErr}
use Rattle.kern_base.specs.declared.errors.OsErr.TheVariants.{NoError}
use Rattle.kern_model.specs.State.{Task}

-- the result that waited for the task is gone
abbrev pub cleared_task : Task → Task
cleared_task t = record t { answered = None }

-- the task stopped for good
abbrev pub stopped_task : Task → Task
stopped_task t = record t { alive = false }

-- whether the result of this call with this error is that of a wait for event flags that succeeded
abbrev pub took_flags : Service → OsErr → Bool
took_flags FlagPend NoError = true
took_flags s err = false
