-- The checks of a call that stand before its row: the static ones, then a deleted object and a deleted or stopped task.
use Rattle.std.specs.Prelude.{ℕ, Bool, false, not, ◌&&◌, List, [], ◌∷◌, Option, Some, None, if◌then◌else◌, ◌==◌, nat_lt, slice_index}
use Rattle.kern_base.specs.Checks.{static_error, kinds_wanted, names_task, caller_number}
use Rattle.kern_base.specs.declared.kinds.Kind.{Kind}
use Rattle.kern_base.specs.declared.requests.Request.{Request}
use Rattle.kern_base.specs.declared.errors.OsErr.{OsErr}
use Rattle.kern_base.specs.declared.errors.OsErr.TheVariants.{ObjectType, TaskNotExist}
use Rattle.kern_model.specs.State.{Kernel, Object, object_at, task_at, kinds_of, application_limit}

-- an argument of a call, from 0
abbrev pub argument : Request → ℕ → ℕ
argument r i = slice_index r.args i

-- the task that the first argument names: the number 4,294,967,295 is the caller's
abbrev pub named_task : Request → ℕ → ℕ
named_task r x = if argument r 0 == caller_number then x else argument r 0

-- whether the call wants an object, and this one is deleted
abbrev pub is_deleted : List Kind → Object → Bool
is_deleted [] b = false
is_deleted (w ∷ ws) b = b.deleted

-- a deleted object, or a task that is not alive
abbrev pub existence_error : Request → ℕ → Kernel → Option OsErr
existence_error r x k =
    if is_deleted (kinds_wanted r.service) (object_at k (argument r 0)) then Some ObjectType
    else (if names_task r.service && not (task_at k (named_task r x)).alive then Some TaskNotExist else None)

-- the first of two errors, where there is one
abbrev pub first_error : Option OsErr → Option OsErr → Option OsErr
first_error (Some err) later = Some err
first_error None later = later

-- The first check that a call fails. The number that names the caller may stand where an application task calls.
abbrev pub call_error : Request → ℕ → Kernel → Option OsErr
call_error r x k = first_error (static_error r.service r.args (kinds_of k) (nat_lt x application_limit)) (existence_error r x k)
