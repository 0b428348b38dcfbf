-- What a task's first action after a wait does to the kernel: its result is gone, and event flags are consumed.
use Rattle.std.specs.Prelude.{ℕ, List, [], ◌∷◌, Option, Some, None, if◌then◌else◌}
use Rattle.kern_base.specs.declared.services.Service.{Service}
use Rattle.kern_base.specs.declared.services.Service.TheVariants.{FlagPend}
use Rattle.kern_base.specs.declared.errors.OsErr.{OsErr}
use Rattle.kern_base.specs.declared.errors.OsErr.TheVariants.{NoError}
use Rattle.kern_base.specs.declared.outcomes.Finished.{Finished}
use Rattle.kern_model.specs.State.{Kernel, Task, Content, Bits, Object, task_at, update_task, update_object}
use Rattle.kern_model.specs.FlagBits.{consumed}

-- what a group of event flags holds after these ready bits were consumed
abbrev pub consumed_content : ℕ → ℕ → Content → Content
consumed_content ready opt (Bits bits) = Bits (consumed bits ready opt)
consumed_content ready opt content = content

-- the object, unless it is deleted
abbrev pub consumed_object : ℕ → ℕ → Object → Object
consumed_object ready opt b = if b.deleted then b else record b { content = consumed_content ready opt b.content }

-- the objects, where the first of these is the group
abbrev pub consumed_in : List ℕ → ℕ → ℕ → List Object → List Object
consumed_in [] ready opt objects = objects
consumed_in (o ∷ os) ready opt objects = update_object objects o (consumed_object ready opt)

-- A wait on event flags that succeeded consumes the bits with which it was woken, unless the group is deleted.
abbrev pub flags_consumed : Service → OsErr → Task → ℕ → List Object → List Object
flags_consumed FlagPend NoError t ready objects = consumed_in t.objects ready t.opt objects
flags_consumed s err t ready objects = objects

-- the kernel after x has read this result, where there is one
abbrev pub finished_with : Option Finished → ℕ → Kernel → Kernel
finished_with None x k = k
finished_with (Some f) x k =
    let t = task_at k x in
    record k {
      tasks = update_task k.tasks x (λ u. record u { answered = None });
      objects = flags_consumed f.service f.answer.err t f.answer.value k.objects;
    }

-- The kernel after x has read the result that waits for it.
abbrev pub finished : ℕ → Kernel → Kernel
finished x k = finished_with (task_at k x).answered x k
