-- When the current task changes.
use Rattle.std.specs.Prelude.{ℕ, Bool, true, false, ◌&&◌, List, [], ◌∷◌, Option, Some, None, if◌then◌else◌, ◌==◌}
use Rattle.kern_model.specs.State.{Kernel, pick}
use Rattle.machine_model.specs.Queue.{Queued}
use Rattle.machine_model.specs.Machine.{Machine, WholeStep}

-- whether no post waits
abbrev pub none_waits : List Queued → Bool
none_waits [] = true
none_waits (q ∷ qs) = false

-- whether nothing is in hand
abbrev pub is_free : Option WholeStep → Bool
is_free None = true
is_free (Some w) = false

-- the current task after settling: where the scheduler is not locked and no post waits, the task that it picks
abbrev pub settled_task : Kernel → List Queued → ℕ → ℕ
settled_task k later current = if k.lock == 0 && none_waits later then pick k else current

-- the machine settles
abbrev pub settled : Machine → Machine
settled m = record m { current = settled_task m.kernel m.later m.current }
