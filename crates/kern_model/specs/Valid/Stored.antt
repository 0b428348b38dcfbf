-- The stored and the free messages of a valid kernel.
use Rattle.std.specs.Prelude.{◌≡◌, ◌≤◌, ◌+◌, ℕ, List, length}
use Rattle.kern_model.specs.State.{Task, Object, task_in}
use Rattle.kern_model.specs.Pool.{object_messages, task_messages}

-- a task's own queue is within its limit, and stored and free messages together are the pool
pub record AreStored (ts : List Task) (os : List Object) (free all : ℕ) : Type 0 where
  pub limits : (x : ℕ) → length (task_in ts x).messages ≤ (task_in ts x).limit
  pub pool : object_messages os + task_messages ts + free ≡ all
