-- From which tasks a task inherits: those from which it is reached by waits for mutexes. Chains of such waits may be cyclic.
use Rattle.std.specs.Prelude.{◌≡◌, ◌≤◌, ℕ, Some}
use Rattle.kern_model.specs.State.{Kernel, task_at}
use Rattle.kern_model.specs.Inherit.{waits_on}

-- x is reached from u: it is u itself, or it is reached from the living owner of the mutex for which u waits.
pub data IsReached (k : Kernel) (x : ℕ) : ℕ → Type 0 where
  Here : IsReached k x x
  Onward : (u v : ℕ) → waits_on k u ≡ Some v → IsReached k x v → IsReached k x u

-- p is the least base priority among the tasks from which x is reached.
pub record IsLeastBase (k : Kernel) (x p : ℕ) : Type 0 where
  pub at_most : (u : ℕ) → IsReached k x u → p ≤ (task_at k u).base
  pub from_one : (u : ℕ) × IsReached k x u × (p ≡ (task_at k u).base)
