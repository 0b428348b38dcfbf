-- What stands around an object when a call on it is decided.
use Rattle.std.specs.Prelude.{◌≡◌, ℕ, not, List, [], ◌∷◌, Option, Some, None, ◌==◌}
use Rattle.kern_base.specs.declared.numbers.TaskId.{TaskId}
use Rattle.kern_base.specs.declared.outcomes.Around.{Around}
use Rattle.kern_model.specs.State.{Kernel, prio_of}

-- the first of the waiters, by its number
abbrev pub first_waiter : List ℕ → Option TaskId
first_waiter [] = None
first_waiter (x ∷ xs) = Some (record { 0 = x })

-- This was seen in the kernel around an object for which these tasks wait, in order.
pub record IsAround (seen : Around) (waiters : List ℕ) (k : Kernel) : Type 0 where
  pub locked : seen.locked ≡ not (k.lock == 0)
  pub first : seen.first ≡ first_waiter waiters
  pub prio : seen.prio.0 ≡ prio_of k seen.caller.0
