-- How many tasks, objects and lists a valid kernel has.
use Rattle.std.specs.Prelude.{◌≡◌, ◌≤◌, ℕ, List, length}
use Rattle.kern_model.specs.State.{Task, Object, table_size, application_limit}

-- 64 records of tasks, 64 ready lists, a list of waiters for each of at most 64 objects, and at most 60 application tasks
pub record HasSizes (ts : List Task) (os : List Object) (rs ps : List (List ℕ)) (n : ℕ) : Type 0 where
  pub tasks : length ts ≡ table_size
  pub ready : length rs ≡ table_size
  pub pend : length ps ≡ length os
  pub objects : length os ≤ 64
  pub application : n ≤ application_limit
