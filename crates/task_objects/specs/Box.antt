-- What contracts see of a task's own semaphore and queue: the count, how many messages the queue may hold, and their keys in
-- order.
use Rattle.std.specs.Prelude.{ℕ, List}

pub record TaskObjects : Type 0 where
  pub count : ℕ
  pub limit : ℕ
  pub keys : List ℕ
