-- The queue as contracts see it: the posts that wait, the one that waits longest first, and how many may wait.
use Rattle.std.specs.Prelude.{ℕ, List}
use Rattle.machine_model.specs.Queue.{Queued}

pub record QueueRecord : Type 0 where
  pub posts : List Queued
  pub size : ℕ
