-- What contracts see of the tick counter and the matches of tasks.
use Rattle.std.specs.Prelude.{ℕ, List}

-- the counter; and pairs of a task and its match, in the order in which the matches were given
pub record TickRecord : Type 0 where
  pub ticks : ℕ
  pub matches : List (ℕ × ℕ)
