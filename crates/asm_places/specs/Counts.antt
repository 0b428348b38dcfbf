-- What stands before a line.
use Rattle.std.specs.Prelude.{ℕ}

-- how many lines that are not empty, and how many that declare a task, an object, a vector
pub record Counts : Type 0 where
  pub lines : ℕ
  pub tasks : ℕ
  pub objects : ℕ
  pub vectors : ℕ
