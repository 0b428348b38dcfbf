-- What contracts see of the timer count and the timers that run.
use Rattle.std.specs.Prelude.{ℕ, List}

-- the timer count; and pairs of a running timer and its match, in the order in which the matches were given
pub record TimerRecord : Type 0 where
  pub count : ℕ
  pub matches : List (ℕ × ℕ)
