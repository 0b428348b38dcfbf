-- The scheduler's lock, the timer task's processing and the clocks of a valid kernel.
use Rattle.std.specs.Prelude.{◌≡◌, ◌<◌, ◌≤◌, ℕ, Bool, true}
use Rattle.kern_model.specs.State.{nesting_limit}
use Rattle.kern_model.specs.Valid.Numbers.{IsWord}

-- while the timer task is processing the lock is above 0, and only then it is in a callback
pub record IsLock (lock : ℕ) (processing in_callback : Bool) : Type 0 where
  pub few : lock ≤ nesting_limit
  pub locked : processing ≡ true → 0 < lock
  pub callback : in_callback ≡ true → processing ≡ true

-- the tick counter and the timer counter are words
pub record HasClocks (tick timer : ℕ) : Type 0 where
  pub ticks : IsWord tick
  pub timer_count : IsWord timer
