-- What every post leaves as it was.
use Rattle.std.specs.Prelude.{◌≡◌, ℕ}
use Rattle.kern_model.specs.State.{Kernel, task_at}

-- a post changes no priority, no standing of a task but waits and results, no clock and no lock
pub record PostKeeps (old new : Kernel) : Type 0 where
  pub lock : new.lock ≡ old.lock
  pub prio : (x : ℕ) → (task_at new x).prio ≡ (task_at old x).prio
  pub base : (x : ℕ) → (task_at new x).base ≡ (task_at old x).base
  pub alive : (x : ℕ) → (task_at new x).alive ≡ (task_at old x).alive
  pub suspended : (x : ℕ) → (task_at new x).suspended ≡ (task_at old x).suspended
  pub ticks : new.ticks ≡ old.ticks
  pub timer_count : new.timer_count ≡ old.timer_count
  pub processing : new.processing ≡ old.processing
  pub in_callback : new.in_callback ≡ old.in_callback
  pub settings : new.settings ≡ old.settings
