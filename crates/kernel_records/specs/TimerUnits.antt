-- The timer task's unit in the records.
use Rattle.std.specs.Prelude.{ℕ, Bool, false, Option, Some, None, if◌then◌else◌, ◌==◌}
use Rattle.kern_model.specs.State.{Kernel}
use Rattle.kern_model.specs.Timers.{due_timer}

-- whether the timer task waits for its next signal after this, where it goes on with what is due
abbrev pub rests_after : Option ℕ → Kernel → Bool
rests_after (Some o) k = false
rests_after None k = k.timer_signals == 0

-- whether it waits for its next signal after its unit
abbrev pub timer_rests : Kernel → Bool
timer_rests k = if k.processing then rests_after (due_timer k.timer_count k.timer_matches) k else false
