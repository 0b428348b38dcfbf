-- What calls on delays come to.
use Rattle.std.specs.Prelude.{ℕ, Bool, true, false, if◌then◌else◌}
use Rattle.kern_base.specs.declared.errors.OsErr.TheVariants.{SchedLocked, TaskNotDelayed, ZeroDelay}
use Rattle.kern_base.specs.declared.outcomes.Decision.{Decision}
use Rattle.kern_base.specs.declared.outcomes.Decision.TheVariants.{Block, Wake}
use Rattle.kern_base.specs.declared.outcomes.Waiting.{Waiting}
use Rattle.kern_base.specs.declared.outcomes.Waiting.TheVariants.{Delay}
use Rattle.kern_base.specs.declared.outcomes.Who.TheVariants.{First}
use Rattle.kern_model.specs.State.{is_zero}
use Rattle.decisions.specs.Rows.{refusal}

-- OSTimeDly: the caller waits for so many ticks, but not for none
abbrev pub delay_decision : Bool → ℕ → Decision
delay_decision locked ticks =
    if locked then refusal SchedLocked else (if is_zero ticks then refusal ZeroDelay else Block)

-- whether a task waits in a delay
abbrev pub is_delayed : Waiting → Bool
is_delayed Delay = true
is_delayed _ = false

-- OSTimeDlyResume of a task that waits so: its delay ends
abbrev pub resume_decision : Bool → Decision
resume_decision delayed = if delayed then Wake First else refusal TaskNotDelayed
