-- The decisions that several kinds of objects share.
use Rattle.std.specs.Prelude.{ℕ, Bool, true, false, Option, Some, None, if◌then◌else◌}
use Rattle.kern_base.specs.declared.numbers.TaskId.{TaskId}
use Rattle.kern_base.specs.declared.errors.OsErr.{OsErr}
use Rattle.kern_base.specs.declared.errors.OsErr.TheVariants.{NoError, PendAbortNone, SchedLocked, TaskWaiting, WouldBlock}
use Rattle.kern_base.specs.declared.outcomes.Decision.{Decision}
use Rattle.kern_base.specs.declared.outcomes.Decision.TheVariants.{Done, Block, Wake}
use Rattle.kern_base.specs.declared.outcomes.Who.TheVariants.{First, All}
use Rattle.kern_model.specs.Effect.{answer}
use Rattle.kern_model.specs.Options.{aborts_all, deletes_always}

-- the call is refused with this error
abbrev pub refusal : OsErr → Decision
refusal err = Done (answer err 0)

-- a call that can not go on at once: it is non-blocking, or the scheduler is locked, or the caller waits
abbrev pub wait_decision : Bool → Bool → Decision
wait_decision non_blocking locked =
    if non_blocking then refusal WouldBlock else (if locked then refusal SchedLocked else Block)

-- an abort with this option, where this is the first waiter
abbrev pub abort_decision : ℕ → Option TaskId → Decision
abort_decision option None = refusal PendAbortNone
abort_decision option (Some x) = Wake (if aborts_all option then All else First)

-- a deletion with this option, where this is the first waiter
abbrev pub delete_decision : ℕ → Option TaskId → Decision
delete_decision option None = Wake All
delete_decision option (Some x) = if deletes_always option then Wake All else refusal TaskWaiting

-- whether a decision is an answer without an error
abbrev pub is_no_error : OsErr → Bool
is_no_error NoError = true
is_no_error _ = false

abbrev pub is_success : Decision → Bool
is_success (Done a) = is_no_error a.err
is_success _ = false
