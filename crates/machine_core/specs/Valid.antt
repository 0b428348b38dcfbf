-- What a machine may do in all, and its change by the next event.
use Rattle.std.specs.Prelude.{◌≤◌, ℕ, ◌+◌, ◌^◌, Bool, true, false}
use Rattle.kern_base.specs.declared.kinds.Method.{Method}
use Rattle.kern_base.specs.declared.kinds.Method.TheVariants.{Direct, Deferred}
use Rattle.kern_model.specs.State.{Kernel}
use Rattle.served.specs.Served.{program_serves}
use Rattle.machine_model.specs.Machine.{Machine}
use Rattle.machine_model.specs.Answers.{Change}
use Rattle.machine_model.specs.Rules.{rule, done}
use Rattle.machine_core.specs.MethodMachine.{MethodMachine}

-- whether posts act at once
abbrev pub is_direct : Method → Bool
is_direct Direct = true
is_direct Deferred = false

-- how many task steps a machine may do
abbrev pub most_task_steps : ℕ
most_task_steps = 1000000

-- the raw steps of a machine, and the events that it still has, are at most so many
abbrev pub most_events : ℕ
most_events = 2 ^ 41

-- so many signals, with the events that are still to come, are at most that
pub record HasFewSignals (k : Kernel) (events : ℕ) : Type 0 where
  pub tick : k.tick_signals + events ≤ most_events
  pub timer : k.timer_signals + events ≤ most_events

-- what happens next by this method, but for the raw steps
abbrev pub change : Method → Machine → Change
change d m = done program_serves d (rule d m) m

-- the machine after it
abbrev pub changed : MethodMachine → MethodMachine
changed m = record m { state = (change m.method m.state).machine }
