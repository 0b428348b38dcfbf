-- The raw steps and the events that are left never rise together.
use Rattle.machine_laws.proofs.Counts.Steps.{nothing-added}
use Rattle.machine_laws.proofs.raw_steps_and_events_left_never_rise.Goals as goal

pub returns : goal.returns
returns c = nothing-added
