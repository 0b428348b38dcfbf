-- A run to at most 1,000,000 task steps takes fewer than 2 ^ 41 raw steps.
use Rattle.machine_laws.proofs.Counts.Steps.{few-steps}
use Rattle.machine_laws.proofs.raw_steps_are_few.Goals as goal

pub returns : goal.returns
returns c = few-steps
