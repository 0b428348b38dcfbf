-- From every machine on there are at most so many more events than raw steps.
use Rattle.machine_laws.proofs.Counts.Quiet.{counted-run_on}
use Rattle.machine_laws.proofs.events_are_counted.Goals as goal

pub returns : goal.returns
returns c = counted-run_on
