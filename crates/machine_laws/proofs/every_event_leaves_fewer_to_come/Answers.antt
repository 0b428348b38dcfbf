-- Until a run is at its end, every event leaves fewer events to come.
use Rattle.machine_laws.proofs.Runs.Falling.{events_left-next}
use Rattle.machine_laws.proofs.every_event_leaves_fewer_to_come.Goals as goal

pub returns : goal.returns
returns c = events_left-next
