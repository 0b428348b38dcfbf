use Rattle.method_law.proofs.Events.Modes.{events-go}
use Rattle.method_law.proofs.events_go_together.Goals as goal

pub returns : goal.returns
returns c = events-go
