use Rattle.machine_laws.proofs.Isolation.Memory.{code-next}
use Rattle.machine_laws.proofs.no_event_changes_the_code.Goals as goal

pub returns : goal.returns
returns c = code-next
