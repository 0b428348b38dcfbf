-- An instruction that traps changes nothing.
use Rattle.machine_laws.proofs.Isolation.Memory.{trap-exec}
use Rattle.machine_laws.proofs.a_trap_changes_nothing.Goals as goal

pub returns : goal.returns
returns c = trap-exec
