use Rattle.std.proofs.Common.{◌<◌, length}
use Rattle.message_store.proofs.tests.run_all.Given as goal

abbrev pub invariant-loop-call : goal.invariant-loop-call
invariant-loop-call g l = 2 < length l.store.queues
