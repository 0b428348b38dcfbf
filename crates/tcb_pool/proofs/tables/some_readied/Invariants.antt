use Rattle.std.proofs.Common.{◌≡◌, map, drop}
use Rattle.tcb_pool.specs.TaskView.{task_of}
use Rattle.tcb_pool.proofs.ReadyFacts.{some_new}
use Rattle.tcb_pool.proofs.tables.some_readied.Given as goal

-- none of those so far is such one
abbrev pub invariant-loop-index : goal.invariant-loop-index
invariant-loop-index l = some_new l.prio.0 l.before (map task_of l.records) ≡ some_new l.prio.0 (drop l.index l.before) (map task_of (drop l.index l.records))
