use Rattle.std.proofs.Common.{◌≡◌, ◌++◌, map, take, drop}
use Rattle.kern_model.specs.State.{is_ready}
use Rattle.tcb_pool.specs.TaskView.{task_of}
use Rattle.tcb_pool.proofs.tables.mark_ready.Given as goal

abbrev pub invariant-loop-index : goal.invariant-loop-index
invariant-loop-index l = l.ready ≡ map (λ t. is_ready (task_of t)) (take l.index l.records) ++ drop l.index l.initial.ready
