use Rattle.std.proofs.Common.{◌≡◌, ◌++◌, map, take, drop}
use Rattle.tcb_pool.specs.TaskView.{task_of, without_own}
use Rattle.kern_model.specs.Start.{application_task}
use Rattle.machine_model.specs.Start.{entry_registers}
use Rattle.tcb_pool.proofs.tables.place.Given as goal

abbrev pub invariant-loop-index : goal.invariant-loop-index
invariant-loop-index l =
    (map task_of l.records ≡ map (λ d. without_own (application_task l.quanta d)) (take l.index l.defs) ++ drop l.index (map task_of l.initial.records))
    × (map (λ t. t.regs) l.records ≡ map entry_registers (take l.index l.defs) ++ drop l.index (map (λ t. t.regs) l.initial.records))
