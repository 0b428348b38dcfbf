use Rattle.std.proofs.Common.{ap, ◌∙◌}
use Rattle.std.specs.Prelude.{slice_set}
use Rattle.std.proofs.lemmas.List.{map-set}
use Rattle.tcb_pool.specs.TaskTable.{TaskTable}
use Rattle.tcb_pool.specs.TaskView.{task_of}
use Rattle.tcb_pool.specs.declared.records.Tcb.{Tcb}
use Rattle.tcb_pool.proofs.tables.Tcbs.set.Goals as goal

pub returns-clause-tasks : goal.returns-clause-tasks
returns-clause-tasks c =
    map-set task_of c.self.inside.records c.args.task.0 c.args.tcb
    ∙ ap (λ (t : TaskTable). slice_set t.tasks c.args.task.0 (task_of c.args.tcb)) c.self.view_is

pub returns-clause-registers : goal.returns-clause-registers
returns-clause-registers c =
    map-set (λ (t : Tcb). t.regs) c.self.inside.records c.args.task.0 c.args.tcb
    ∙ ap (λ (t : TaskTable). slice_set t.registers c.args.task.0 c.args.tcb.regs) c.self.view_is
