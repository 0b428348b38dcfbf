-- What the records of all tasks mean.
use Rattle.std.specs.Prelude.{map}
use Rattle.tcb_pool.specs.TaskTable.{TaskTable}
use Rattle.tcb_pool.specs.TaskView.{task_of}
use Rattle.tcb_pool.specs.declared.tables.Tcbs.TheInside.{Inside}

abbrev pub table_of : Inside → TaskTable
table_of a = record { tasks = map task_of a.records; registers = map (λ t. t.regs) a.records }
