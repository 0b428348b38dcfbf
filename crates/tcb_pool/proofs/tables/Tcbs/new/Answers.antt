use Rattle.std.proofs.Common.{◌≤◌, ◌∙◌, length, arith, ap}
use Rattle.tcb_pool.specs.TaskView.{task_of, without_own}
use Rattle.kern_model.specs.Start.{application_task}
use Rattle.machine_model.specs.Start.{entry_registers}
use Rattle.tcb_pool.specs.declared.records.Tcb.{Tcb}
use Rattle.tcb_pool.proofs.PlaceFacts.{placed-start}
use Rattle.tcb_pool.proofs.StartFacts.{tasks-started, registers-started}
use Rattle.tcb_pool.proofs.tables.Tcbs.new.Goals as goal

pub returns-clause-tasks : goal.returns-clause-tasks
returns-clause-tasks c =
    let few : length c.tasks.result.now ≤ 60 = omega (arith, ap (λ l. length l) c.tasks.ensures.value, c.tasks.ensures.valid.tasks_room) in
    tasks-started c.args.image.now c.config-config.result c.tasks.result.now _ _ _ _ _
    (placed-start task_of (λ d. without_own (application_task c.config-config.result.quanta d)) c.tasks.result.now c.blank-records.result c.living.result c.living-2.result c.living-3.result c.place.new.records few c.place.ensures.tasks)
    c.tasks.ensures.value c.config-config.ensures.value c.blank-records.ensures.task c.living.ensures.task c.living-2.ensures.task c.living-3.ensures.task

pub returns-clause-registers : goal.returns-clause-registers
returns-clause-registers c =
    let few : length c.tasks.result.now ≤ 60 = omega (arith, ap (λ l. length l) c.tasks.ensures.value, c.tasks.ensures.valid.tasks_room) in
    registers-started c.args.image.now c.tasks.result.now _ _ _ _ _ few
    (placed-start (λ (t : Tcb). t.regs) entry_registers c.tasks.result.now c.blank-records.result c.living.result c.living-2.result c.living-3.result c.place.new.records few c.place.ensures.registers)
    c.tasks.ensures.value c.blank-records.ensures.registers (c.living.ensures.registers ∙ c.new-none.ensures) (c.living-2.ensures.registers ∙ c.new-none.ensures) (c.living-3.ensures.registers ∙ c.new-none.ensures)
