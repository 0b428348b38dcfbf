use Rattle.std.proofs.Common.{rules, refl, length, ◌<◌}
use Rattle.std.specs.Prelude.{slice_index_or}
use Rattle.rv32_exec.specs.Exec.{exec, IsExecution}
use Rattle.rv32_exec.specs.Registers.{Registers}
use Rattle.tcb_pool.specs.declared.records.Tcb.{Tcb}
use Rattle.tcb_pool.proofs.TableFacts.{table-registers}
use Rattle.tcb_pool.proofs.tables.Tcbs.run.Goals as goal

pub returns-clause-registers : goal.returns-clause-registers
returns-clause-registers c =
    let inside : c.args.task.0 < length c.self.inside.records = search rules in
    let tcb : Tcb = slice_index_or c.self.inside.records c.args.task.0 c.index-self-task.result in
    let ex : IsExecution c.step.new.regs c.step.new.ram c.step.result (exec c.args.program.now tcb.regs c.args.ram.now) = c.step.ensures.execution in
    table-registers c.self.inside.records c.args.task.0 _ c.index-self-task.result c.args.self.now (λ (r : Registers). (exec c.args.program.now r c.args.ram.now).registers) c.self.view_is inside refl ex.registers
