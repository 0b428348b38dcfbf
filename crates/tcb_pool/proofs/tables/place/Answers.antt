use Rattle.std.proofs.Common.{arith, ap, ◌∙◌}
use Rattle.std.proofs.lemmas.List.{length-map}
use Rattle.tcb_pool.specs.TaskView.{task_of, without_own}
use Rattle.kern_model.specs.Start.{application_task}
use Rattle.machine_model.specs.Start.{entry_registers}
use Rattle.tcb_pool.specs.declared.records.Tcb.{Tcb}
use Rattle.tcb_pool.proofs.PlaceFacts.{placed-next}
use Rattle.tcb_pool.proofs.tables.place.Goals as goal

pub loop-index-preserved : goal.loop-index-preserved
loop-index-preserved c = (
  placed-next task_of (λ d. without_own (application_task c.args.quanta d)) c.args.defs.now _ c.loop-index.index c.index-defs-index.result c.loop-index.records c.application.result c.loop-index-test.true (omega (arith, length-map c.args.records.now task_of)) c.loop-index.invariant.0 (c.application.ensures.task ∙ ap (λ d. without_own (application_task c.args.quanta d)) c.index-defs-index.is),
  placed-next (λ (t : Tcb). t.regs) entry_registers c.args.defs.now _ c.loop-index.index c.index-defs-index.result c.loop-index.records c.application.result c.loop-index-test.true (omega (arith, length-map c.args.records.now (λ (t : Tcb). t.regs))) c.loop-index.invariant.1 (c.application.ensures.registers ∙ ap entry_registers c.index-defs-index.is),
)
