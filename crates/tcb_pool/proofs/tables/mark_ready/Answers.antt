use Rattle.std.proofs.Common.{arith, ap, ◌∙◌}
use Rattle.kern_model.specs.State.{is_ready}
use Rattle.tcb_pool.specs.TaskView.{task_of}
use Rattle.tcb_pool.specs.declared.records.Tcb.{Tcb}
use Rattle.tcb_pool.proofs.ReadyFacts.{flag-next, all-flags}
use Rattle.tcb_pool.proofs.tables.mark_ready.Goals as goal

pub loop-index-preserved : goal.loop-index-preserved
loop-index-preserved c =
    flag-next (λ (t : Tcb). is_ready (task_of t)) c.args.records.now _ c.loop-index.index c.index-records-index.result c.loop-index.ready c.is_ready.result c.loop-index-test.true (omega arith) c.loop-index.invariant
    (c.is_ready.ensures ∙ ap (λ (t : Tcb). is_ready (task_of t)) c.index-records-index.is)

pub returns : goal.returns
returns c = all-flags c.loop-index.ready _ c.args.records.now c.loop-index.index (omega (arith, c.loop-index-test.false)) (omega (arith, c.loop-index-test.false, c.requires)) c.loop-index.invariant
