use Rattle.std.proofs.Common.{take, refl}
use Rattle.tcb_pool.specs.TaskView.{task_of}
use Rattle.link_plans.proofs.Plans.Blocks.{leave_at, ready_at, wake_none}
use Rattle.link_plans.proofs.plan.Plan.wake_link.Goals.{else-tcb-eq0-via-then-tcb-eq0+else-made-ids-2, else-tcb-eq0-via-else-tcb-eq0}
use Rattle.link_plans.proofs.plan.Plan.wake_link.Goals as goal

pub returns-then-made-ids-clause-link : goal.returns-then-made-ids-clause-link
returns-then-made-ids-clause-link c =
    let t = c.args.tcb.now in
    leave_at c.args.task.0 c.args.made c.node_of.result _ c.args.self.now.compared.0 (task_of t) (take t.n_ids t.ids) refl c.if-made-ids.true c.node_of.ensures.node refl

pub returns-then-made-ids-2-clause-link : goal.returns-then-made-ids-2-clause-link
returns-then-made-ids-2-clause-link c =
    let t = c.args.tcb.now in
    ready_at c.args.task.0 c.args.made c.args.self.now.compared.0 c.eq.result (task_of t) (take t.n_ids t.ids) refl c.if-made-ids-2.true c.if-tcb-eq0.true c.eq.ensures

pub returns-clause-link : goal.returns-clause-link
returns-clause-link c =
    let t = c.args.tcb.now in
    wake_none c.args.task.0 c.args.made c.args.self.now.compared.0 (task_of t) (take t.n_ids t.ids) refl c.if-made-ids.false
    (λ free all.
    elim c.else-tcb-eq0.branch [
      | else-tcb-eq0-via-then-tcb-eq0+else-made-ids-2 w ↦ w.if-made-ids-2.false all
      | else-tcb-eq0-via-else-tcb-eq0 w ↦ w.if-tcb-eq0.false free
    ])
