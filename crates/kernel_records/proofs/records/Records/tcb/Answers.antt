use Rattle.std.proofs.Common.{ap, sym, ◌∙◌, ◌<◌, length, subst}
use Rattle.tcb_pool.specs.TaskView.{without_own}
use Rattle.kernel_records.proofs.ObjectFacts.{task-at}
use Rattle.kernel_records.proofs.records.Records.tcb.Goals as goal

pub returns-clause-task : goal.returns-clause-task
returns-clause-task c =
    let x = c.args.task.0 in
    let ts = c.self.inside.tasks.tasks in
    let h : x < length ts = subst (λ n. x < n) (sym c.self.invariant.tasks) c.requires in
    rw (← c.self.view_is) (ap without_own c.get.ensures.task ∙ sym (ap without_own (task-at c.self.inside.messages.own ts x h)))
