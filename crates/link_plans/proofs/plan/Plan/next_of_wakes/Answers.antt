use Rattle.std.proofs.Common.{sym, ◌∙◌, arith}
use Rattle.tcb_pool.specs.TaskView.{task_of}
use Rattle.link_plans.proofs.Plans.Blocks.{woken_next, woken_skip}
use Rattle.link_plans.proofs.plan.Plan.next_of_wakes.Goals as goal

pub returns-in-Some-clause-next : goal.returns-in-Some-clause-next
returns-in-Some-clause-next c =
    let l = c.loop-self.self in
    sym c.loop-self.invariant.left
    ∙ woken_next c.args.tasks.now.tasks l c.args.who l.task l.made c.deref.result.now (task_of c.get.result.now) c.in-Some.link c.deref.ensures.0 (omega arith) c.get.ensures.task (sym c.in-Some.is ∙ c.task_link.ensures.link)

pub loop-self-preserved : goal.loop-self-preserved
loop-self-preserved c =
    let l = c.loop-self.self in
    record {
      left = woken_skip c.args.tasks.now.tasks l c.args.who l.task l.made c.deref.result.now (task_of c.get.result.now) c.deref.ensures.0 (omega arith) c.get.ensures.task (sym c.in_default.is ∙ c.task_link.ensures.link) ∙ c.loop-self.invariant.left;
      woken = c.loop-self.invariant.woken;
      bits = c.loop-self.invariant.bits;
      decision = c.loop-self.invariant.decision;
      caller = c.loop-self.invariant.caller;
      compared = c.loop-self.invariant.compared;
      objects = c.loop-self.invariant.objects;
      known = c.loop-self.invariant.known;
      ended = c.loop-self.invariant.ended;
      last = c.loop-self.invariant.last;
    }
