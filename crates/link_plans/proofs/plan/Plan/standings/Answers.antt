use Rattle.std.proofs.Common.{◌≢◌, ◌<◌, length, None, ap, ◌∙◌, arith, below_more, length-set, get_or-set_same, get_or-set_other}
use Rattle.kern_model.specs.State.{Task, waits_for_nothing}
use Rattle.link_plans.specs.Matching.{holds_on}
use Rattle.link_plans.specs.Told.{free_after, standing_by}
use Rattle.link_plans.proofs.plan.Plan.standings.Goals as goal

pub loop-task-preserved : goal.loop-task-preserved
loop-task-preserved c =
    let s = c.loop-task.standings in let x = c.loop-task.task in let v = c.standing.result in let q = c.args.self.now in
    let size = c.loop-task.invariant.size in
    let inside : x < length s = omega (arith, size) in
    record {
      size = length-set s x v ∙ size;
      told = below_more _ _
          (λ y h. let far : y ≢ x = omega arith in get_or-set_other s x y v None far ∙ c.loop-task.invariant.told y h)
          (get_or-set_same s x v None inside
          ∙ c.standing.ensures
          ∙ ap (λ (t : Task). standing_by t.alive (free_after q.decision q.caller.0 q.woken.items x (waits_for_nothing t.waiting) (holds_on q.bits t)) t.suspended) c.get.ensures.task);
    }
