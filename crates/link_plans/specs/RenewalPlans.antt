-- The links of a plan after which priorities are renewed.
use Rattle.std.specs.Prelude.{List, [], ◌∷◌, ◌++◌, if◌then◌else◌}
use Rattle.kern_model.specs.State.{Task}
use Rattle.micro_steps.specs.declared.link.Link.{Link}
use Rattle.micro_steps.specs.declared.link.Link.TheVariants as link
use Rattle.link_plans.specs.declared.renewal_plan.RenewalPlan.{RenewalPlan}
use Rattle.link_plans.specs.Plans.{links_left}
use Rattle.link_plans.specs.Moves.{links_of_moves}

-- those that are left: the plan's own, the moves, the end of the step
abbrev pub renewal_left : List Task → RenewalPlan → List Link
renewal_left ts q = links_left ts q.plan ++ (links_of_moves ts q.moves ++ (if q.ended then [] else link.Plain ∷ []))
