use Rattle.link_plans.proofs.Plans.Links.{wakes-row}
use Rattle.link_plans.proofs.laws.wakes_are_blocks.Goals as goal

pub returns : goal.returns
returns c = wakes-row
