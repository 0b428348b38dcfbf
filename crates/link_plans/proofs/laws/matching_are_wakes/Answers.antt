use Rattle.link_plans.proofs.Matching.Wakes.{are_wakes, matching-change}
use Rattle.link_plans.proofs.laws.matching_are_wakes.Goals as goal

pub returns : goal.returns
returns c = record { wakes = are_wakes; change = matching-change }
