use Rattle.link_plans.proofs.Matching.Links.{matching_keep, matching_keep_prios}
use Rattle.link_plans.proofs.laws.matching_keep.Goals as goal

pub returns : goal.returns
returns c = record { nodes = matching_keep; priorities = matching_keep_prios }
