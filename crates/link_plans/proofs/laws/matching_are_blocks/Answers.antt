use Rattle.link_plans.proofs.Matching.Links.{matching-row}
use Rattle.link_plans.proofs.laws.matching_are_blocks.Goals as goal

pub returns : goal.returns
returns c = matching-row
