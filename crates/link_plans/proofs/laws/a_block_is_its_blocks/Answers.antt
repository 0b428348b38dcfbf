use Rattle.link_plans.proofs.Plans.Links.{block-row}
use Rattle.link_plans.proofs.laws.a_block_is_its_blocks.Goals as goal

pub returns : goal.returns
returns c = block-row
