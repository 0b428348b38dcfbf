use Rattle.link_plans.proofs.Nodes.Served.{block_keeps}
use Rattle.link_plans.proofs.laws.a_block_keeps_nodes.Goals as goal

pub returns : goal.returns
returns c = block_keeps
