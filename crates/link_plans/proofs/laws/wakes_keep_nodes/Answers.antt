use Rattle.link_plans.proofs.Nodes.Served.{wakes_keep}
use Rattle.link_plans.proofs.laws.wakes_keep_nodes.Goals as goal

pub returns : goal.returns
returns c = wakes_keep
