use Rattle.link_plans.proofs.Nodes.Past.{links_keep}
use Rattle.link_plans.proofs.laws.links_keep_past.Goals as goal

pub returns : goal.returns
returns c = links_keep
