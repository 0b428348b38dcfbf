use Rattle.link_plans.proofs.Calls.Follows.{links_lead_on}
use Rattle.link_plans.proofs.laws.links_lead.Goals as goal

pub returns : goal.returns
returns c = links_lead_on
