use Rattle.link_plans.proofs.Calls.Follows.{renewals_follow}
use Rattle.link_plans.proofs.laws.renewals_follow.Goals as goal

pub returns : goal.returns
returns c = renewals_follow
