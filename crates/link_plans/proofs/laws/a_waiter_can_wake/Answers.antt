use Rattle.link_plans.proofs.Nodes.Waiters.{waiter_can_wake}
use Rattle.link_plans.proofs.laws.a_waiter_can_wake.Goals as goal

pub returns : goal.returns
returns c = waiter_can_wake
