use Rattle.link_plans.proofs.Calls.Renews.{block_renews, plain_renews, wakes_renew}
use Rattle.link_plans.proofs.laws.calls_renew.Goals as goal

pub returns : goal.returns
returns c = record { block = block_renews; wakes = wakes_renew; plain = plain_renews }
