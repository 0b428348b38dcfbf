use Rattle.link_plans.proofs.Calls.Follows.{wakes_keep_prios, block_keeps_prios}
use Rattle.link_plans.proofs.laws.links_keep_priorities.Goals as goal

pub returns : goal.returns
returns c = record { wakes = wakes_keep_prios; block = block_keeps_prios }
