use Rattle.link_plans.proofs.Calls.Tells.{block_tells, block_knows}
use Rattle.link_plans.proofs.laws.a_block_tells.Goals as goal

pub returns : goal.returns
returns c = record { tasks = block_tells; objects = block_knows }
