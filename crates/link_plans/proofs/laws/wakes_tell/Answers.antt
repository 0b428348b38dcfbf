use Rattle.link_plans.proofs.Calls.Tells.{matching_tell, objects-woken, wakes_tell}
use Rattle.link_plans.proofs.laws.wakes_tell.Goals as goal

pub returns : goal.returns
returns c = record { tasks = wakes_tell; matching = matching_tell; objects = objects-woken }
