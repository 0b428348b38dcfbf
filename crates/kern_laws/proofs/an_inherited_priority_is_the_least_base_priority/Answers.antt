-- The inherited priority is the least base priority among the tasks from which a task is reached.
use Rattle.kern_model.proofs.Inherit.Reached.{least-above}
use Rattle.kern_laws.proofs.an_inherited_priority_is_the_least_base_priority.Goals as goal

pub returns : goal.returns
returns c = λ k v. least-above k v.links
