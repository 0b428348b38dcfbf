-- So is the present priority of each living application task and of the timer task.
use Rattle.kern_model.proofs.Inherit.Reached.{least-present}
use Rattle.kern_laws.proofs.a_present_priority_is_the_least_base_priority.Goals as goal

pub returns : goal.returns
returns c = λ k v. least-present k v.links v.inherited
