-- So is a renewed priority.
use Rattle.kern_model.proofs.Inherit.Reached.{least-renewed}
use Rattle.kern_laws.proofs.a_renewed_priority_is_the_least_base_priority.Goals as goal

pub returns : goal.returns
returns c = least-renewed
