-- After all its micro-steps, a unit of an internal task has made the links of its effect.
use Rattle.kern_model.proofs.Halves.Services.{half-unit}
use Rattle.kern_laws.proofs.half_made_lists_end_as_the_unit.Goals as goal

pub returns : goal.returns
returns c = half-unit
