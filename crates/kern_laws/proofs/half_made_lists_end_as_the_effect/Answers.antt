-- After all its micro-steps, a call has made the links of its effect.
use Rattle.kern_model.proofs.Halves.Services.{half-effect}
use Rattle.kern_laws.proofs.half_made_lists_end_as_the_effect.Goals as goal

pub returns : goal.returns
returns c = half-effect
