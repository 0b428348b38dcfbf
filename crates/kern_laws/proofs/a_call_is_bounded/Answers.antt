-- A call takes at most 32,000 micro-steps.
use Rattle.kern_model.proofs.Cost.Calls.{cost-effect-le}
use Rattle.kern_laws.proofs.a_call_is_bounded.Goals as goal

pub returns : goal.returns
returns c = λ served call k v. cost-effect-le served call k v.links
