-- A unit of an internal task takes at most 32,000 micro-steps.
use Rattle.kern_model.proofs.Cost.Calls.{cost-unit-le}
use Rattle.kern_laws.proofs.a_unit_is_bounded.Goals as goal

pub returns : goal.returns
returns c = λ x k v. cost-unit-le x k v.links
