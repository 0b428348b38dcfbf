use Rattle.std.proofs.Common.{arith}
use Rattle.kern_base.proofs.ServiceLemmas.{service_of-unknown}
use Rattle.kern_base.proofs.services.Service.of.Goals as goal

-- every other number is 0 or above 39
pub returns-in_default : goal.returns-in_default
returns-in_default c = service_of-unknown c.args.number (λ p. omega (arith, p, c.in_default))
