use Rattle.link_plans.proofs.Renewals.Fits.{renewals_hold}
use Rattle.link_plans.proofs.laws.renewals_hold.Goals as goal

pub returns : goal.returns
returns c = renewals_hold
