use Rattle.link_plans.proofs.Fits.Woken.{all_wakes_fit}
use Rattle.link_plans.proofs.laws.wakes_fit.Goals as goal

pub returns : goal.returns
returns c = all_wakes_fit
