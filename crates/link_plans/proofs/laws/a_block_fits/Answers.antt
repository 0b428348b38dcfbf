use Rattle.link_plans.proofs.Fits.Waits.{block_fits}
use Rattle.link_plans.proofs.laws.a_block_fits.Goals as goal

pub returns : goal.returns
returns c = block_fits
