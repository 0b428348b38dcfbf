use Rattle.listing_law.proofs.Accepted.Whole.{every_listing_assembles_back}
use Rattle.listing_law.proofs.laws.listing_assembles_back.Goals as goal

-- the law, whole
pub returns : goal.returns
returns c = every_listing_assembles_back
