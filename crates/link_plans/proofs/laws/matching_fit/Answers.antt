use Rattle.link_plans.proofs.Matching.Links.{matching_end, matching_fit}
use Rattle.link_plans.proofs.laws.matching_fit.Goals as goal

pub returns : goal.returns
returns c = record { fits = matching_fit; end = matching_end }
