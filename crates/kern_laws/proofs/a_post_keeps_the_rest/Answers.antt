-- A post changes no present priority, no lock and no counter.
use Rattle.kern_model.proofs.Posts.Kept.{keeps-posted}
use Rattle.kern_laws.proofs.a_post_keeps_the_rest.Goals as goal

pub returns : goal.returns
returns c = keeps-posted
