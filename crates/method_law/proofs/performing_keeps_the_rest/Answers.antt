use Rattle.method_law.proofs.Posts.Performing.{stays-all}
use Rattle.method_law.proofs.performing_keeps_the_rest.Goals as goal

pub returns : goal.returns
returns c = stays-all
