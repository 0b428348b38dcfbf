use Rattle.method_law.proofs.Posts.Kinds.{kinds-posted}
use Rattle.method_law.proofs.posts_keep_the_kinds.Goals as goal

pub returns : goal.returns
returns c = kinds-posted
