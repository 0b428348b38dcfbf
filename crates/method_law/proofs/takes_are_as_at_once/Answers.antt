use Rattle.method_law.proofs.Posts.Takes.{take-same}
use Rattle.method_law.proofs.takes_are_as_at_once.Goals as goal

pub returns : goal.returns
returns c = take-same
