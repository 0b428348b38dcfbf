use Rattle.method_law.proofs.Posts.Performing.{performed-last}
use Rattle.method_law.proofs.queueing_is_posting_at_once.Goals as goal

pub returns : goal.returns
returns c = performed-last
