use Rattle.method_law.proofs.Posts.Kinds.{kinds-all_performed}
use Rattle.method_law.proofs.performing_keeps_the_kinds.Goals as goal

pub returns : goal.returns
returns c = kinds-all_performed
