use Rattle.method_law.proofs.Registers.Arguments.{posted-same}
use Rattle.method_law.proofs.posts_read_their_arguments.Goals as goal

pub returns : goal.returns
returns c = λ served s a b p h k. posted-same served p h k a b s
