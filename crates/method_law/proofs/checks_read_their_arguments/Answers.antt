use Rattle.method_law.proofs.Registers.Arguments.{checked-same}
use Rattle.method_law.proofs.checks_read_their_arguments.Goals as goal

pub returns : goal.returns
returns c = λ s a b table own. checked-same a b table own s
