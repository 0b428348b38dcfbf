use Rattle.method_law.proofs.Registers.Instructions.{like-exec}
use Rattle.method_law.proofs.instructions_run_alike.Goals as goal

pub returns : goal.returns
returns c = λ served code memory marks a b same. like-exec served memory marks a b same code
