use Rattle.method_law.proofs.Runs.Law.{methods-agree}
use Rattle.method_law.proofs.methods_agree.Goals as goal

pub returns : goal.returns
returns c = methods-agree
