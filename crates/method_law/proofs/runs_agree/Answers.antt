use Rattle.method_law.proofs.Runs.Premises.{runs-agree}
use Rattle.method_law.proofs.runs_agree.Goals as goal

pub returns : goal.returns
returns c = runs-agree
