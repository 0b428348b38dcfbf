use Rattle.std.proofs.Common.{refl}
use Rattle.method_law.proofs.taking_changes_nothing.Goals as goal

pub returns : goal.returns
returns c = λ served q later k. refl
