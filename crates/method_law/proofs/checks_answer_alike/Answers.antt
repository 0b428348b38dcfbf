use Rattle.std.proofs.Common.{ap}
use Rattle.kern_base.specs.Checks.{static_error}
use Rattle.method_law.proofs.Posts.Kinds.{kinds-all_performed}
use Rattle.method_law.proofs.checks_answer_alike.Goals as goal

pub returns : goal.returns
returns c = λ served later k s args own posts. ap (λ table. static_error s args table own) (kinds-all_performed served later k posts)
