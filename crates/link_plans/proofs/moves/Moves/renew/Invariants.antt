use Rattle.std.proofs.Common.{◌≡◌}
use Rattle.kern_model.specs.Inherit.{numbers}
use Rattle.link_plans.specs.Told.{moves_told}
use Rattle.link_plans.proofs.moves.Moves.renew.Given as goal

abbrev pub invariant-loop-task : goal.invariant-loop-task
invariant-loop-task l =
    record {
      moves : l.self.moves.items ≡ moves_told l.tasks.tasks l.inherited l.standings (numbers 0 l.task);
      tail : l.self.tail ≡ l.tail;
      task : l.self.task ≡ 0;
      made : l.self.made ≡ 0;
    }
