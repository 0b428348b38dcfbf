use Rattle.std.proofs.Common.{◌≡◌, ◌-◌, length}
use Rattle.link_plans.specs.Moves.{links_of_moves}
use Rattle.link_plans.proofs.moves.Moves.next_link.Given as goal

abbrev pub invariant-loop-self : goal.invariant-loop-self
invariant-loop-self l =
    record {
      left : links_of_moves l.tasks.tasks l.self ≡ links_of_moves l.tasks.tasks l.initial.self;
      moves : l.self.moves ≡ l.initial.self.moves;
      tail : l.self.tail ≡ l.initial.self.tail;
    }

abbrev pub decreases-loop-self : goal.decreases-loop-self
decreases-loop-self l = length l.self.moves.items - l.self.task
