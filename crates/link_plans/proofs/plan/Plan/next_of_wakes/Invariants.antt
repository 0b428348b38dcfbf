use Rattle.std.proofs.Common.{◌≡◌, ◌-◌, length}
use Rattle.link_plans.specs.Plans.{woken_left}
use Rattle.link_plans.proofs.plan.Plan.next_of_wakes.Given as goal

abbrev pub invariant-loop-self : goal.invariant-loop-self
invariant-loop-self l =
    record {
      left : woken_left l.who l.tasks.tasks l.self ≡ woken_left l.who l.tasks.tasks l.initial.self;
      woken : l.self.woken ≡ l.initial.self.woken;
      bits : l.self.bits ≡ l.initial.self.bits;
      decision : l.self.decision ≡ l.initial.self.decision;
      caller : l.self.caller ≡ l.initial.self.caller;
      compared : l.self.compared ≡ l.initial.self.compared;
      objects : l.self.objects ≡ l.initial.self.objects;
      known : l.self.known ≡ l.initial.self.known;
      ended : l.self.ended ≡ l.initial.self.ended;
      last : l.self.last ≡ l.initial.self.last;
    }

abbrev pub decreases-loop-self : goal.decreases-loop-self
decreases-loop-self l = length l.self.woken.items - l.self.task
