use Rattle.tick_timers.proofs.Wheel.{wheel-empty}
use Rattle.tick_timers.proofs.wheels.Wheel.new.Goals as goal

pub invariant_of-result : goal.invariant_of-result
invariant_of-result c = rw c.new.ensures (wheel-empty c.empty_slots.result c.empty_slots.ensures.lists c.empty_slots.ensures.count)
