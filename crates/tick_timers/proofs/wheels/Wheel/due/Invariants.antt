use Rattle.std.proofs.Common.{◌≡◌, ◌≤◌, length, take}
use Rattle.kern_model.specs.Time.{due}
use Rattle.tick_timers.specs.Matches.{pairs}
use Rattle.tick_timers.proofs.wheels.Wheel.due.Given as goal

-- those so far that are due
abbrev pub invariant-loop-entry : goal.invariant-loop-entry
invariant-loop-entry l = record {
  due : l.numbers.items ≡ due l.tick (pairs (take l.entry-index l.slot));
  few : length l.numbers.items ≤ l.entry-index;
}
