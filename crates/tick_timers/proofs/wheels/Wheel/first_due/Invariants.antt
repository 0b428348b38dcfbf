use Rattle.std.proofs.Common.{◌≡◌, drop}
use Rattle.std.specs.Prelude.{slice_get}
use Rattle.kern_model.specs.Time.{due}
use Rattle.tick_timers.specs.Matches.{pairs}
use Rattle.tick_timers.proofs.wheels.Wheel.first_due.Given as goal

-- none so far was due
abbrev pub invariant-loop-entry : goal.invariant-loop-entry
invariant-loop-entry l = slice_get (due l.count (pairs (drop l.entry-index l.slot))) 0 ≡ slice_get (due l.count (pairs l.slot)) 0
