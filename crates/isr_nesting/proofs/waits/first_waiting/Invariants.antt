use Rattle.std.proofs.Common.{◌≡◌, ◌<◌, ◌-◌, ℕ, true, length}
use Rattle.std.specs.Prelude.{slice_index}
use Rattle.isr_nesting.specs.RecordView.{has_entered}
use Rattle.isr_nesting.proofs.waits.first_waiting.Given as goal

abbrev pub invariant-loop-at : goal.invariant-loop-at
invariant-loop-at l = (j : ℕ) → j < l.at → has_entered l.entered (slice_index l.tasks j) ≡ true

abbrev pub decreases-loop-at : goal.decreases-loop-at
decreases-loop-at l = length l.tasks - l.at
