use Rattle.std.proofs.Common.{◌≡◌, ◌<◌, ℕ, length}
use Rattle.std.specs.Prelude.{slice_index}
use Rattle.isr_nesting.specs.Order.{timed_at}
use Rattle.isr_nesting.proofs.orders.places.Given as goal

abbrev pub invariant-loop-place : goal.invariant-loop-place
invariant-loop-place l = (length l.places.items ≡ l.count) × ((j : ℕ) → j < l.place → slice_index l.places.items (timed_at l.order j).number ≡ j)
