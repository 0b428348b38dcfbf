use Rattle.std.proofs.Common.{◌≡◌, map, take}
use Rattle.isr_nesting.specs.declared.orders.Timed.{Timed}
use Rattle.isr_nesting.specs.Keys.{key}
use Rattle.isr_nesting.specs.RecordView.{record_at}
use Rattle.isr_nesting.proofs.orders.keys.Given as goal

abbrev pub invariant-loop-entry : goal.invariant-loop-entry
invariant-loop-entry l = l.keys.items ≡ map (λ (x : Timed). key (record_at l.records x.number).level x.number) (take l.entry-index l.order)
