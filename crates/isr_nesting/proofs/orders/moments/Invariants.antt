use Rattle.std.proofs.Common.{◌≡◌, map, take}
use Rattle.isr_nesting.specs.declared.orders.Timed.{Timed}
use Rattle.isr_nesting.proofs.orders.moments.Given as goal

abbrev pub invariant-loop-entry : goal.invariant-loop-entry
invariant-loop-entry l = l.moments.items ≡ map (λ (x : Timed). x.moment) (take l.entry-index l.order)
