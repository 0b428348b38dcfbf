use Rattle.std.proofs.Common.{◌≡◌, ◌++◌, drop}
use Rattle.isr_nesting.specs.Order.{timed_in}
use Rattle.isr_nesting.proofs.orders.by_number.Given as goal

abbrev pub invariant-loop-number : goal.invariant-loop-number
invariant-loop-number l = l.timed.items ++ timed_in l.number (drop l.number l.records) ≡ timed_in 0 l.records
