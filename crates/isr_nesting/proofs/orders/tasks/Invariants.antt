use Rattle.std.proofs.Common.{◌≡◌, ◌++◌, drop}
use Rattle.isr_nesting.specs.RecordView.{task_numbers}
use Rattle.isr_nesting.proofs.orders.tasks.Given as goal

abbrev pub invariant-loop-number : goal.invariant-loop-number
invariant-loop-number l = l.tasks.items ++ task_numbers l.number (drop l.number l.records) ≡ task_numbers 0 l.records
