use Rattle.std.proofs.Common.{◌≡◌, ◌++◌, drop}
use Rattle.due_looks.specs.Order.{timed_from}
use Rattle.due_looks.proofs.queue.by_line.Given as goal

abbrev pub invariant-loop-number : goal.invariant-loop-number
invariant-loop-number l = l.timed.items ++ timed_from l.number (drop l.number l.looks) ≡ timed_from 0 l.looks
