use Rattle.std.proofs.Common.{◌-◌, ◌≡◌, ◌≤◌, take, drop, ◌*◌}
use Rattle.std.specs.Prelude.{min}
use Rattle.isr_nesting.specs.Least.{least, nothing}
use Rattle.isr_nesting.proofs.TreeLaws.{run}
use Rattle.isr_nesting.proofs.minima.Minima.least_before.Given as goal

abbrev pub invariant-loop-low : goal.invariant-loop-low
invariant-loop-low l = record {
  ordered : l.low ≤ l.high;
  high : l.high ≤ 2 * l.self-inside.count;
  low : 1 ≤ l.self-inside.count → 1 ≤ l.low;
  small : l.best ≤ nothing;
  same : min l.best (run l.self-inside.nodes.items l.low (l.high - l.low)) ≡ least (take l.k (drop l.self-inside.count l.self-inside.nodes.items));
}

abbrev pub decreases-loop-low : goal.decreases-loop-low
decreases-loop-low l = l.high - l.low
