use Rattle.std.proofs.Common.{◌-◌, ◌≡◌, ◌<◌, ◌≤◌, length, drop, ℕ, ◌*◌}
use Rattle.isr_nesting.specs.Tree.{IsNode}
use Rattle.isr_nesting.proofs.minima.Minima.new.Given as goal

abbrev pub invariant-loop-at : goal.invariant-loop-at
invariant-loop-at l = record {
  size : length l.nodes.items ≡ 2 * l.count;
  low : l.at ≤ l.count;
  leaves : drop l.count l.nodes.items ≡ l.values;
  nodes : (i : ℕ) → 1 ≤ i → l.at ≤ i → i < l.count → IsNode l.nodes.items i;
}

abbrev pub decreases-loop-at : goal.decreases-loop-at
decreases-loop-at l = l.at - 1
