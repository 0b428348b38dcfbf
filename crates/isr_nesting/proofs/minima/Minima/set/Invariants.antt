use Rattle.std.proofs.Common.{◌-◌, ◌≡◌, ◌≢◌, ◌<◌, ◌≤◌, ◌/◌, length, drop, ℕ, ◌*◌}
use Rattle.std.specs.Prelude.{slice_set}
use Rattle.isr_nesting.specs.Tree.{IsNode}
use Rattle.isr_nesting.proofs.minima.Minima.set.Given as goal

abbrev pub invariant-loop-at : goal.invariant-loop-at
invariant-loop-at l = record {
  size : length l.self-inside.nodes.items ≡ 2 * l.self-inside.count;
  some : 1 ≤ l.at;
  inside : l.at < 2 * l.self-inside.count;
  leaves : drop l.self-inside.count l.self-inside.nodes.items ≡ slice_set l.fn.self l.index l.value;
  nodes : (i : ℕ) → 1 ≤ i → i < l.self-inside.count → i ≢ l.at / 2 → IsNode l.self-inside.nodes.items i;
}

abbrev pub decreases-loop-at : goal.decreases-loop-at
decreases-loop-at l = l.at - 1
