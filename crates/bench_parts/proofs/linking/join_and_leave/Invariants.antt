use Rattle.std.proofs.Common.{◌≡◌, ◌≤◌, ℕ, length}
use Rattle.links.specs.Chain.{total}
use Rattle.bench_parts.proofs.linking.join_and_leave.Given as goal

abbrev pub invariant-loop-task : goal.invariant-loop-task
invariant-loop-task g l = record {
  whole : l.ready.forward ≡ l.ready.back;
  lists : length l.ready.forward ≡ 64;
  absent : (x : ℕ) → l.task ≤ x → total x l.ready.forward ≡ 0;
}

abbrev pub invariant-loop-turn : goal.invariant-loop-turn
invariant-loop-turn g l = record {
  whole : l.ready.forward ≡ l.ready.back;
  lists : length l.ready.forward ≡ 64;
  absent : (x : ℕ) → 60 ≤ x → total x l.ready.forward ≡ 0;
}
