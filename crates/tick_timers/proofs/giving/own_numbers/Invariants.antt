use Rattle.std.proofs.Common.{◌≡◌, ◌<◌, ℕ, length, get_or}
use Rattle.tick_timers.proofs.giving.own_numbers.Given as goal

abbrev pub invariant-loop-node : goal.invariant-loop-node
invariant-loop-node l = (length l.numbers ≡ 65) × ((k : ℕ) → k < l.node → get_or l.numbers k 0 ≡ k)
