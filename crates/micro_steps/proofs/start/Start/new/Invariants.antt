use Rattle.std.proofs.Common.{◌≡◌, ◌<◌, ℕ, length, get_or}
use Rattle.micro_steps.proofs.start.Start.new.Given as goal

abbrev pub invariant-loop-node : goal.invariant-loop-node
invariant-loop-node l =
    record {
      long : length l.ready ≡ 128;
      own : (k : ℕ) → k < l.node → get_or l.ready k 0 ≡ k;
    }

abbrev pub invariant-loop-node-2 : goal.invariant-loop-node-2
invariant-loop-node-2 l =
    record {
      long : length l.pend ≡ 576;
      own : (k : ℕ) → k < l.node → get_or l.pend k 0 ≡ k;
    }
