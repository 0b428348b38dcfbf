use Rattle.std.proofs.Common.{◌≡◌, ℕ, ◌+◌, ◌≤◌, length}
use Rattle.kern_model.specs.State.{count_of}
use Rattle.msg_queues.specs.Stored.{AreStored, Exchanges}
use Rattle.msg_queues.proofs.queues.MsgQueue.clear.Given as goal

-- what is left is stored, and what is taken was exchanged
abbrev pub invariant-loop-self : goal.invariant-loop-self
invariant-loop-self l =
    record {
      limit : l.self.limit ≡ l.initial.self.limit;
      stored : AreStored l.self.keys l.pool;
      free : l.pool.free + length l.self.keys ≡ l.initial.pool.free + length l.initial.self.keys;
      exchanged : Exchanges l.initial.self.keys l.self.keys l.initial.pool l.pool;
      fewer : (key : ℕ) → count_of key l.self.keys ≤ count_of key l.initial.self.keys;
    }

abbrev pub decreases-loop-self : goal.decreases-loop-self
decreases-loop-self l = length l.self.keys
