use Rattle.std.proofs.Common.{length}
use Rattle.micro_steps.specs.Starts.{AreStale, IsFound, StartRecord}
use Rattle.micro_steps.proofs.start.Start.mend.Given as goal

abbrev pub invariant-loop-node : goal.invariant-loop-node
invariant-loop-node g l =
    record {
      stale : AreStale l.self-inside.marks l.self-inside.stale.items;
      found : IsFound l.ready.nexts l.pend.nexts (let s : StartRecord = record { ready = l.self-inside.ready; pend = l.self-inside.pend; stale = l.self-inside.stale.items } in s);
    }

abbrev pub decreases-loop-node : goal.decreases-loop-node
decreases-loop-node g l = length l.self-inside.stale.items
