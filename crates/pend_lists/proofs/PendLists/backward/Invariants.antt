use Rattle.std.proofs.Common.{◌≡◌, ◌-◌, ◌+◌, length, take, drop}
use Rattle.links.specs.Chain.{list_at, first_of, chains}
use Rattle.pend_lists.specs.Pending.{waiters}
use Rattle.pend_lists.proofs.PendLists.backward.Given as goal

abbrev pub invariant-loop-node : goal.invariant-loop-node
invariant-loop-node g l =
    let xs = list_at (chains (g.L.Links.prevs l.self-inside.links) 512 64) l.fn.obj.0 in
    record {
      read : l.out.items ≡ waiters (take (length l.out.items) xs);
      at : l.node ≡ first_of (drop (length l.out.items) xs) (512 + l.fn.obj.0);
    }

abbrev pub decreases-loop-node : goal.decreases-loop-node
decreases-loop-node g l = 64 - length l.out.items
