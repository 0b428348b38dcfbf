use Rattle.std.proofs.Common.{◌≡◌, ◌-◌, ◌+◌, length, take, drop}
use Rattle.links.specs.Chain.{list_at, first_of}
use Rattle.pend_lists.specs.Pending.{forward_of, waiters}
use Rattle.pend_lists.proofs.PendLists.forward.Given as goal

abbrev pub invariant-loop-node : goal.invariant-loop-node
invariant-loop-node g l =
    let xs = list_at (forward_of (g.L.Links.nexts l.self-inside.links)) l.fn.obj.0 in
    record {
      read : l.out.items ≡ waiters (take (length l.out.items) xs);
      at : l.node ≡ first_of (drop (length l.out.items) xs) (512 + l.fn.obj.0);
    }

abbrev pub decreases-loop-node : goal.decreases-loop-node
decreases-loop-node g l = 64 - length l.out.items
