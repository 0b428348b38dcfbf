use Rattle.std.proofs.Common.{arith}
use Rattle.pend_lists.proofs.PendLists.successor.Goals as goal

pub returns-clause-below : goal.returns-clause-below
returns-clause-below g c =
    let nodes = c.self.invariant.chained.forward_nodes in
    let low = g.met.L.Links.next_below c.self.inside.links c.args.node (omega (arith, nodes, c.requires)) in
    omega (arith, low, nodes, c.next.ensures)
