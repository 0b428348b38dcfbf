use Rattle.std.proofs.Common.{◌≡◌, ap, arith}
use Rattle.std.proofs.lemmas.List.{ext_get_or}
use Rattle.links.specs.Chain.{forward_lists}
use Rattle.pend_lists.proofs.PendLists.successors.Goals as goal

pub returns : goal.returns
returns g c =
    let n = g.L.Links.nexts c.self.inside.links in
    let nodes = c.self.invariant.chained.forward_nodes in let long = c.loop-node.invariant.long in let end = c.loop-node-test.false in
    let all : c.loop-node.out ≡ n = ext_get_or 0 c.loop-node.out n (omega (arith, nodes, long)) (λ k h. c.loop-node.invariant.read k (omega (arith, h, long, end))) in
    rw (← c.self.view_is) (record { nexts = all; lists = ap (λ m. forward_lists 512 64 m) all })
