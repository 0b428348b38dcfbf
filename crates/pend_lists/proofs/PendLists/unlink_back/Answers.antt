use Rattle.std.proofs.Common.{◌≡◌, ◌∙◌, sym, subst, arith}
use Rattle.links.specs.Chain.{unlinked_after}
use Rattle.links.proofs.Steps.{back-left}
use Rattle.pend_lists.specs.Pending.{forward_of, back_of, nodes_of, IsHalfUnlinked, ArePending, AreOnceEach}
use Rattle.pend_lists.proofs.PendLists.unlink_back.Goals as goal

pub next-after-requires : goal.next-after-requires
next-after-requires g c =
    let nodes = c.self.invariant.chained.forward_nodes in
    let low = g.met.L.Links.prev_below c.self.inside.links c.args.node (omega arith) in
    omega (arith, low, c.prev-before.ensures)

pub unlink_prev-requires : goal.unlink_prev-requires
unlink_prev-requires g c =
    let nodes = c.self.invariant.chained.forward_nodes in let others = c.self.invariant.chained.back_nodes in
    let low = g.met.L.Links.prev_below c.self.inside.links c.args.node (omega arith) in
    let next = g.met.L.Links.next_below c.self.inside.links c.prev-before.result (omega (arith, low, c.prev-before.ensures)) in
    (omega (arith, next, c.next-after.ensures), omega arith)

pub invariant_of-self : goal.invariant_of-self
invariant_of-self g c =
    let n = g.L.Links.nexts c.self.inside.links in let m = g.L.Links.prevs c.self.inside.links in
    let half : IsHalfUnlinked (nodes_of n m) c.args.node = rw (← c.self.view_is) at c.requires.half in
    let now = back-left 512 64 n m c.self.invariant.chained half.0 c.args.node c.prev-before.result c.next-after.result half.1 half.3 half.2 c.prev-before.ensures c.next-after.ensures in
    let m' = unlinked_after m c.next-after.result c.args.node in
    let same : forward_of n ≡ back_of m' = half.3 ∙ sym now.0 in
    let made : ArePending n m' = record { chained = now.1; forward_once = c.self.invariant.forward_once; back_once = subst AreOnceEach same c.self.invariant.forward_once } in
    rw (c.unlink_prev.ensures.nexts, c.unlink_prev.ensures.prevs) made

pub returns-clause-back : goal.returns-clause-back
returns-clause-back g c =
    let n = g.L.Links.nexts c.self.inside.links in let m = g.L.Links.prevs c.self.inside.links in
    let half : IsHalfUnlinked (nodes_of n m) c.args.node = rw (← c.self.view_is) at c.requires.half in
    let now = back-left 512 64 n m c.self.invariant.chained half.0 c.args.node c.prev-before.result c.next-after.result half.1 half.3 half.2 c.prev-before.ensures c.next-after.ensures in
    rw (← c.self.view_is, c.unlink_prev.ensures.prevs) (now.0 ∙ sym half.3)
