use Rattle.std.proofs.Common.{◌≡◌, ◌∙◌, sym, subst, arith}
use Rattle.links.specs.Chain.{total, linked_after}
use Rattle.links.proofs.Steps.{back-inserted}
use Rattle.pend_lists.specs.Pending.{forward_of, back_of, nodes_of, IsHalfLinked, ArePending, AreOnceEach}
use Rattle.pend_lists.proofs.PendLists.link_back.Goals as goal

pub link_prev-requires : goal.link_prev-requires
link_prev-requires g c =
    let nodes = c.self.invariant.chained.forward_nodes in let others = c.self.invariant.chained.back_nodes in
    let low = g.met.L.Links.next_below c.self.inside.links c.args.node (omega arith) in
    (omega (arith, low, c.next-before_it.ensures), omega arith)

pub invariant_of-self : goal.invariant_of-self
invariant_of-self g c =
    let n = g.L.Links.nexts c.self.inside.links in let m = g.L.Links.prevs c.self.inside.links in
    let half : IsHalfLinked (nodes_of n m) c.args.node = rw (← c.self.view_is) at c.requires.half in
    let none : total c.args.node (back_of m) ≡ 0 = rw (← c.self.view_is) at c.requires.nowhere in
    let now = back-inserted 512 64 n m c.self.invariant.chained half.0 c.args.node half.1 c.next-before_it.result half.2 c.requires.node half.3 none c.next-before_it.ensures in
    let m' = linked_after m c.next-before_it.result c.args.node in
    let same : forward_of n ≡ back_of m' = half.3 ∙ sym now.0 in
    let made : ArePending n m' = record { chained = now.1; forward_once = c.self.invariant.forward_once; back_once = subst AreOnceEach same c.self.invariant.forward_once } in
    rw (c.link_prev.ensures.nexts, c.link_prev.ensures.prevs) made

pub returns-clause-back : goal.returns-clause-back
returns-clause-back g c =
    let n = g.L.Links.nexts c.self.inside.links in let m = g.L.Links.prevs c.self.inside.links in
    let half : IsHalfLinked (nodes_of n m) c.args.node = rw (← c.self.view_is) at c.requires.half in
    let none : total c.args.node (back_of m) ≡ 0 = rw (← c.self.view_is) at c.requires.nowhere in
    let now = back-inserted 512 64 n m c.self.invariant.chained half.0 c.args.node half.1 c.next-before_it.result half.2 c.requires.node half.3 none c.next-before_it.ensures in
    rw (← c.self.view_is, c.link_prev.ensures.prevs) (now.0 ∙ sym half.3)
