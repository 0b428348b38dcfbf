use Rattle.std.proofs.Common.{◌≡◌, ◌<◌, sym, subst, arith}
use Rattle.links.specs.Chain.{total, list_at, inserted, linked_after}
use Rattle.links.proofs.Both.{forward_count}
use Rattle.links.proofs.Steps.{forward-inserted, node_before-low}
use Rattle.pend_lists.proofs.Tasks.{inserted_once, changed_once}
use Rattle.pend_lists.specs.Pending.{forward_of, IsPlaceFor, IsBefore, ArePending, AreOnceEach}
use Rattle.pend_lists.proofs.PendLists.link_forward.Goals as goal

pub link_next-requires : goal.link_next-requires
link_next-requires g c =
    let n = g.L.Links.nexts c.self.inside.links in let m = g.L.Links.prevs c.self.inside.links in
    let place : IsPlaceFor c.args.node (forward_of n) c.args.after = rw (← c.self.view_is) at c.requires.place in
    let low = node_before-low 512 64 n m c.self.invariant.chained place.0 place.1 place.2.object in
    let nodes = c.self.invariant.chained.forward_nodes in
    (omega (arith, low, place.2.node, nodes), omega arith)

pub invariant_of-self : goal.invariant_of-self
invariant_of-self g c =
    let n = g.L.Links.nexts c.self.inside.links in let m = g.L.Links.prevs c.self.inside.links in
    let y = c.args.node in let b = c.args.after in
    let place : IsPlaceFor y (forward_of n) b = rw (← c.self.view_is) at c.requires.place in
    let none : total y (forward_of n) ≡ 0 = rw (← c.self.view_is) at c.requires.nowhere in
    let o = place.0 in let i = place.1 in let low : o < 64 = place.2.object in
    let now = forward-inserted 512 64 n m c.self.invariant.chained o y i b low c.requires.node none place.2.node in
    let many = forward_count 512 64 n m c.self.invariant.chained in
    let once : AreOnceEach (inserted (forward_of n) o i y) = changed_once (forward_of n) o _ (omega (arith, low, many)) c.self.invariant.forward_once (inserted_once (list_at (forward_of n) o) i y (c.self.invariant.forward_once o low) place.3) in
    let made : ArePending (linked_after n b y) m = record { chained = now.1; forward_once = subst AreOnceEach (sym now.0) once; back_once = c.self.invariant.back_once } in
    rw (c.link_next.ensures.nexts, c.link_next.ensures.prevs) made

pub returns-clause-forward : goal.returns-clause-forward
returns-clause-forward g c =
    let n = g.L.Links.nexts c.self.inside.links in let m = g.L.Links.prevs c.self.inside.links in
    let none : total c.args.node (forward_of n) ≡ 0 = rw (← c.self.view_is) at c.requires.nowhere in
    rw (← c.self.view_is, c.link_next.ensures.nexts)
    (λ o i at. let at' : IsBefore (forward_of n) c.args.after o i = at in (forward-inserted 512 64 n m c.self.invariant.chained o c.args.node i c.args.after at'.object c.requires.node none at'.node).0)
