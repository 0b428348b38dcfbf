use Rattle.std.proofs.Common.{◌≡◌, ◌≤◌, ◌<◌, ◌+◌, ◌∙◌, sym, subst, length, get_or, arith}
use Rattle.kern_base.specs.declared.numbers.Prio.{Prio as NumberedPrio}
use Rattle.links.specs.Chain.{list_at, node_before}
use Rattle.pend_lists.specs.Pending.{IsBefore, forward_of, prio_by, wait_place}
use Rattle.pend_lists.proofs.Places.{passes, stops, reached_next, left_to_walk, one_less}
use Rattle.pend_lists.proofs.PendLists.search.Goals as goal

abbrev some_prio : NumberedPrio
some_prio = record { 0 = 0 }

pub loop-next-init : goal.loop-next-init
loop-next-init g c = (0, record { object = c.requires; entry = omega arith; node = c.head_node-place.ensures }, λ blank. omega arith)

pub search_step-requires : goal.search_step-requires
search_step-requires g c = let i = c.loop-next.invariant in (c.args.obj.0, i.0, i.1)

-- the place behind the entry that was passed
pub loop-next-preserved : goal.loop-next-preserved
loop-next-preserved g c =
    let i = c.loop-next.invariant in let o = c.args.obj.0 in let xs = list_at c.args.self.now.forward o in
    let found = c.in-Some.ensures.next some_prio o i.0 i.1 in
    let node : c.in-Some.next ≡ node_before (512 + o) xs (i.0 + 1) = found.1 ∙ sym (reached_next (512 + o) xs i.0 found.0) in
    let few : (blank : NumberedPrio) → i.0 + 1 ≤ wait_place (prio_by c.args.prios.now blank) c.args.prio.0 xs =
    λ blank. let at = c.in-Some.ensures.next blank o i.0 i.1 in
    passes (prio_by c.args.prios.now blank) c.args.prio.0 xs i.0 (i.2 blank) at.0 (subst (λ k. prio_by c.args.prios.now blank k ≤ c.args.prio.0) at.1 at.2) in
    (i.0 + 1, record { object = c.requires; entry = omega (arith, found.0); node = node }, few)

pub loop-next-smaller : goal.loop-next-smaller
loop-next-smaller g c =
    let n = g.L.Links.nexts c.self.inside.links in let m = g.L.Links.prevs c.self.inside.links in
    let i = c.loop-next.invariant in let o = c.args.obj.0 in let xs = list_at (forward_of n) o in
    let at : IsBefore (forward_of n) c.loop-next.place o i.0 = rw (← c.self.view_is) at i.1 in
    let inside : i.0 < length xs = rw (← c.self.view_is) at (c.in-Some.ensures.next some_prio o i.0 i.1).0 in
    let is : c.in-Some.next ≡ get_or xs i.0 0 = rw (← c.self.view_is) at (c.in-Some.ensures.next some_prio o i.0 i.1).1 in
    let node : c.in-Some.next ≡ node_before (512 + o) xs (i.0 + 1) = is ∙ sym (reached_next (512 + o) xs i.0 inside) in
    let was = left_to_walk n m c.self.invariant.chained o c.requires i.0 in
    let now = left_to_walk n m c.self.invariant.chained o c.requires (i.0 + 1) in
    let less = one_less n m c.self.invariant.chained o c.requires i.0 inside in
    rw (← c.self.view_is, at.node, node, was, now) less

pub returns : goal.returns
returns g c =
    let i = c.loop-next.invariant in let o = c.args.obj.0 in let xs = list_at c.args.self.now.forward o in
    λ blank.
    let stop = stops (prio_by c.args.prios.now blank) c.args.prio.0 xs i.0 (i.2 blank) (c.in_default.ensures.next blank o i.0 i.1) in
    subst (λ k. IsBefore c.args.self.now.forward c.loop-next.place o k) stop i.1
