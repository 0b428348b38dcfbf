use Rattle.std.proofs.Common.{◌≡◌, ◌<◌, ◌∙◌, ap, get_or, length, length-set, arith}
use Rattle.kern_model.specs.State.{count_of}
use Rattle.links.specs.Chain.{unlinked_after}
use Rattle.tick_timers.specs.GivingView.{given_by}
use Rattle.tick_timers.proofs.Chained.{given-numbers, given-fewer, given-out}
use Rattle.tick_timers.proofs.giving.Giving.take_back.Goals as goal

pub prev-before-requires : goal.prev-before-requires
prev-before-requires c =
    let n = c.self.inside.nodes.next in let m = c.self.inside.nodes.prev in let y = c.args.number in
    let some : 0 < count_of y (given_by n) = rw (← c.self.view_is) at c.requires in
    let low = (given-numbers n m c.self.invariant).low y some in
    let nodes = c.self.invariant.chained.back_nodes in
    omega arith

pub unlink_next-requires : goal.unlink_next-requires
unlink_next-requires c =
    let n = c.self.inside.nodes.next in let m = c.self.inside.nodes.prev in let y = c.args.number in
    let some : 0 < count_of y (given_by n) = rw (← c.self.view_is) at c.requires in
    let low = (given-numbers n m c.self.invariant).low y some in
    let nodes = c.self.invariant.chained.forward_nodes in
    let before = c.self.inside.nodes.prev_below y (omega arith) in
    (omega (arith, c.prev-before.ensures), omega arith)

pub next-behind-requires : goal.next-behind-requires
next-behind-requires c =
    let n = c.self.inside.nodes.next in let m = c.self.inside.nodes.prev in let y = c.args.number in
    let some : 0 < count_of y (given_by n) = rw (← c.self.view_is) at c.requires in
    let low = (given-numbers n m c.self.invariant).low y some in
    let nodes = c.self.invariant.chained.forward_nodes in
    let before = c.self.inside.nodes.prev_below y (omega arith) in
    let long : length c.unlink_next.new.links.next ≡ length n = ap length c.unlink_next.ensures.nexts ∙ length-set n c.prev-before.result (get_or n y 0) in
    omega (arith, c.prev-before.ensures)

pub unlink_prev-requires : goal.unlink_prev-requires
unlink_prev-requires c =
    let n = c.self.inside.nodes.next in let m = c.self.inside.nodes.prev in let y = c.args.number in
    let some : 0 < count_of y (given_by n) = rw (← c.self.view_is) at c.requires in
    let low = (given-numbers n m c.self.invariant).low y some in
    let nodes = c.self.invariant.chained.forward_nodes in
    let backs = c.self.invariant.chained.back_nodes in
    let before = c.self.inside.nodes.prev_below y (omega arith) in
    let long : length c.unlink_next.new.links.next ≡ length n = ap length c.unlink_next.ensures.nexts ∙ length-set n c.prev-before.result (get_or n y 0) in
    let same : length c.unlink_next.new.links.prev ≡ length m = ap length c.unlink_next.ensures.prevs in
    let behind = c.unlink_next.new.links.next_below c.prev-before.result (omega (arith, c.prev-before.ensures)) in
    (omega (arith, c.next-behind.ensures), omega arith)

pub invariant_of-self : goal.invariant_of-self
invariant_of-self c =
    let n = c.self.inside.nodes.next in let m = c.self.inside.nodes.prev in let y = c.args.number in let before = c.prev-before.result in
    let some : 0 < count_of y (given_by n) = rw (← c.self.view_is) at c.requires in
    let behind : c.next-behind.result ≡ get_or (unlinked_after n before y) before 0 = c.next-behind.ensures ∙ ap (λ xs. get_or xs before 0) c.unlink_next.ensures.nexts in
    rw (c.unlink_prev.ensures.nexts, c.unlink_next.ensures.nexts, c.unlink_prev.ensures.prevs, c.unlink_next.ensures.prevs)
    (given-fewer n m c.self.invariant y before c.next-behind.result some c.prev-before.ensures behind)

pub returns : goal.returns
returns c =
    let n = c.self.inside.nodes.next in let m = c.self.inside.nodes.prev in let y = c.args.number in let before = c.prev-before.result in
    let some : 0 < count_of y (given_by n) = rw (← c.self.view_is) at c.requires in
    let behind : c.next-behind.result ≡ get_or (unlinked_after n before y) before 0 = c.next-behind.ensures ∙ ap (λ xs. get_or xs before 0) c.unlink_next.ensures.nexts in
    rw (c.unlink_prev.ensures.nexts, c.unlink_next.ensures.nexts, ← c.self.view_is)
    (given-out n m c.self.invariant y before c.next-behind.result some c.prev-before.ensures behind)
