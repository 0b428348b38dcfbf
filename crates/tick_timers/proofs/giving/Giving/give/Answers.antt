use Rattle.std.proofs.Common.{◌≡◌, ◌∙◌, ap, get_or}
use Rattle.kern_model.specs.State.{count_of}
use Rattle.links.specs.Chain.{linked_after}
use Rattle.tick_timers.specs.GivingView.{given_by}
use Rattle.tick_timers.proofs.Chained.{given-more, given-push}
use Rattle.tick_timers.proofs.giving.Giving.give.Goals as goal

pub invariant_of-self : goal.invariant_of-self
invariant_of-self c =
    let n = c.self.inside.nodes.next in let m = c.self.inside.nodes.prev in let y = c.args.number in let last = c.prev-last.result in
    let none : count_of y (given_by n) ≡ 0 = rw (← c.self.view_is) at c.requires.fresh in
    let behind : c.next-behind.result ≡ get_or (linked_after n last y) y 0 = c.next-behind.ensures ∙ ap (λ xs. get_or xs y 0) c.link_next.ensures.nexts in
    rw (c.link_prev.ensures.nexts, c.link_next.ensures.nexts, c.link_prev.ensures.prevs, c.link_next.ensures.prevs)
    (given-more n m c.self.invariant y last c.next-behind.result c.requires.number none c.prev-last.ensures behind)

pub returns : goal.returns
returns c =
    let n = c.self.inside.nodes.next in let m = c.self.inside.nodes.prev in let y = c.args.number in let last = c.prev-last.result in
    let none : count_of y (given_by n) ≡ 0 = rw (← c.self.view_is) at c.requires.fresh in
    let behind : c.next-behind.result ≡ get_or (linked_after n last y) y 0 = c.next-behind.ensures ∙ ap (λ xs. get_or xs y 0) c.link_next.ensures.nexts in
    rw (c.link_prev.ensures.nexts, c.link_next.ensures.nexts, ← c.self.view_is)
    (given-push n m c.self.invariant y last c.next-behind.result c.requires.number none c.prev-last.ensures behind)
