use Rattle.std.proofs.Common.{◌∙◌, sym, ap}
use Rattle.kern_base.specs.declared.numbers.Prio.{Prio as NumberedPrio}
use Rattle.links.specs.Chain.{list_at, inserted, linked_after}
use Rattle.pend_lists.specs.Pending.{prio_by, wait_place}
use Rattle.pend_lists.proofs.PendLists.join.Goals as goal

abbrev some_prio : NumberedPrio
some_prio = record { 0 = 0 }

pub link_forward-requires-clause-place : goal.link_forward-requires-clause-place
link_forward-requires-clause-place g c =
    let o = c.args.obj.0 in
    (o, wait_place (prio_by c.args.prios.now some_prio) c.args.prio.0 (list_at c.args.self.now.forward o), c.search-after.ensures some_prio, c.requires.absent)

pub link_back-requires-clause-half : goal.link_back-requires-clause-half
link_back-requires-clause-half g c =
    let o = c.args.obj.0 in let i = wait_place (prio_by c.args.prios.now some_prio) c.args.prio.0 (list_at c.args.self.now.forward o) in
    (o, i, c.requires.numbers.1, c.link_forward.ensures.forward o i (c.search-after.ensures some_prio) ∙ ap (λ ls. inserted ls o i c.args.node) (c.requires.whole ∙ sym c.link_forward.ensures.others.0))

pub returns-clause-nexts : goal.returns-clause-nexts
returns-clause-nexts g c =
    λ blank. c.link_back.ensures.others.1 ∙ c.link_forward.ensures.nexts ∙ ap (λ k. linked_after c.args.self.now.nexts k c.args.node) (c.search-after.ensures blank).node
