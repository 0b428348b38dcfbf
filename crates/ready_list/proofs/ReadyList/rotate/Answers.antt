use Rattle.std.proofs.Common.{true, set, ap, ◌∙◌}
use Rattle.ready_list.proofs.Consistent.{marked_again}
use Rattle.ready_list.proofs.ReadyList.rotate.Goals as goal

pub returns-in-Some-clause-marked : goal.returns-in-Some-clause-marked
returns-in-Some-clause-marked g c =
    let p = c.args.prio.0 in
    c.mark.ensures.marked
    ∙ ap (λ ms. set ms p true) (c.link_back.ensures.others.2 ∙ c.link_forward.ensures.others.2 ∙ c.remove.ensures.marked)
    ∙ marked_again c.remove.new.self.forward p c.args.self.now.marked
