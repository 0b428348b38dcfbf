use Rattle.std.proofs.Common.{ap, sym, ◌∙◌}
use Rattle.semaphores.specs.Rows.{decision_for}
use Rattle.semaphores.proofs.Laws.{decided-row}
use Rattle.semaphores.proofs.semaphores.Sem.decide.Goals as goal

pub returns-in-SemPost-clause-row : goal.returns-in-SemPost-clause-row
returns-in-SemPost-clause-row c =
    let n = c.args.self.now.count in
    let r = c.args.request.now in
    let seen = c.args.seen.now in
    decided-row c.decide_post.result n r seen c.requires (c.decide_post.ensures ∙ ap (λ s. decision_for s n r seen) (sym c.in-SemPost.is))

pub returns-in-SemPend-clause-row : goal.returns-in-SemPend-clause-row
returns-in-SemPend-clause-row c =
    let n = c.args.self.now.count in
    let r = c.args.request.now in
    let seen = c.args.seen.now in
    decided-row c.decide_pend.result n r seen c.requires (c.decide_pend.ensures ∙ ap (λ s. decision_for s n r seen) (sym c.in-SemPend.is))
