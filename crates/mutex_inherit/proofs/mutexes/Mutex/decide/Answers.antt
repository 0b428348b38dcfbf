use Rattle.std.proofs.Common.{ap, sym, ◌∙◌}
use Rattle.mutex_inherit.specs.Rows.{decision_for}
use Rattle.mutex_inherit.proofs.RowLaws.{decided-row}
use Rattle.mutex_inherit.proofs.mutexes.Mutex.decide.Goals as goal

pub returns-in-MutexPend-clause-row : goal.returns-in-MutexPend-clause-row
returns-in-MutexPend-clause-row c =
    let m = c.args.self.now in
    let r = c.args.request.now in
    let seen = c.args.seen.now in
    decided-row c.decide_pend.result m r seen c.requires.call (c.decide_pend.ensures ∙ ap (λ s. decision_for s m r seen) (sym c.in-MutexPend.is))

pub returns-in-MutexPost-clause-row : goal.returns-in-MutexPost-clause-row
returns-in-MutexPost-clause-row c =
    let m = c.args.self.now in
    let r = c.args.request.now in
    let seen = c.args.seen.now in
    decided-row c.decide_post.result m r seen c.requires.call (c.decide_post.ensures ∙ ap (λ s. decision_for s m r seen) (sym c.in-MutexPost.is))

pub returns-in-MutexPendAbort-clause-row : goal.returns-in-MutexPendAbort-clause-row
returns-in-MutexPendAbort-clause-row c =
    let m = c.args.self.now in
    let r = c.args.request.now in
    let seen = c.args.seen.now in
    decided-row c.abort.result m r seen c.requires.call (c.abort.ensures ∙ ap (λ s. decision_for s m r seen) (sym c.in-MutexPendAbort.is))

pub returns-in-MutexDel-clause-row : goal.returns-in-MutexDel-clause-row
returns-in-MutexDel-clause-row c =
    let m = c.args.self.now in
    let r = c.args.request.now in
    let seen = c.args.seen.now in
    decided-row c.delete.result m r seen c.requires.call (c.delete.ensures ∙ ap (λ s. decision_for s m r seen) (sym c.in-MutexDel.is))
