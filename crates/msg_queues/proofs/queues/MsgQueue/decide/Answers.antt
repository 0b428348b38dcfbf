use Rattle.std.proofs.Common.{◌≡◌, ap, sym, ◌∙◌, length, slice_index}
use Rattle.std.proofs.lemmas.List.{length-map}
use Rattle.msg_queues.specs.Stored.{messages_under}
use Rattle.msg_queues.specs.Rows.{decision_for, post_decision}
use Rattle.msg_queues.proofs.RowLaws.{decided-row}
use Rattle.msg_queues.proofs.queues.MsgQueue.decide.Goals as goal

pub returns-in-QPost-clause-row : goal.returns-in-QPost-clause-row
returns-in-QPost-clause-row c =
    let queue = c.args.self.now in
    let pool = c.args.pool.now in
    let ms = messages_under queue.keys pool in
    let r = c.args.request.now in
    let seen = c.args.seen.now in
    let same : length queue.keys ≡ length ms = sym (length-map queue.keys _) in
    decided-row c.decide_post.result queue.limit ms pool.free r seen c.requires.call
    (c.decide_post.ensures
    ∙ ap (λ held. post_decision held queue.limit pool.free (slice_index r.args 3) seen.first) same
    ∙ ap (λ s. decision_for s queue.limit ms pool.free r seen) (sym c.in-QPost.is))

pub returns-in-QPend-clause-row : goal.returns-in-QPend-clause-row
returns-in-QPend-clause-row c =
    let queue = c.args.self.now in
    let pool = c.args.pool.now in
    let ms = messages_under queue.keys pool in
    let r = c.args.request.now in
    let seen = c.args.seen.now in
    decided-row c.decide_pend.result queue.limit ms pool.free r seen c.requires.call
    (c.decide_pend.ensures ∙ ap (λ s. decision_for s queue.limit ms pool.free r seen) (sym c.in-QPend.is))

pub returns-in-QDel-clause-row : goal.returns-in-QDel-clause-row
returns-in-QDel-clause-row c =
    let queue = c.args.self.now in
    let pool = c.args.pool.now in
    let ms = messages_under queue.keys pool in
    let r = c.args.request.now in
    let seen = c.args.seen.now in
    decided-row c.delete.result queue.limit ms pool.free r seen c.requires.call
    (c.delete.ensures ∙ ap (λ s. decision_for s queue.limit ms pool.free r seen) (sym c.in-QDel.is))
