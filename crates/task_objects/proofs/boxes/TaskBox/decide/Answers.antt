use Rattle.std.proofs.Common.{◌≡◌, ap, sym, ◌∙◌, length}
use Rattle.std.specs.Prelude.{slice_index}
use Rattle.std.proofs.lemmas.List.{length-map}
use Rattle.msg_queues.specs.Rows.{pend_decision}
use Rattle.msg_queues.specs.Stored.{messages_under}
use Rattle.task_objects.specs.Box.{TaskObjects}
use Rattle.task_objects.specs.Rows.{decision_for, q_post_decision}
use Rattle.task_objects.proofs.RowLaws.{decided-row}
use Rattle.task_objects.proofs.boxes.TaskBox.decide.Goals as goal

pub returns-in-TaskQPost-clause-row : goal.returns-in-TaskQPost-clause-row
returns-in-TaskQPost-clause-row c =
    let own = c.args.self.now in
    let pool = c.args.pool.now in
    let ms = messages_under own.keys pool in
    let r = c.args.request.now in
    let seen = c.args.seen.now in
    let same : length own.keys ≡ length ms = sym (length-map own.keys _) in
    decided-row c.decide_q_post.result own.count own.limit ms pool.free r seen c.requires.call
    (c.decide_q_post.ensures
    ∙ ap (λ held. q_post_decision held own.limit pool.free seen.first) same
    ∙ ap (λ s. decision_for s own.count own.limit ms pool.free r seen) (sym c.in-TaskQPost.is))

pub returns-in-TaskSemPend-clause-row : goal.returns-in-TaskSemPend-clause-row
returns-in-TaskSemPend-clause-row c =
    let own = c.args.self.now in
    let pool = c.args.pool.now in
    let ms = messages_under own.keys pool in
    let r = c.args.request.now in
    let seen = c.args.seen.now in
    decided-row c.decide_sem_pend.result own.count own.limit ms pool.free r seen c.requires.call
    (c.decide_sem_pend.ensures ∙ ap (λ s. decision_for s own.count own.limit ms pool.free r seen) (sym c.in-TaskSemPend.is))

pub returns-in-TaskQPend-clause-row : goal.returns-in-TaskQPend-clause-row
returns-in-TaskQPend-clause-row c =
    let own = c.args.self.now in
    let pool = c.args.pool.now in
    let ms = messages_under own.keys pool in
    let r = c.args.request.now in
    let seen = c.args.seen.now in
    decided-row c.decide_pend.result own.count own.limit ms pool.free r seen c.requires.call
    (c.decide_pend.ensures
    ∙ ap (λ (o : TaskObjects). pend_decision (messages_under o.keys pool) (slice_index r.args 1) seen.locked) c.self.view_is
    ∙ ap (λ s. decision_for s own.count own.limit ms pool.free r seen) (sym c.in-TaskQPend.is))
