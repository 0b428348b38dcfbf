use Rattle.std.proofs.Common.{◌≡◌, ◌<◌, ap, sym, ◌∙◌, subst, true}
use Rattle.message_store.specs.Store.{own_at}
use Rattle.task_objects.specs.Rows as own
use Rattle.task_objects.specs.Rows.{Holds, IsTaskDecided, is_task_call, target}
use Rattle.kernel_records.specs.RecordsView.{state_of}
use Rattle.kernel_records.proofs.DecidingFacts.{by-task}
use Rattle.kernel_records.proofs.RowFacts.{row-task}
use Rattle.kernel_records.proofs.TaskCalls.{holds, own-decision, target-below}
use Rattle.kernel_records.proofs.records.Records.decide_on_objects.Goals as goal

pub target-requires : goal.target-requires
target-requires c =
    let t : is_task_call c.args.request.now.service ≡ true = sym c.is_task_call.ensures ∙ c.if-is_task_call.true in
    target-below c.self.inside c.args.request.now c.args.seen.now.caller.0 c.self.invariant c.requires.caller c.requires.served t (rw (← c.self.view_is) at c.requires.passed)

pub decide_own-requires-clause-number : goal.decide_own-requires-clause-number
decide_own-requires-clause-number c =
    let t : is_task_call c.args.request.now.service ≡ true = sym c.is_task_call.ensures ∙ c.if-is_task_call.true in
    subst (λ n. n < 64) (sym c.target.ensures)
    (target-below c.self.inside c.args.request.now c.args.seen.now.caller.0 c.self.invariant c.requires.caller c.requires.served t (rw (← c.self.view_is) at c.requires.passed))

pub returns-then-is_task_call-clause-value : goal.returns-then-is_task_call-clause-value
returns-then-is_task_call-clause-value c =
    let r = c.args.request.now in
    let seen = c.args.seen.now in
    let a = c.self.inside in
    let t : is_task_call r.service ≡ true = sym c.is_task_call.ensures ∙ c.if-is_task_call.true in
    let passed = rw (← c.self.view_is) at c.requires.passed in
    rw (← c.self.view_is)
    (c.decide_own.ensures.value
    ∙ ap (λ y. own.decision_of (own_at a.messages y).count (own_at a.messages y).limit (own_at a.messages y).messages a.messages.free r seen) c.target.ensures
    ∙ sym (own-decision a r seen.caller.0 c.self.invariant c.requires.caller c.requires.served t passed seen)
    ∙ sym (by-task r seen (state_of a) t))

pub returns-then-is_task_call-clause-row : goal.returns-then-is_task_call-clause-row
returns-then-is_task_call-clause-row c =
    let r = c.args.request.now in
    let seen = c.args.seen.now in
    let a = c.self.inside in
    let y = target r.service r seen.caller.0 in
    let o = own_at a.messages y in
    let t : is_task_call r.service ≡ true = sym c.is_task_call.ensures ∙ c.if-is_task_call.true in
    let passed = rw (← c.self.view_is) at c.requires.passed in
    let does : IsTaskDecided c.decide_own.result o.count o.limit o.messages a.messages.free r seen =
    subst (λ n. IsTaskDecided c.decide_own.result (own_at a.messages n).count (own_at a.messages n).limit (own_at a.messages n).messages a.messages.free r seen) c.target.ensures c.decide_own.ensures.row in
    rw (← c.self.view_is)
    (row-task r seen c.decide_own.result (state_of a) o.count o.limit o.messages c.requires.served passed t
    (holds a r seen.caller.0 c.self.invariant c.requires.caller c.requires.served t passed) does)
