use Rattle.std.proofs.Common.{◌≡◌, ◌<◌, ap, sym, ◌∙◌, subst, true, false}
use Rattle.kern_model.specs.State.{Kernel}
use Rattle.message_store.specs.Store.{after_own_call, own_at}
use Rattle.task_objects.specs.Rows as own
use Rattle.task_objects.specs.Rows.{is_task_call, target}
use Rattle.kernel_records.specs.RecordsRecord.{RecordsRecord}
use Rattle.kernel_records.specs.RecordsView.{records_of, state_of}
use Rattle.kernel_records.proofs.DecidingFacts.{acting-objects, by-object, by-task, changed-task, passed-call, passed-inside}
use Rattle.kernel_records.proofs.TaskCalls.{own-decision, records-own, target-below}
use Rattle.kernel_records.proofs.records.Records.apply_to_objects.Goals as goal

pub target-requires : goal.target-requires
target-requires c =
    let r = c.args.request.now in
    let it = acting-objects r c.args.seen.now c.args.decision.now c.args.self.now.state c.requires.call c.requires.held c.requires.decided c.requires.acts in
    let t : is_task_call r.service ≡ true = sym c.is_task_call.ensures ∙ c.if-is_task_call.true in
    target-below c.self.inside r c.args.seen.now.caller.0 c.self.invariant c.requires.caller it.served t (rw (← c.self.view_is) at it.passed)

pub apply_own-requires-clause-number : goal.apply_own-requires-clause-number
apply_own-requires-clause-number c =
    let r = c.args.request.now in
    let it = acting-objects r c.args.seen.now c.args.decision.now c.args.self.now.state c.requires.call c.requires.held c.requires.decided c.requires.acts in
    let t : is_task_call r.service ≡ true = sym c.is_task_call.ensures ∙ c.if-is_task_call.true in
    subst (λ n. n < 64) (sym c.target.ensures) (target-below c.self.inside r c.args.seen.now.caller.0 c.self.invariant c.requires.caller it.served t (rw (← c.self.view_is) at it.passed))

pub apply_own-requires-clause-decided : goal.apply_own-requires-clause-decided
apply_own-requires-clause-decided c =
    let r = c.args.request.now in
    let seen = c.args.seen.now in
    let a = c.self.inside in
    let it = acting-objects r seen c.args.decision.now c.args.self.now.state c.requires.call c.requires.held c.requires.decided c.requires.acts in
    let t : is_task_call r.service ≡ true = sym c.is_task_call.ensures ∙ c.if-is_task_call.true in
    let told = it.decided ∙ by-task r seen c.args.self.now.state t in
    let about = rw (← c.self.view_is) at told in
    about
    ∙ own-decision a r seen.caller.0 c.self.invariant c.requires.caller it.served t (rw (← c.self.view_is) at it.passed) seen
    ∙ ap (λ y. own.decision_of (own_at a.messages y).count (own_at a.messages y).limit (own_at a.messages y).messages a.messages.free r seen) (sym c.target.ensures)

pub returns-then-is_task_call : goal.returns-then-is_task_call
returns-then-is_task_call c =
    let r = c.args.request.now in
    let seen = c.args.seen.now in
    let x = seen.caller.0 in
    let d = c.args.decision.now in
    let a = c.self.inside in
    let it = acting-objects r seen d c.args.self.now.state c.requires.call c.requires.held c.requires.decided c.requires.acts in
    let t : is_task_call r.service ≡ true = sym c.is_task_call.ensures ∙ c.if-is_task_call.true in
    let store = c.apply_own.ensures ∙ ap (λ y. after_own_call a.messages y r d) c.target.ensures in
    rw (← c.self.view_is)
    (records-own a r x c.self.invariant c.requires.caller it.served t (rw (← c.self.view_is) at it.passed) d c.apply_own.new.self store
    ∙ ap (λ (k : Kernel). let b : RecordsRecord = record (records_of a) { state = k } in b) (sym (changed-task r x d (state_of a) c.requires.held t)))

pub apply_to_object-requires-clause-object : goal.apply_to_object-requires-clause-object
apply_to_object-requires-clause-object c =
    let r = c.args.request.now in
    let it = acting-objects r c.args.seen.now c.args.decision.now c.args.self.now.state c.requires.call c.requires.held c.requires.decided c.requires.acts in
    let t : is_task_call r.service ≡ false = sym c.is_task_call.ensures ∙ c.if-is_task_call.false in
    passed-inside r c.args.seen.now.caller.0 c.args.self.now.state it.served t it.passed

pub apply_to_object-requires-clause-call : goal.apply_to_object-requires-clause-call
apply_to_object-requires-clause-call c =
    let r = c.args.request.now in
    let it = acting-objects r c.args.seen.now c.args.decision.now c.args.self.now.state c.requires.call c.requires.held c.requires.decided c.requires.acts in
    let t : is_task_call r.service ≡ false = sym c.is_task_call.ensures ∙ c.if-is_task_call.false in
    passed-call r c.args.seen.now.caller.0 c.args.self.now.state it.served t it.passed

pub apply_to_object-requires-clause-decided : goal.apply_to_object-requires-clause-decided
apply_to_object-requires-clause-decided c =
    let r = c.args.request.now in
    let it = acting-objects r c.args.seen.now c.args.decision.now c.args.self.now.state c.requires.call c.requires.held c.requires.decided c.requires.acts in
    let t : is_task_call r.service ≡ false = sym c.is_task_call.ensures ∙ c.if-is_task_call.false in
    it.decided ∙ by-object r c.args.seen.now c.args.self.now.state t
