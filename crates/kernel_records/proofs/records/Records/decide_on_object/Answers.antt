use Rattle.std.proofs.Common.{ap, sym, ◌∙◌, subst, arith}
use Rattle.std.proofs.lemmas.Grind.{common_steps}
use Rattle.kern_base.specs.declared.outcomes.Decision.{Decision}
use Rattle.kern_model.specs.State.{Content}
use Rattle.kern_model.specs.Services.{content_for}
use Rattle.kernel_records.specs.RecordsView.{state_of}
use Rattle.kernel_records.specs.Deciding.{IsCallOn, IsServedDecision, decision_by}
use Rattle.kernel_records.proofs.DecidingFacts.{no-scheduler, no-timer-call, passed-call, passed-inside, served-object}
use Rattle.kernel_records.proofs.ObjectCalls.{content-is, inside, queue-inside}
use Rattle.kernel_records.proofs.RowFacts.{object-served, row-by}
use Rattle.kernel_records.proofs.records.Records.decide_on_object.Goals as goal

pub index-object-requires : goal.index-object-requires
index-object-requires c =
    let told = passed-inside c.args.request.now c.args.seen.now.caller.0 c.args.self.now.state c.requires.served c.requires.object c.requires.passed in
    let here = inside c.self.inside c.args.request.now c.self.invariant (rw (← c.self.view_is) at told) in
    grind (arith, common_steps)

pub overflow_cast-number-2 : goal.overflow_cast-number-2
overflow_cast-number-2 c =
    let told = passed-inside c.args.request.now c.args.seen.now.caller.0 c.args.self.now.state c.requires.served c.requires.object c.requires.passed in
    let here = inside c.self.inside c.args.request.now c.self.invariant (rw (← c.self.view_is) at told) in
    omega (arith, here, c.self.invariant.few)

pub decide_by-requires-clause-number : goal.decide_by-requires-clause-number
decide_by-requires-clause-number c =
    let told = passed-inside c.args.request.now c.args.seen.now.caller.0 c.args.self.now.state c.requires.served c.requires.object c.requires.passed in
    queue-inside c.self.inside c.args.request.now c.self.invariant (rw (← c.self.view_is) at told)

pub decide_by-requires-clause-call : goal.decide_by-requires-clause-call
decide_by-requires-clause-call c =
    let a = c.self.inside in
    let r = c.args.request.now in
    let x = c.args.seen.now.caller.0 in
    let told = passed-inside r x c.args.self.now.state c.requires.served c.requires.object c.requires.passed in
    let there = rw (← c.self.view_is) at told in
    subst (λ (y : Content). IsCallOn y r) (content-is a r c.self.invariant there c.index-object.result.now _ c.index-object.ensures)
    (passed-call r x (state_of a) c.requires.served c.requires.object (rw (← c.self.view_is) at c.requires.passed))

pub returns-clause-value : goal.returns-clause-value
returns-clause-value c =
    let a = c.self.inside in
    let r = c.args.request.now in
    let told = passed-inside r c.args.seen.now.caller.0 c.args.self.now.state c.requires.served c.requires.object c.requires.passed in
    let there = rw (← c.self.view_is) at told in
    rw (← c.self.view_is)
    (c.decide_by.ensures.value
    ∙ ap (λ (y : Content). decision_by y a.messages.free r c.args.seen.now) (sym (content-is a r c.self.invariant there c.index-object.result.now _ c.index-object.ensures)))

pub returns-clause-row : goal.returns-clause-row
returns-clause-row c =
    let a = c.self.inside in
    let r = c.args.request.now in
    let told = passed-inside r c.args.seen.now.caller.0 c.args.self.now.state c.requires.served c.requires.object c.requires.passed in
    let there = rw (← c.self.view_is) at told in
    let passed = rw (← c.self.view_is) at c.requires.passed in
    rw (← c.self.view_is)
    (row-by r c.args.seen.now c.decide_by.result (state_of a) (served-object r.service c.requires.served) passed _ (no-scheduler r.service c.requires.served) (no-timer-call r.service c.requires.served) c.requires.object
    (content-is a r c.self.invariant there c.index-object.result.now _ c.index-object.ensures) c.decide_by.ensures.value c.decide_by.ensures.row)

pub returns-clause-served : goal.returns-clause-served
returns-clause-served c =
    let r = c.args.request.now in
    subst (λ (d : Decision). IsServedDecision d r.service) (sym (returns-clause-value c))
    (object-served (content_for r c.args.self.now.state) r c.args.seen.now c.args.self.now.state.free c.requires.served
    (passed-call r c.args.seen.now.caller.0 c.args.self.now.state c.requires.served c.requires.object c.requires.passed))
