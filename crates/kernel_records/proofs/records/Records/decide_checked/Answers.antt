use Rattle.std.proofs.Common.{◌≡◌, sym, ◌∙◌, true, false, subst}
use Rattle.kern_base.specs.declared.outcomes.Decision.{Decision}
use Rattle.kernel_records.specs.Deciding.{IsServedDecision}
use Rattle.kernel_records.specs.SchedulerCalls.{is_scheduler_call}
use Rattle.kernel_records.specs.TimerCalls.{counted_in, is_timer_call}
use Rattle.kern_model.specs.Checks.{argument}
use Rattle.kern_model.specs.Services.{content_for}
use Rattle.kernel_records.proofs.DecidingFacts.{about-objects, about-scheduler, about-timer, serves-by}
use Rattle.kernel_records.proofs.SchedulerFacts.{row-scheduler, scheduler-served}
use Rattle.kernel_records.proofs.TimerRows.{row-timer, timer-inside, timer-served}
use Rattle.kernel_records.proofs.records.Records.decide_checked.Goals as goal

pub returns-then-is_scheduler_call-clause-value : goal.returns-then-is_scheduler_call-clause-value
returns-then-is_scheduler_call-clause-value c =
    let n : is_scheduler_call c.args.request.now.service ≡ true = sym c.is_scheduler_call.ensures ∙ c.if-is_scheduler_call.true in
    c.decide_on_scheduler.ensures ∙ sym (about-scheduler c.args.request.now c.args.seen.now c.args.self.now.state n)

pub returns-then-is_scheduler_call-clause-row : goal.returns-then-is_scheduler_call-clause-row
returns-then-is_scheduler_call-clause-row c =
    let n : is_scheduler_call c.args.request.now.service ≡ true = sym c.is_scheduler_call.ensures ∙ c.if-is_scheduler_call.true in
    row-scheduler c.args.request.now c.args.seen.now c.decide_on_scheduler.result c.args.self.now.state c.requires.served c.requires.passed n c.requires.call c.decide_on_scheduler.ensures

pub returns-then-is_scheduler_call-clause-served : goal.returns-then-is_scheduler_call-clause-served
returns-then-is_scheduler_call-clause-served c =
    let r = c.args.request.now in
    subst (λ (d : Decision). IsServedDecision d r.service) (sym c.decide_on_scheduler.ensures) (scheduler-served r.service r c.args.seen.now c.args.self.now.state)

pub decide_on_timer-requires-clause-object : goal.decide_on_timer-requires-clause-object
decide_on_timer-requires-clause-object c =
    let m : is_timer_call c.args.request.now.service ≡ true = sym c.is_timer_call.ensures ∙ c.if-is_timer_call.true in
    timer-inside c.args.request.now c.args.seen.now.caller.0 c.args.self.now.state m c.requires.passed

pub returns-then-is_timer_call-clause-value : goal.returns-then-is_timer_call-clause-value
returns-then-is_timer_call-clause-value c =
    let n : is_scheduler_call c.args.request.now.service ≡ false = sym c.is_scheduler_call.ensures ∙ c.if-is_scheduler_call.false in
    let m : is_timer_call c.args.request.now.service ≡ true = sym c.is_timer_call.ensures ∙ c.if-is_timer_call.true in
    c.decide_on_timer.ensures ∙ sym (about-timer c.args.request.now c.args.seen.now c.args.self.now.state n m)

pub returns-then-is_timer_call-clause-row : goal.returns-then-is_timer_call-clause-row
returns-then-is_timer_call-clause-row c =
    let m : is_timer_call c.args.request.now.service ≡ true = sym c.is_timer_call.ensures ∙ c.if-is_timer_call.true in
    row-timer c.args.request.now c.args.seen.now c.decide_on_timer.result c.args.self.now.state c.requires.served c.requires.passed m c.decide_on_timer.ensures

pub returns-then-is_timer_call-clause-served : goal.returns-then-is_timer_call-clause-served
returns-then-is_timer_call-clause-served c =
    let r = c.args.request.now in
    let k = c.args.self.now.state in
    subst (λ (d : Decision). IsServedDecision d r.service) (sym c.decide_on_timer.ensures) (timer-served r.service (content_for r k) (argument r 0) (counted_in k))

pub decide_on_objects-requires-clause-served : goal.decide_on_objects-requires-clause-served
decide_on_objects-requires-clause-served c =
    let n : is_scheduler_call c.args.request.now.service ≡ false = sym c.is_scheduler_call.ensures ∙ c.if-is_scheduler_call.false in
    let m : is_timer_call c.args.request.now.service ≡ false = sym c.is_timer_call.ensures ∙ c.if-is_timer_call.false in
    serves-by c.args.request.now.service c.requires.served n m

pub returns-else-is_timer_call-clause-value : goal.returns-else-is_timer_call-clause-value
returns-else-is_timer_call-clause-value c =
    let n : is_scheduler_call c.args.request.now.service ≡ false = sym c.is_scheduler_call.ensures ∙ c.if-is_scheduler_call.false in
    let m : is_timer_call c.args.request.now.service ≡ false = sym c.is_timer_call.ensures ∙ c.if-is_timer_call.false in
    c.decide_on_objects.ensures.value ∙ sym (about-objects c.args.request.now c.args.seen.now c.args.self.now.state n m)
