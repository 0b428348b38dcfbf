use Rattle.std.proofs.Common.{◌≡◌, ap, sym, ◌∙◌, true, false}
use Rattle.kern_model.specs.State.{Kernel}
use Rattle.kernel_records.specs.RecordsRecord.{RecordsRecord}
use Rattle.kernel_records.specs.SchedulerCalls.{is_scheduler_call}
use Rattle.kernel_records.specs.TimerCalls.{is_timer_call}
use Rattle.kernel_records.proofs.DecidingFacts.{acting, changed-timer, own-acts, own-scheduler}
use Rattle.kernel_records.proofs.SchedulerFacts.{lock-below}
use Rattle.kernel_records.proofs.TimerRows.{timer-inside}
use Rattle.kernel_records.proofs.records.Records.apply.Goals as goal

pub change_lock-requires : goal.change_lock-requires
change_lock-requires c = λ s a. lock-below c.args.request.now c.args.seen.now c.args.decision.now c.args.self.now.state s c.requires.decided a

pub returns-then-is_scheduler_call : goal.returns-then-is_scheduler_call
returns-then-is_scheduler_call c =
    let n : is_scheduler_call c.args.request.now.service ≡ true = sym c.is_scheduler_call.ensures ∙ c.if-is_scheduler_call.true in
    let k = c.args.self.now.state in
    c.change_lock.ensures
    ∙ ap (λ (j : Kernel). let a : RecordsRecord = record { state = j; registers = c.args.self.now.registers } in a) (sym (own-scheduler c.args.request.now c.args.seen.now.caller.0 c.args.decision.now k n))

-- a call on a timer names one that is there

pub apply_to_timer-requires : goal.apply_to_timer-requires
apply_to_timer-requires c =
    let r = c.args.request.now in
    let n : is_scheduler_call r.service ≡ false = sym c.is_scheduler_call.ensures ∙ c.if-is_scheduler_call.false in
    let m : is_timer_call r.service ≡ true = sym c.is_timer_call.ensures ∙ c.if-is_timer_call.true in
    let it = acting r c.args.seen.now c.args.decision.now c.args.self.now.state c.requires.decided (c.requires.acts n) in
    record { object = timer-inside r c.args.seen.now.caller.0 c.args.self.now.state m it.passed }

pub returns-then-is_timer_call : goal.returns-then-is_timer_call
returns-then-is_timer_call c =
    let r = c.args.request.now in
    let x = c.args.seen.now.caller.0 in
    let d = c.args.decision.now in
    let k = c.args.self.now.state in
    let n : is_scheduler_call r.service ≡ false = sym c.is_scheduler_call.ensures ∙ c.if-is_scheduler_call.false in
    let m : is_timer_call r.service ≡ true = sym c.is_timer_call.ensures ∙ c.if-is_timer_call.true in
    c.apply_to_timer.ensures
    ∙ ap (λ (j : Kernel). let a : RecordsRecord = record { state = j; registers = c.args.self.now.registers } in a) (sym (own-acts r x d k n (c.requires.acts n) ∙ changed-timer r x d k m))

pub returns-else-is_timer_call : goal.returns-else-is_timer_call
returns-else-is_timer_call c =
    let n : is_scheduler_call c.args.request.now.service ≡ false = sym c.is_scheduler_call.ensures ∙ c.if-is_scheduler_call.false in
    let k = c.args.self.now.state in
    c.apply_to_objects.ensures
    ∙ ap (λ (j : Kernel). let a : RecordsRecord = record { state = j; registers = c.args.self.now.registers } in a) (sym (own-acts c.args.request.now c.args.seen.now.caller.0 c.args.decision.now k n (c.requires.acts n)))
