use Rattle.std.proofs.Common.{◌<◌, ap, sym, ◌∙◌, length, refl, subst}
use Rattle.kern_model.specs.State.{Task}
use Rattle.decisions.specs.Decided.{ended_delay}
use Rattle.kernel_records.specs.RecordsView.{state_of}
use Rattle.kernel_records.proofs.ObjectFacts.{field-at}
use Rattle.kernel_records.proofs.SchedulerFacts.{first-below, replied-first}
use Rattle.kernel_records.proofs.records.Records.reply.Goals as goal

pub returns-in-TimeDlyResume-Some : goal.returns-in-TimeDlyResume-Some
returns-in-TimeDlyResume-Some c =
    let x = c.in-TimeDlyResume-Some.task.now in
    let ts = c.self.inside.tasks.tasks in
    let below : x < 64 = first-below c.args.woken.now x c.requires.woken c.in-TimeDlyResume-Some.ensures.value in
    let h : x < length ts = subst (λ n. x < n) (sym c.self.invariant.tasks) below in
    rw (← c.self.view_is)
    (c.ended_delay.ensures
    ∙ ap ended_delay (ap (λ (t : Task). t.suspended) c.get.ensures.task ∙ sym (field-at (λ (t : Task). t.suspended) (λ o t. refl) c.self.inside.messages.own ts x h))
    ∙ sym (replied-first c.args.service c.args.woken.now x (state_of c.self.inside) c.in-TimeDlyResume-Some.is-0 c.in-TimeDlyResume-Some.ensures.value))
