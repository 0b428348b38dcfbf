use Rattle.std.proofs.Common.{◌≡◌, ◌<◌, List, ap, sym, ◌∙◌, length, subst, refl, true, false}
use Rattle.kern_base.specs.declared.outcomes.Waiting.TheVariants.{No}
use Rattle.kern_model.specs.State.{Kernel, Task, task_at}
use Rattle.kernel_records.specs.RecordsRecord.{RecordsRecord}
use Rattle.kernel_records.specs.RecordsView.{state_of}
use Rattle.kernel_records.specs.Ticks.{is_signal}
use Rattle.kernel_records.proofs.ObjectFacts.{field-at, task-update}
use Rattle.kernel_records.proofs.TickFacts.{signalled-none, signalled-some}
use Rattle.kernel_records.proofs.records.Records.ready_again.Goals as goal

pub returns-then-not-is_signal : goal.returns-then-not-is_signal
returns-then-not-is_signal c =
    let a = c.self.inside in
    let x = c.args.task.0 in
    let ts = a.tasks.tasks in
    let h : x < length ts = subst (λ n. x < n) (sym c.self.invariant.tasks) c.requires.task in
    let waits : c.get.result.now.wait ≡ (task_at (state_of a) x).waiting =
    ap (λ (t : Task). t.waiting) c.get.ensures.task ∙ sym (field-at (λ (t : Task). t.waiting) (λ o t. refl) a.messages.own ts x h) in
    let none : is_signal (task_at (state_of a) x).waiting ≡ false = ap is_signal (sym waits) ∙ sym c.is_signal.ensures ∙ c.if-not-is_signal.true in
    rw (← c.self.view_is)
    (ap (λ (j : Kernel). let r : RecordsRecord = record { state = j; registers = a.tasks.registers } in r)
    (sym (signalled-none (task_at (state_of a) x).waiting x (state_of a) none)))

pub returns : goal.returns
returns c =
    let a = c.self.inside in
    let x = c.args.task.0 in
    let ts = a.tasks.tasks in
    let h : x < length ts = subst (λ n. x < n) (sym c.self.invariant.tasks) c.requires.task in
    let waits : c.get.result.now.wait ≡ (task_at (state_of a) x).waiting =
    ap (λ (t : Task). t.waiting) c.get.ensures.task ∙ sym (field-at (λ (t : Task). t.waiting) (λ o t. refl) a.messages.own ts x h) in
    let some : is_signal (task_at (state_of a) x).waiting ≡ true = ap is_signal (sym waits) ∙ sym c.is_signal.ensures ∙ c.if-not-is_signal.false in
    rw (← c.self.view_is, c.set_wait.ensures.tasks, c.set_wait.ensures.registers)
    (ap (λ (us : List Task). let r : RecordsRecord = record { state = record (state_of a) { tasks = us }; registers = a.tasks.registers } in r)
    (task-update a.messages.own ts x (λ t. record t { waiting = No }) (λ t. record t { waiting = No }) h refl)
    ∙ ap (λ (j : Kernel). let r : RecordsRecord = record { state = j; registers = a.tasks.registers } in r)
    (sym (signalled-some (task_at (state_of a) x).waiting x (state_of a) some refl)))
