use Rattle.std.proofs.Common.{◌≡◌, ◌<◌, ap, sym, ◌∙◌, length, subst, refl}
use Rattle.kern_base.specs.declared.outcomes.Answer.{Answer}
use Rattle.kern_model.specs.State.{Kernel, Task, task_at}
use Rattle.kern_model.specs.Effect.{result_of}
use Rattle.kernel_records.specs.Concluding.{given}
use Rattle.kernel_records.specs.RecordsRecord.{RecordsRecord}
use Rattle.kernel_records.proofs.ObjectFacts.{field-at}
use Rattle.kernel_records.proofs.TaskFacts.{looked-none, looked-some}
use Rattle.kernel_records.proofs.records.Records.look_at.Goals as goal

pub returns-in-Some : goal.returns-in-Some
returns-in-Some c =
    let x = c.args.task.0 in
    let k = c.args.self.now.state in
    let ts = c.self.inside.tasks.tasks in
    let t = c.get-tcb.result.now in
    let h : x < length ts = subst (λ n. x < n) (sym c.self.invariant.tasks) c.requires.task in
    let mask : t.mask ≡ (task_at k x).mask = rw (← c.self.view_is) (ap (λ (u : Task). u.mask) c.get-tcb.ensures.task ∙ sym (field-at (λ (u : Task). u.mask) (λ o u. refl) c.self.inside.messages.own ts x h)) in
    let opt : t.opt ≡ (task_at k x).opt = rw (← c.self.view_is) (ap (λ (u : Task). u.opt) c.get-tcb.ensures.task ∙ sym (field-at (λ (u : Task). u.opt) (λ o u. refl) c.self.inside.messages.own ts x h)) in
    c.give.ensures
    ∙ ap (λ (j : Kernel). let a : RecordsRecord = record { state = j; registers = c.args.self.now.registers } in a)
    (ap (λ (a : Answer). given x (result_of a) k) c.success.ensures ∙ sym (looked-some c.args.bits t.mask t.opt c.in-Some.ready x k (sym c.ready_bits.ensures ∙ c.in-Some.is) mask opt))

pub returns-in_default : goal.returns-in_default
returns-in_default c =
    let x = c.args.task.0 in
    let k = c.args.self.now.state in
    let ts = c.self.inside.tasks.tasks in
    let t = c.get-tcb.result.now in
    let h : x < length ts = subst (λ n. x < n) (sym c.self.invariant.tasks) c.requires.task in
    let mask : t.mask ≡ (task_at k x).mask = rw (← c.self.view_is) (ap (λ (u : Task). u.mask) c.get-tcb.ensures.task ∙ sym (field-at (λ (u : Task). u.mask) (λ o u. refl) c.self.inside.messages.own ts x h)) in
    let opt : t.opt ≡ (task_at k x).opt = rw (← c.self.view_is) (ap (λ (u : Task). u.opt) c.get-tcb.ensures.task ∙ sym (field-at (λ (u : Task). u.opt) (λ o u. refl) c.self.inside.messages.own ts x h)) in
    ap (λ (j : Kernel). let a : RecordsRecord = record { state = j; registers = c.args.self.now.registers } in a)
    (sym (looked-none c.args.bits t.mask t.opt x k (sym c.ready_bits.ensures ∙ c.in_default.is) mask opt))
