use Rattle.std.proofs.Common.{◌<◌, ◌≤◌, ap, sym, ◌∙◌, length, subst, refl, Bool, [], ◌∷◌, arith}
use Rattle.std.specs.Prelude.{if◌then◌else◌}
use Rattle.kern_model.specs.State.{Task}
use Rattle.decisions.specs.Around.{first_waiter}
use Rattle.task_objects.specs.Rows.{target, waits_for_it}
use Rattle.kernel_records.specs.RecordsView.{state_of}
use Rattle.kernel_records.proofs.ObjectFacts.{field-at, task-past}
use Rattle.kernel_records.proofs.TaskFacts.{waiters-first, waiters-none}
use Rattle.kernel_records.proofs.records.Records.own_waiter.Goals as goal

pub returns-then-number-ge-TASKS : goal.returns-then-number-ge-TASKS
returns-then-number-ge-TASKS c =
    let s = c.args.request.now.service in
    let y = target s c.args.request.now c.args.caller.0 in
    let ts = c.self.inside.tasks.tasks in
    let h : length ts ≤ y = subst (λ n. n ≤ y) (sym c.self.invariant.tasks) (subst (λ n. 64 ≤ n) c.target_number-number.ensures c.if-number-ge-TASKS.true) in
    rw (← c.self.view_is) (waiters-none s y (state_of c.self.inside) (ap (λ (t : Task). t.waiting) (task-past c.self.inside.messages.own ts y h)))

pub returns : goal.returns
returns c =
    let s = c.args.request.now.service in
    let y = target s c.args.request.now c.args.caller.0 in
    let n = c.target_number-number.result in
    let ts = c.self.inside.tasks.tasks in
    let low : n < 64 = omega (arith, c.if-number-ge-TASKS.false) in
    let h : n < length ts = subst (λ m. n < m) (sym c.self.invariant.tasks) low in
    let wait = ap (waits_for_it s) (ap (λ (t : Task). t.waiting) c.get.ensures.task ∙ sym (field-at (λ (t : Task). t.waiting) (λ o t. refl) c.self.inside.messages.own ts n h)) in
    rw (← c.self.view_is, ← c.target_number-number.ensures)
    (c.then_some.ensures ∙ waiters-first c.waits_for_it.result n ∙ ap (λ (b : Bool). first_waiter (if b then n ∷ [] else [])) (c.waits_for_it.ensures ∙ wait))
