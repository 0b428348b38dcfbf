use Rattle.std.proofs.Common.{◌≡◌, ◌<◌, ◌≤◌, ap, sym, ◌∙◌, length, refl, subst, suc, false, inl, inr, arith}
use Rattle.std.specs.Prelude.{nat_lt}
use Rattle.std.proofs.lemmas.Bool.Decides.{leb_tells}
use Rattle.kern_model.specs.State.{Task}
use Rattle.tick_timers.specs.Delays.{is_delayed}
use Rattle.kernel_records.proofs.ObjectFacts.{field-at, task-past}
use Rattle.kernel_records.proofs.records.Records.is_delayed.Goals as goal

pub returns-then-number-lt-TASKS-clause-value : goal.returns-then-number-lt-TASKS-clause-value
returns-then-number-lt-TASKS-clause-value c =
    let x = c.args.number in
    let ts = c.self.inside.tasks.tasks in
    let h : x < length ts = subst (λ n. x < n) (sym c.self.invariant.tasks) c.if-number-lt-TASKS.true in
    rw (← c.self.view_is)
    (c.is_delayed.ensures ∙ ap is_delayed (ap (λ (t : Task). t.waiting) c.get.ensures.task ∙ sym (field-at (λ (t : Task). t.waiting) (λ o t. refl) c.self.inside.messages.own ts x h)))

pub returns-else-number-lt-TASKS-clause-value : goal.returns-else-number-lt-TASKS-clause-value
returns-else-number-lt-TASKS-clause-value c =
    let x = c.args.number in
    let ts = c.self.inside.tasks.tasks in
    let h : length ts ≤ x = subst (λ n. n ≤ x) (sym c.self.invariant.tasks) c.if-number-lt-TASKS.false in
    let low : nat_lt x 64 ≡ false = elim (leb_tells (suc x) 64) [ inl a ↦ absurd (omega (arith, a.1, c.if-number-lt-TASKS.false)) | inr b ↦ b.0 ] in
    rw (← c.self.view_is) (low ∙ sym (ap (λ (t : Task). is_delayed t.waiting) (task-past c.self.inside.messages.own ts x h)))
