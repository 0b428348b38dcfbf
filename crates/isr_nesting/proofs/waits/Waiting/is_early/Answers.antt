use Rattle.std.proofs.Common.{◌≡◌, ◌∙◌, ◌<◌, ℕ, true, ap, sym, subst, arith, length}
use Rattle.std.proofs.lemmas.Bool.Decides.{nat_tests}
use Rattle.isr_nesting.specs.Keys.{step_key, task_key}
use Rattle.isr_nesting.specs.Kept.{IsPassed}
use Rattle.isr_nesting.proofs.PlaceLaws.{none-come}
use Rattle.isr_nesting.proofs.TaskLaws.{task-early}
use Rattle.std.specs.Prelude.{nat_lt}
use Rattle.isr_nesting.proofs.waits.Waiting.is_early.Goals as goal

before : (t bound : ℕ) → nat_lt t bound ≡ true → t < bound
before t bound e = grind (arith, nat_tests)

pub returns-then-s-self-clause-steps : goal.returns-then-s-self-clause-steps
returns-then-s-self-clause-steps c = λ e.
    let a = c.self.inside in
    let k = c.self.invariant in
    ap (step_key c.args.s) (sym c.self.view_is)
    ∙ none-come a.recorded.items a.entered.items a.places.items a.moments.items a.keys c.args.s a.first k.few k.steps k.sorted k.gone (λ h. omega (arith, k.next_step h, c.if-s-self.true))

pub returns-then-s-self-clause-tasks : goal.returns-then-s-self-clause-tasks
returns-then-s-self-clause-tasks c = λ e.
    let a = c.self.inside in
    let k = c.self.invariant in
    ap (task_key c.args.t) (sym c.self.view_is)
    ∙ task-early c.args.t a.entered.items a.recorded.items a.tasks.items a.next a.next_task k.tasks k.passed k.next_task (before c.args.t a.next_task e)
