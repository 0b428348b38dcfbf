use Rattle.std.proofs.Common.{◌≡◌, ◌+◌, suc, sym, ap, ◌∙◌, arith, Option, false}
use Rattle.std.specs.Prelude.{◌-◌, ◌==◌}
use Rattle.kern_base.specs.declared.numbers.TaskId.{TaskId}
use Rattle.mutex_inherit.specs.Chains.{number_of, prio_at, is_passed, raised}
use Rattle.mutex_inherit.proofs.ChainLaws.{chain-step, passed-none, passed-zero, passed-past}
use Rattle.mutex_inherit.proofs.chains.raise_chain.Goals as goal

pub loop-step-preserved : goal.loop-step-preserved
loop-step-preserved c = λ x inside.
    let waits_for = c.args.waits_for.now in
    let base = c.args.base.0 in
    let task = c.in-Some.field-0.0 in
    let step = c.loop-step._step in
    let p = prio_at c.loop-step.prios x in
    let q = prio_at c.raise.new.prios x in
    let more : 65 - step ≡ suc (65 - (step + 1)) = omega arith in
    let e : q ≡ raised (task == x) base p = c.raise.ensures x inside in
    sym (chain-step (65 - step) (65 - (step + 1)) waits_for x task base p q more e)
    ∙ ap (λ (next : Option TaskId). raised (is_passed (65 - step) waits_for x (number_of next)) base p) (sym c.in-Some.is)
    ∙ c.loop-step.invariant x inside

pub returns-in_default : goal.returns-in_default
returns-in_default c = λ x inside.
    let waits_for = c.args.waits_for.now in
    let left = 65 - c.loop-step._step in
    let p = prio_at c.loop-step.prios x in
    let off : is_passed left waits_for x (number_of c.loop-step.next) ≡ false =
    ap (λ (next : Option TaskId). is_passed left waits_for x (number_of next)) c.in_default.is ∙ passed-none left waits_for x in
    sym (ap (λ b. raised b c.args.base.0 p) off) ∙ c.loop-step.invariant x inside

pub returns-then-task-ge64 : goal.returns-then-task-ge64
returns-then-task-ge64 c = λ x inside.
    let waits_for = c.args.waits_for.now in
    let left = 65 - c.loop-step._step in
    let p = prio_at c.loop-step.prios x in
    let off : is_passed left waits_for x (number_of c.loop-step.next) ≡ false =
    ap (λ (next : Option TaskId). is_passed left waits_for x (number_of next)) c.in-Some.is
    ∙ passed-past left waits_for x c.in-Some.field-0.0 (omega (arith, c.told-waits_for)) (omega arith) in
    sym (ap (λ b. raised b c.args.base.0 p) off) ∙ c.loop-step.invariant x inside

pub returns : goal.returns
returns c = λ x inside.
    let waits_for = c.args.waits_for.now in
    let left = 65 - c.loop-step._step in
    let p = prio_at c.loop-step.prios x in
    let none : left ≡ 0 = omega arith in
    let off : is_passed left waits_for x (number_of c.loop-step.next) ≡ false =
    ap (λ n. is_passed n waits_for x (number_of c.loop-step.next)) none ∙ passed-zero waits_for x (number_of c.loop-step.next) in
    sym (ap (λ b. raised b c.args.base.0 p) off) ∙ c.loop-step.invariant x inside
