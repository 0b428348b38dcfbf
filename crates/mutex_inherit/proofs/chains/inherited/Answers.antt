use Rattle.std.proofs.Common.{◌≡◌, ◌≤◌, ◌+◌, suc, sym, ap, subst, ◌∙◌, arith, replicate, Some}
use Rattle.std.specs.Prelude.{◌-◌, min}
use Rattle.mutex_inherit.specs.Chains.{prio_at, is_passed, raised, least_from}
use Rattle.mutex_inherit.proofs.ChainLaws.{prio_at-replicate, least_from-le, raised-le, least-step, least-end, are-inherited}
use Rattle.mutex_inherit.proofs.chains.inherited.Goals as goal

pub loop-task-init : goal.loop-task-init
loop-task-init c = λ x inside.
    let e : prio_at (replicate 64 (record { 0 = 63 })) x ≡ 63 = prio_at-replicate 64 x inside in
    let few = least_from-le 64 0 c.args.bases.now c.args.waits_for.now x in
    (omega (arith, e), omega (arith, e, few))

pub loop-task-preserved : goal.loop-task-preserved
loop-task-preserved c = λ x inside.
    let bases = c.args.bases.now in
    let waits_for = c.args.waits_for.now in
    let task = c.loop-task.task in
    let p = prio_at c.loop-task.prios x in
    let before = c.loop-task.invariant x inside in
    let more : 64 - task ≡ suc (64 - (task + 1)) = omega arith in
    let e : prio_at c.raise_chain.new.prios x ≡ raised (is_passed 65 waits_for x (Some task)) (prio_at bases task) p = c.raise_chain.ensures x inside in (
      subst (λ q. q ≤ 63) (sym e) (raised-le (is_passed 65 waits_for x (Some task)) (prio_at bases task) p before.0),
      least-step (64 - task) (64 - (task + 1)) task bases waits_for x p (prio_at c.raise_chain.new.prios x) more before.0 e ∙ before.1,
    )

pub returns : goal.returns
returns c = λ k tells.
    let bases = c.args.bases.now in
    let waits_for = c.args.waits_for.now in
    let task = c.loop-task.task in
    let prios = c.loop-task.prios in
    let none : 64 - task ≡ 0 = omega arith in
    are-inherited prios bases waits_for k tells (λ x inside.
    let before = c.loop-task.invariant x inside in
    sym (ap (λ n. min (prio_at prios x) (least_from n task bases waits_for x)) none ∙ least-end task bases waits_for x (prio_at prios x) before.0) ∙ before.1)
