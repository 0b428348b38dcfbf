use Rattle.std.proofs.Common.{◌≡◌, sym, ap, ◌∙◌, arith, true, false, map}
use Rattle.tcb_pool.specs.TaskView.{task_of}
use Rattle.tcb_pool.proofs.ReadyFacts.{some_new, step-new, or_false, or_true, past-new, new-readied}
use Rattle.tcb_pool.proofs.tables.some_readied.Goals as goal

pub loop-index-preserved : goal.loop-index-preserved
loop-index-preserved c =
    c.loop-index.invariant ∙ step-new c.args.prio.0 c.loop-index.index c.args.before.now c.args.records.now c.index-records-index.result c.loop-index-test.true c.requires c.index-records-index.is
    ∙ or_false _ _ (sym c.readied.ensures ∙ c.if-readied.false)

pub returns-then-readied : goal.returns-then-readied
returns-then-readied c = λ tasks e.
    let found : some_new c.args.prio.0 c.args.before.now (map task_of c.args.records.now) ≡ true =
    c.loop-index.invariant ∙ step-new c.args.prio.0 c.loop-index.index c.args.before.now c.args.records.now c.index-records-index.result c.loop-index-test.true c.requires c.index-records-index.is
    ∙ or_true _ _ (sym c.readied.ensures ∙ c.if-readied.true) in
    sym found ∙ ap (λ bs. some_new c.args.prio.0 bs (map task_of c.args.records.now)) e ∙ new-readied c.args.prio.0 tasks (map task_of c.args.records.now)

pub returns : goal.returns
returns c = λ tasks e.
    let none : some_new c.args.prio.0 c.args.before.now (map task_of c.args.records.now) ≡ false =
    c.loop-index.invariant ∙ past-new c.args.prio.0 c.loop-index.index c.args.before.now _ (omega (arith, c.loop-index-test.false, c.requires)) in
    sym none ∙ ap (λ bs. some_new c.args.prio.0 bs (map task_of c.args.records.now)) e ∙ new-readied c.args.prio.0 tasks (map task_of c.args.records.now)
