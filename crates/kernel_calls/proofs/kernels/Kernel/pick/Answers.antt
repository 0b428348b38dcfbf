use Rattle.std.proofs.Common.{ap, sym, ◌∙◌}
use Rattle.kern_base.specs.declared.numbers.TaskId.{TaskId}
use Rattle.kern_model.specs.State.{pick}
use Rattle.kern_model.specs.Micro.{Halves}
use Rattle.kernel_calls.specs.KernelRecord.{KernelRecord}
use Rattle.kernel_calls.specs.KernelView.{state_with}
use Rattle.kernel_calls.proofs.PickFacts.{first_of-head, first_of-none}
use Rattle.kernel_calls.proofs.StopFacts.{resting}
use Rattle.kernel_calls.proofs.kernels.Kernel.pick.Goals as goal

pub returns-in-Some-clause-value : goal.returns-in-Some-clause-value
returns-in-Some-clause-value g c =
    let a = c.self.inside in
    let rest = resting a.busy a.work a.plan a.seen (state_with a.records.state a.steps.start) a.steps (ap (λ (k : KernelRecord). k.hand) c.self.view_is ∙ c.requires) c.self.invariant.hand in
    let halves = c.chains.ensures.0 ∙ rest.halves in
    let marked = c.ready-ready.ensures.marked ∙ ap (λ (h : Halves). h.marked) halves in
    let forward = c.ready-ready.ensures.forward ∙ ap (λ (h : Halves). h.forward.ready) halves in
    let most = rw marked at c.in-Some.ensures in
    ap (λ (t : TaskId). t.0) c.unwrap_or.ensures
    ∙ first_of-head a.steps.start.ready c.in-Some.prio.0 c.head.result most.1 most.2 (rw forward at c.head.ensures)
    ∙ ap (λ (k : KernelRecord). pick k.state) c.self.view_is

pub returns-in-None-clause-value : goal.returns-in-None-clause-value
returns-in-None-clause-value g c =
    let a = c.self.inside in
    let rest = resting a.busy a.work a.plan a.seen (state_with a.records.state a.steps.start) a.steps (ap (λ (k : KernelRecord). k.hand) c.self.view_is ∙ c.requires) c.self.invariant.hand in
    let marked = c.ready-ready.ensures.marked ∙ ap (λ (h : Halves). h.marked) (c.chains.ensures.0 ∙ rest.halves) in
    sym (first_of-none a.steps.start.ready 64 (sym marked ∙ c.in-None.ensures))
    ∙ ap (λ (k : KernelRecord). pick k.state) c.self.view_is
