use Rattle.std.proofs.Common.{ap, ◌∙◌}
use Rattle.kern_model.specs.State.{Task}
use Rattle.kernel_calls.specs.KernelRecord.{KernelRecord}
use Rattle.kernel_records.specs.RecordsRecord.{RecordsRecord}
use Rattle.kernel_calls.proofs.StopFacts.{stopped-sound}
use Rattle.kernel_calls.proofs.kernels.Kernel.stop.Goals as goal

pub invariant_of-self : goal.invariant_of-self
invariant_of-self g c =
    let a = c.self.inside in
    stopped-sound a.records c.stop.new.self a.steps c.make.new.steps a.plan a.seen a.work a.busy c.self.invariant (ap (λ (k : KernelRecord). k.hand) c.self.view_is ∙ c.requires.free) c.args.task.0 c.tcb.result.now.prio.0 c.requires.application (rw (← c.self.view_is) at c.requires.ready) (rw (← c.self.view_is) at c.requires.quiet)
    (ap (λ (t : Task). t.prio) c.tcb.ensures.task) (ap (λ (r : RecordsRecord). r.state) c.stop.ensures) c.make.ensures.halves c.make.ensures.start c.make.ensures.prios

pub returns-clause-valid : goal.returns-clause-valid
returns-clause-valid g c = (invariant_of-self g c).valid
