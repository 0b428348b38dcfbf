use Rattle.std.proofs.Common.{ap, refl, ◌∙◌, subst}
use Rattle.kernel_calls.specs.KernelRecord.{KernelRecord}
use Rattle.kernel_records.specs.RecordsRecord.{RecordsRecord}
use Rattle.kernel_records.specs.Served.{HasNoTable}
use Rattle.kernel_calls.proofs.StopFacts.{finished-same, finished-sound}
use Rattle.kernel_calls.proofs.kernels.Kernel.finish.Goals as goal

pub invariant_of-self : goal.invariant_of-self
invariant_of-self g c =
    let a = c.self.inside in
    finished-sound a.records c.take_result.new.self a.steps c.args.task.0 c.take_result.result c.take_result.ensures.result (ap (λ (r : RecordsRecord). r.state) c.take_result.ensures.records) a.plan a.seen a.work a.busy c.self.invariant (ap (λ (k : KernelRecord). k.hand) c.self.view_is ∙ c.requires.free)

pub returns-clause-valid : goal.returns-clause-valid
returns-clause-valid g c = (invariant_of-self g c).valid

pub returns-clause-no_table : goal.returns-clause-no_table
returns-clause-no_table g c = subst HasNoTable c.take_result.ensures.result (c.self.invariant.served.reads c.args.task.0)

pub returns-clause-kernel : goal.returns-clause-kernel
returns-clause-kernel g c =
    let a = c.self.inside in
    let same = finished-same a.records c.take_result.new.self a.steps c.args.task.0 c.take_result.result c.take_result.ensures.result (ap (λ (r : RecordsRecord). r.state) c.take_result.ensures.records) in
    let registers = ap (λ (r : RecordsRecord). r.registers) c.take_result.ensures.records in
    rw (same, registers, ← c.self.view_is) refl
