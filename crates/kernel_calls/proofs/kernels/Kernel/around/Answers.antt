use Rattle.std.proofs.Common.{ap, ◌∙◌, not}
use Rattle.std.specs.Prelude.{◌==◌}
use Rattle.kern_model.specs.State.{Task}
use Rattle.kernel_records.proofs.SchedulerFacts.{is-locked}
use Rattle.kernel_calls.proofs.kernels.Kernel.around.Goals as goal

pub returns-clause-around : goal.returns-clause-around
returns-clause-around g c =
    let first = rw (← c.self.view_is) at c.first_waiter.ensures in
    rw (← c.self.view_is)
    (record {
      locked = is-locked c.lock.result ∙ ap (λ n. not (n == 0)) c.lock.ensures.value;
      first = first;
      prio = ap (λ (t : Task). t.prio) c.tcb.ensures.task;
    })
