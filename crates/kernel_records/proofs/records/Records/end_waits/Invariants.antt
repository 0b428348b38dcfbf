use Rattle.std.proofs.Common.{◌≡◌, drop}
use Rattle.kernel_records.specs.Concluding.{AreSingle}
use Rattle.kernel_records.specs.Ticks.{timed_out_all}
use Rattle.kernel_records.proofs.records.Records.end_waits.Given as goal

abbrev pub invariant-loop-task : goal.invariant-loop-task
invariant-loop-task l =
    record {
      rest : timed_out_all (drop l.task-index l.woken) l.self.state ≡ timed_out_all l.fn.woken l.fn.self.state;
      registers : l.self.registers ≡ l.fn.self.registers;
      single : AreSingle l.self.state;
    }
