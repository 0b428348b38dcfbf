use Rattle.std.proofs.Common.{◌≡◌, drop}
use Rattle.kernel_records.specs.Concluding.{AreSingle, awakened_all}
use Rattle.kernel_records.proofs.records.Records.wake_all.Given as goal

abbrev pub invariant-loop-task : goal.invariant-loop-task
invariant-loop-task l =
    record {
      rest : awakened_all l.request (drop l.task-index l.woken) l.self.state ≡ awakened_all l.fn.request l.fn.woken l.fn.self.state;
      registers : l.self.registers ≡ l.fn.self.registers;
      single : AreSingle l.self.state;
    }
