use Rattle.std.proofs.Common.{◌≡◌, drop}
use Rattle.kernel_records.specs.Concluding.{AreSingle, looked_at_all}
use Rattle.kernel_records.proofs.records.Records.look_at_all.Given as goal

abbrev pub invariant-loop-task : goal.invariant-loop-task
invariant-loop-task l =
    record {
      rest : looked_at_all l.bits (drop l.task-index l.woken) l.self.state ≡ looked_at_all l.fn.bits l.fn.woken l.fn.self.state;
      registers : l.self.registers ≡ l.fn.self.registers;
      single : AreSingle l.self.state;
    }
