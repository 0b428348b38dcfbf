-- The tasks of the kernel state, and the registers of each, by task number.
use Rattle.std.specs.Prelude.{List}
use Rattle.kern_model.specs.State.{Task}
use Rattle.rv32_exec.specs.Registers.{Registers}

pub record TaskTable : Type 0 where
  pub tasks : List Task
  pub registers : List Registers
