-- The records of the kernel as contracts see them: its state without lists, and the registers of each task by number.
use Rattle.std.specs.Prelude.{List, []}
use Rattle.app_image.specs.Image.{ImageRecord}
use Rattle.kern_model.specs.State.{Kernel}
use Rattle.kern_model.specs.Micro.{Lists}
use Rattle.kern_model.specs.Start.{start_state}
use Rattle.machine_model.specs.Start.{start_registers}
use Rattle.rv32_exec.specs.Registers.{Registers}

pub record RecordsRecord : Type 0 where
  pub state : Kernel
  pub registers : List Registers

-- the kernel with these lists
abbrev pub with_lists : Kernel → Lists → Kernel
with_lists k l = record k { ready = l.ready; pend = l.pend }

-- the kernel without its lists
abbrev pub without_lists : Kernel → Kernel
without_lists k = record k { ready = []; pend = [] }

-- the records at the start
abbrev pub records_at_start : ImageRecord → RecordsRecord
records_at_start i = record { state = without_lists (start_state i); registers = start_registers i }
