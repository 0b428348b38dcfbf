-- The registers of the tasks at the start.
use Rattle.std.specs.Prelude.{◌-◌, List, ◌++◌, length, map, replicate, slice_set}
use Rattle.kern_base.specs.Numbers.{leave}
use Rattle.rv32_exec.specs.Registers.{Registers, no_registers}
use Rattle.app_image.specs.Image.{ImageRecord}
use Rattle.app_image.specs.declared.records.TaskDef.{TaskDef}

-- an application task starts at its entry, with its stack pointer and with LEAVE to return to
abbrev pub entry_registers : TaskDef → Registers
entry_registers d = record { pc = d.entry; x = slice_set (slice_set (replicate 32 0) 2 d.sp) 1 leave }

abbrev pub start_registers : ImageRecord → List Registers
start_registers i = map entry_registers i.tasks ++ replicate (64 - length i.tasks) no_registers
