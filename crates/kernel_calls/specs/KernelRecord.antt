-- The kernel as contracts see it: its state as the whole step in hand found it, the registers of each task by number, and that
-- step, with the lists that its micro-steps have made so far.
use Rattle.std.specs.Prelude.{◌<◌, List, Option, Some, None}
use Rattle.app_image.specs.Image.{ImageRecord}
use Rattle.kern_model.specs.State.{Kernel}
use Rattle.kern_model.specs.Micro.{Halves, lists_of, whole}
use Rattle.kern_model.specs.Services.{cost, half}
use Rattle.kern_model.specs.Start.{start_state}
use Rattle.machine_model.specs.Start.{start_registers}
use Rattle.rv32_exec.specs.Registers.{Registers}
use Rattle.kernel_calls.specs.Works.{WorkRecord, effect_of}

pub record KernelRecord : Type 0 where
  pub state : Kernel
  pub registers : List Registers
  pub hand : Option WorkRecord

-- the same with another state
abbrev pub with_state : KernelRecord → Kernel → KernelRecord
with_state k state = record k { state = state }

-- the kernel at the start
abbrev pub start_of : ImageRecord → KernelRecord
start_of i = record { state = start_state i; registers = start_registers i; hand = None }

-- the lists in both directions and the set of priorities: those that the micro-steps of the step in hand have made
abbrev pub halves_by : Option WorkRecord → Kernel → Halves
halves_by None k = whole (lists_of k)
halves_by (Some w) k = half (effect_of w k) k w.done

abbrev pub halves_in : KernelRecord → Halves
halves_in k = halves_by k.hand k.state

-- the kernel after the last micro-step of this step
abbrev pub ended : KernelRecord → WorkRecord → KernelRecord
ended k w = record { state = (effect_of w k.state).kernel; registers = k.registers; hand = None }

-- a step is in hand, and its last micro-step is still to come
abbrev pub IsOpen : Option WorkRecord → Kernel → Type 0
IsOpen None k = Unit {0}
IsOpen (Some w) k = w.done < cost (effect_of w k) k
