-- The machine at a moment.
use Rattle.std.specs.Prelude.{ℕ, ◌+◌, ◌==◌, false, Bool, List, [], Option, None, if◌then◌else◌, slice_index_or, slice_set}
use Rattle.kern_base.specs.declared.services.Service.{Service}
use Rattle.kern_base.specs.declared.requests.Request.{Request}
use Rattle.kern_model.specs.State.{Kernel, pick}
use Rattle.kern_model.specs.Call.{call_of}
use Rattle.kern_model.specs.Effect.{Effect}
use Rattle.kern_model.specs.Services.{effect, posted, unit_effect}
use Rattle.rv32_exec.specs.Registers.{Registers, no_registers}
use Rattle.rv32_exec.specs.Memory.{filled}
use Rattle.kern_model.specs.Start.{start_state}
use Rattle.machine_model.specs.Start.{start_registers}
use Rattle.app_image.specs.Image.{ImageRecord}
use Rattle.app_image.specs.declared.settings.Config.{Config}
use Rattle.inject_list.specs.Lists.{ListRecord}
use Rattle.inject_list.specs.declared.lists.Look.{Look}
use Rattle.machine_model.specs.Frames.{Interrupt, FrameRecord, interrupts_of}
use Rattle.machine_model.specs.Queue.{Queued}

-- What a whole step does: the call of a task, which has this present priority; a unit of work of the tick task or the
-- timer task; or the taking of a queued post.
pub data Work : Type 0 where
  CallOf : ℕ → Request → ℕ → Work
  UnitOf : ℕ → Work
  TakeOf : Queued → Work

-- The whole step in hand, and how many of its micro-steps are done.
pub record WholeStep : Type 0 where
  pub work : Work
  pub done : ℕ

-- The machine: the kernel, which stays as it was at the start of the whole step in hand until its last micro-step; the
-- registers of each task, those of the timer task being its callback's; the memory; the current task; the frames of
-- interrupt code, the top one first; the queued posts; the interrupts that have not entered and the looks that are not
-- printed; whether the first event has been; the raw steps and the task steps so far; and the code and the settings,
-- which never change.
pub record Machine : Type 0 where
  pub kernel : Kernel
  pub registers : List Registers
  pub memory : List ℕ
  pub current : ℕ
  pub frames : List FrameRecord
  pub later : List Queued
  pub in_hand : Option WholeStep
  pub interrupts : List Interrupt
  pub looks : List Look
  pub begun : Bool
  pub s : ℕ
  pub t : ℕ
  pub code : List ℕ
  pub config : Config

-- the registers of a task
abbrev pub registers_at : Machine → ℕ → Registers
registers_at m x = slice_index_or m.registers x no_registers

-- the machine with this kernel and these registers of task x, one task step later
abbrev pub after_step : Machine → Kernel → ℕ → Registers → Machine
after_step m k x registers = record m { kernel = k; registers = slice_set m.registers x registers; t = m.t + 1 }

-- The priority that the handler compares with: the one saved with the post, and with the literal insertion rule its own.
abbrev pub handler_compares : Config → ℕ → ℕ
handler_compares config saved = if config.insert == 1 then 0 else saved

-- what a whole step does to the kernel
abbrev pub effect_of : (Service → Bool) → Config → Work → Kernel → Effect
effect_of served config (CallOf x r p) k = effect served (call_of r x p p) k
effect_of served config (UnitOf x) k = unit_effect x k
effect_of served config (TakeOf q) k = posted served q.service q.args q.saved (handler_compares config q.saved) k

-- The start of a run: the kernel's start, the initial words of RAM and zeros after them, as the current task the one that
-- the scheduler picks, and all interrupts and looks of the list still to come.
abbrev pub start : ImageRecord → ListRecord → Machine
start image list =
    let k = start_state image in
    record {
      kernel = k;
      registers = start_registers image;
      memory = filled image.ram;
      current = pick k;
      frames = [];
      later = [];
      in_hand = None;
      interrupts = interrupts_of image list;
      looks = list.looks;
      begun = false;
      s = 0;
      t = 0;
      code = image.code;
      config = image.config;
    }
