-- What a frame step of the deferred method has of a machine, and what it makes of it.
use Rattle.std.specs.Prelude.{◌≡◌, ℕ, List, drop}
use Rattle.kern_base.specs.Tables.{KindTable}
use Rattle.kern_base.specs.declared.kinds.Method.{Method}
use Rattle.kern_base.specs.declared.kinds.Method.TheVariants.{Deferred}
use Rattle.kern_model.specs.State.{kinds_of, prio_of}
use Rattle.served.specs.Served.{program_serves}
use Rattle.kernel_calls.specs.KernelRecord.{KernelRecord, with_state}
use Rattle.isr_nesting.specs.Nest.{Nest}
use Rattle.deferred_queue.specs.QueueRecord.{QueueRecord}
use Rattle.machine_model.specs.declared.events.What.{What}
use Rattle.machine_model.specs.Machine.{Machine}
use Rattle.machine_model.specs.Answers.{Change}
use Rattle.machine_model.specs.Interrupts.{frame_runs}
use Rattle.machine_core.specs.FrameCalls.{top_of}

-- these are the machine's code, kinds of objects, frames, memory and queue, and this is the current task's priority
pub record HasParts (m : Machine) (program : List ℕ) (table : KindTable) (prio : ℕ) (nest : Nest) (ram : List ℕ) (queue : QueueRecord) : Type 0 where
  pub code : m.code ≡ program
  pub kinds : kinds_of m.kernel ≡ table
  pub saved : prio_of m.kernel m.current ≡ prio
  pub frames : m.frames ≡ nest.frames
  pub memory : m.memory ≡ ram
  pub posts : m.later ≡ queue.posts
  pub size : m.config.defer_size ≡ queue.size

-- what the rule of a frame that runs does, by the deferred method
abbrev pub deferred_step : Machine → Change
deferred_step m = frame_runs program_serves Deferred (top_of m.frames) (drop 1 m.frames) m

-- it tells this, and leaves these frames, this memory and this queue
pub record IsStepOf (m : Machine) (what : What) (nest : Nest) (ram : List ℕ) (queue : QueueRecord) : Type 0 where
  pub line : what ≡ (deferred_step m).what
  pub frames : nest.frames ≡ (deferred_step m).machine.frames
  pub memory : ram ≡ (deferred_step m).machine.memory
  pub posts : queue.posts ≡ (deferred_step m).machine.later

-- the same, by either method
abbrev pub step_by_method : Method → Machine → Change
step_by_method d m = frame_runs program_serves d (top_of m.frames) (drop 1 m.frames) m

-- it tells this, and leaves these frames, this memory, this queue and this kernel, where these frames stood before and the kernel
-- was this
pub record IsStepBy (d : Method) (m : Machine) (what : What) (before nest : Nest) (ram : List ℕ) (queue : QueueRecord) (old new : KernelRecord) : Type 0 where
  pub line : what ≡ (step_by_method d m).what
  pub frames : nest ≡ record { frames = (step_by_method d m).machine.frames; waiting = before.waiting }
  pub memory : ram ≡ (step_by_method d m).machine.memory
  pub posts : queue.posts ≡ (step_by_method d m).machine.later
  pub kernel : new ≡ with_state old (step_by_method d m).machine.kernel
