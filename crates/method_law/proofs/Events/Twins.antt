-- Machines of both runs in one mode, with the same current task, whatever their raw steps.
use Rattle.machine_laws.proofs.Common.{Look, Service, Registers, FrameRecord, Machine, WholeStep, Queued}
use Rattle.std.specs.Prelude.{ℕ, Bool, true, List, [], Option}
use Rattle.method_law.specs.Relation.{all_performed}
use Rattle.method_law.specs.Modes.{at_step, task_level_machine, frame_machine, HasNoTake, FrameAgrees, IsOpen}

pub data Twins (served : Service → Bool) (n : ℕ) : Machine → Machine → Type 0 where
  twins : (d : Machine) (hand : Option WholeStep) (s : ℕ) (looks : List Look) → HasNoTake hand
      → Twins served n (task_level_machine true hand d) (at_step s looks (task_level_machine true hand d))
  frame_twins : (d : Machine) (f : FrameRecord) (registers : Registers) (later : List Queued) (s : ℕ) (looks : List Look) → FrameAgrees f registers → IsOpen n later d
      → Twins served n (frame_machine f later d) (at_step s looks (record (frame_machine (record f { registers = registers }) [] d) { kernel = all_performed served later d.kernel }))
