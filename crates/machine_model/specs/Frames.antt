-- Interrupts that wait to enter, and the frames of interrupt code that stand.
use Rattle.std.specs.Prelude.{ℕ, ◌∷◌, ◌++◌, [], Bool, true, false, List, map, replicate, if◌then◌else◌, ◌==◌}
use Rattle.rv32_exec.specs.Registers.{Registers}
use Rattle.app_image.specs.Image.{ImageRecord}
use Rattle.app_image.specs.declared.records.VectorDef.{VectorDef}
use Rattle.kern_base.specs.Numbers.{leave}
use Rattle.inject_list.specs.Lists.{ListRecord}
use Rattle.inject_list.specs.declared.lists.Moment.{Moment}
use Rattle.inject_list.specs.declared.lists.Injection.{Injection}

-- An interrupt that has not entered: its moment, the vector's number, level, first address and stack pointer, and the
-- words for a0 to a3.
pub record Interrupt : Type 0 where
  pub moment : Moment
  pub vector : ℕ
  pub level : ℕ
  pub entry : ℕ
  pub sp : ℕ
  pub words : List ℕ

-- A frame: its vector and level, its registers, how many instructions it has run, and the registers that are marked:
-- those that hold what a post answered.
pub record FrameRecord : Type 0 where
  pub vector : ℕ
  pub level : ℕ
  pub registers : Registers
  pub used : ℕ
  pub marks : List ℕ

-- the interrupt of a vector that is declared so; a vector that is not declared has level 0 and never enters
abbrev pub interrupt_of : List VectorDef → Injection → Interrupt
interrupt_of [] i = record { moment = i.moment; vector = i.vector; level = 0; entry = 0; sp = 0; words = i.words }
interrupt_of (v ∷ vs) i =
    if v.number == i.vector then record { moment = i.moment; vector = i.vector; level = v.level; entry = v.entry; sp = v.sp; words = i.words }
    else interrupt_of vs i

-- the interrupts of a case, in the order of the list
abbrev pub interrupts_of : ImageRecord → ListRecord → List Interrupt
interrupts_of image l = map (interrupt_of image.vectors) l.injections

-- the registers that a frame begins with: LEAVE to return to, its stack pointer, the words in a0 to a3, and else 0
abbrev pub frame_registers : Interrupt → Registers
frame_registers i = record { pc = i.entry; x = 0 ∷ leave ∷ i.sp ∷ replicate 7 0 ++ i.words ++ replicate 18 0 }

-- the frame that an interrupt enters with
abbrev pub entered : Interrupt → FrameRecord
entered i = record { vector = i.vector; level = i.level; registers = frame_registers i; used = 0; marks = [] }

-- the level that an interrupt has to be above: that of the top frame, which is the first; 0 where none stands
abbrev pub level_of : List FrameRecord → ℕ
level_of [] = 0
level_of (f ∷ fs) = f.level

-- whether no frame stands
abbrev pub none_stands : List FrameRecord → Bool
none_stands [] = true
none_stands (f ∷ fs) = false
