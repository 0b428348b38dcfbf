-- What a frame means.
use Rattle.std.specs.Prelude.{ℕ, ◌/◌, ◌%◌, ◌<◌, ◌≤◌, ◌==◌, ◌++◌, [], ◌∷◌, List, map, reverse, if◌then◌else◌}
use Rattle.isr_nesting.specs.declared.Frame.{Frame}
use Rattle.machine_model.specs.Frames.{FrameRecord, level_of}

-- the registers that are marked: bit 0 stands for register 10, bit 1 for register 11
abbrev pub mark_list : ℕ → List ℕ
mark_list marks = (if marks % 2 == 1 then 10 ∷ [] else []) ++ (if marks / 2 % 2 == 1 then 11 ∷ [] else [])

abbrev pub frame_record : Frame → FrameRecord
frame_record f = record { vector = f.vector; level = f.level; registers = f.regs; used = f.used; marks = mark_list f.marks }

-- the frames that stand, the top one first, where the top one is the last
abbrev pub stack_of : List Frame → List FrameRecord
stack_of frames = reverse (map frame_record frames)

-- each frame has a level above the one below it, and none is above 7
abbrev pub Climbs : List FrameRecord → Type 0
Climbs [] = Unit {0}
Climbs (f ∷ fs) = (level_of fs < f.level) × (f.level ≤ 7) × Climbs fs

-- a change of the top frame
abbrev pub with_top : (FrameRecord → FrameRecord) → List FrameRecord → List FrameRecord
with_top g [] = []
with_top g (f ∷ fs) = g f ∷ fs
