-- How many events are still to come at most.
use Rattle.std.specs.Prelude.{ℕ, ◌+◌, ◌-◌, ◌*◌, Bool, List, [], ◌∷◌, length, Option, Some, None, if◌then◌else◌}
use Rattle.machine_model.specs.Frames.{FrameRecord}
use Rattle.machine_model.specs.Machine.{Machine, WholeStep}

-- how many micro-steps a whole step has at most
abbrev pub most_micro_steps : ℕ
most_micro_steps = 32000

-- the raw steps of a whole step: its start and its micro-steps
abbrev pub whole_step_events : ℕ
whole_step_events = 1 + most_micro_steps

-- the first event, which names the first task, is still to come
abbrev pub first_event : Bool → ℕ
first_event begun = if begun then 0 else 1

-- the raw steps that the whole step in hand has taken: its start and its micro-steps
abbrev pub steps_taken : Option WholeStep → ℕ
steps_taken None = 0
steps_taken (Some w) = 1 + w.done

-- an instruction of interrupt code, and the take of the post that it may queue
abbrev pub instruction_events : ℕ
instruction_events = 1 + whole_step_events

-- of a frame that may run so many instructions: those that are left, and its leaving at the limit
abbrev pub frame_events : ℕ → FrameRecord → ℕ
frame_events limit f = (limit - f.used) * instruction_events + 1

-- of all frames
abbrev pub frames_events : ℕ → List FrameRecord → ℕ
frames_events limit [] = 0
frames_events limit (f ∷ fs) = frame_events limit f + frames_events limit fs

-- of an interrupt that has not entered: its entry, and all of its frame
abbrev pub interrupt_events : ℕ → ℕ
interrupt_events limit = 1 + (limit * instruction_events + 1)

-- At most so many events are still to come until there are n task steps.
abbrev pub events_left : ℕ → Machine → ℕ
events_left n m =
    whole_step_events * (n - m.t) + first_event m.begun
    + (length m.looks + length m.interrupts * interrupt_events m.config.isr_limit)
    + (frames_events m.config.isr_limit m.frames + whole_step_events * length m.later)
    - steps_taken m.in_hand
