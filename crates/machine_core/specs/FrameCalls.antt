-- What a frame of interrupt code does, wherever its posts go.
use Rattle.std.specs.Prelude.{ℕ, ◌+◌, Bool, false, ◌&&◌, List, [], ◌∷◌, drop, Option, Some, None, if◌then◌else◌, ◌==◌}
use Rattle.kern_base.specs.Numbers.{leave}
use Rattle.kern_base.specs.Tables.{KindTable}
use Rattle.kern_base.specs.Checks.{static_error}
use Rattle.kern_base.specs.Services.{argument_count, interrupt_error, is_post, service_of}
use Rattle.kern_base.specs.declared.services.Service.{Service}
use Rattle.kern_base.specs.declared.outcomes.Answer.{Answer}
use Rattle.kern_base.specs.declared.errors.OsErr.{OsErr}
use Rattle.kern_base.specs.declared.errors.OsErr.TheVariants.{CallUnknown}
use Rattle.kern_model.specs.State.{Kernel}
use Rattle.served.specs.Served.{program_serves}
use Rattle.kern_model.specs.Effect.{answer}
use Rattle.rv32_exec.specs.Registers.{Registers, no_registers, read}
use Rattle.rv32_exec.specs.Exec.{Execution, exec}
use Rattle.rv32_exec.specs.declared.Stepped.{Stepped}
use Rattle.rv32_exec.specs.declared.Stepped.TheVariants.{Next, Call, Trap, Stored}
use Rattle.machine_model.specs.Frames.{FrameRecord, none_stands}
use Rattle.machine_model.specs.Marks.{marks_after, next_instruction, post_marks}
use Rattle.machine_model.specs.Queue.{Queued}
use Rattle.machine_model.specs.declared.events.How.{How}
use Rattle.machine_model.specs.declared.events.How.TheVariants as how
use Rattle.machine_model.specs.declared.events.What.{What}
use Rattle.machine_model.specs.declared.events.What.TheVariants.{Quiet, St, Post, ICall, Exit}
use Rattle.machine_model.specs.Answers.{arguments}
use Rattle.machine_model.specs.Settling.{settled_task}
use Rattle.machine_model.specs.Interrupts.{answered_frame, argument_words, ran}

-- the current task once these frames stand and `free` says that nothing is in hand: where no frame does, the machine settles
abbrev pub task_below : List FrameRecord → Bool → Kernel → List Queued → ℕ → ℕ
task_below frames free k later current = if none_stands frames && free then settled_task k later current else current

-- what a call of a frame comes to: what is told, the frame, and what its posts go to
pub record FrameCall (X : Type 0) : Type 0 where
  pub what : What
  pub frame : FrameRecord
  pub after : X

-- what an instruction of the top frame comes to: what is told, the frames, the memory, and what their posts go to
pub record FrameStep (X : Type 0) : Type 0 where
  pub what : What
  pub frames : List FrameRecord
  pub memory : List ℕ
  pub after : X

-- the frame after a call that is refused
abbrev pub refused_frame : OsErr → FrameRecord → Registers → FrameRecord
refused_frame err f regs = answered_frame f regs (answer err 0) []

-- the top frame; what stands in free room where none stands
abbrev pub no_frame : FrameRecord
no_frame = record { vector = 0; level = 0; registers = no_registers; used = 0; marks = [] }

abbrev pub top_of : List FrameRecord → FrameRecord
top_of [] = no_frame
top_of (f ∷ below) = f

-- `way`: what a post comes to that passed the static checks, and what it leaves; `kinds`: what those checks look at
module _ {X : Type 0} (way : Service → List ℕ → X → Answer × X) where
  -- a post that fails a static check is answered so
  abbrev pub checked_to : Option OsErr → Service → List ℕ → X → Answer × X
  checked_to (Some err) s args x = (answer err 0, x)
  checked_to None s args x = way s args x

  module _ (kinds : KindTable) where
    -- a post
    abbrev pub post_call : Service → List ℕ → FrameRecord → Registers → X → FrameCall X
    post_call s args f regs x =
        let p = checked_to (static_error s args kinds false) s args x in
        record {
          what = Post f.vector s (arguments s args) (argument_count s) p.0.err p.0.value;
          frame = answered_frame f regs p.0 post_marks;
          after = p.1;
        }

    abbrev pub refused_call : Service → OsErr → FrameRecord → Registers → X → FrameCall X
    refused_call s err f regs x = record { what = ICall f.vector s err; frame = refused_frame err f regs; after = x }

    -- the frame calls this service with these arguments: it may post, and one that is not served counts as an unknown number
    abbrev pub called_by : Service → List ℕ → FrameRecord → Registers → X → FrameCall X
    called_by s args f regs x =
        if program_serves s then (if is_post s then post_call s args f regs x else refused_call s (interrupt_error s) f regs x)
        else refused_call s CallUnknown f regs x

    -- the top frame calls this service with these arguments
    abbrev pub top_calls : Service → List ℕ → List FrameRecord → X → FrameCall X
    top_calls s args frames x = called_by s args (top_of frames) (top_of frames).registers x

    -- the service and the arguments are those in its registers
    abbrev pub top_called : List FrameRecord → X → FrameCall X
    top_called frames x =
        let regs = (top_of frames).registers in
        top_calls (service_of (read regs 17)) (argument_words regs) frames x

    -- the top frame leaves
    abbrev pub left_step : How → FrameRecord → List FrameRecord → List ℕ → X → FrameStep X
    left_step how f below memory x = record { what = Exit f.vector how; frames = below; memory = memory; after = x }

    -- it goes on, unless it has returned
    abbrev pub next_step : Bool → FrameRecord → List FrameRecord → Registers → List ℕ → List ℕ → X → FrameStep X
    next_step returned f below regs marks memory x =
        if returned then left_step how.Ret f below memory x else record { what = Quiet; frames = ran f regs marks ∷ below; memory = memory; after = x }

    -- it has called
    abbrev pub call_step : FrameCall X → List FrameRecord → List ℕ → FrameStep X
    call_step c below memory = record { what = c.what; frames = c.frame ∷ below; memory = memory; after = c.after }

    -- by what came of its instruction, before which the memory was this
    abbrev pub step_by : Stepped → Execution → FrameRecord → List FrameRecord → List ℕ → List ℕ → X → FrameStep X
    step_by Next e f below marks memory x = next_step (e.registers.pc == leave) f below e.registers marks memory x
    step_by (Stored addr width value) e f below marks memory x = record { what = St (64 + f.vector) addr width value; frames = ran f e.registers marks ∷ below; memory = e.memory; after = x }
    step_by Call e f below marks memory x = call_step (called_by (service_of (read e.registers 17)) (argument_words e.registers) f e.registers x) below memory
    step_by (Trap kind pc) e f below marks memory x = left_step (how.Trap kind pc) f below memory x

    -- the top frame runs one instruction
    abbrev pub frame_stepped : List ℕ → List FrameRecord → List ℕ → X → FrameStep X
    frame_stepped code frames memory x =
        let f = top_of frames in
        let e = exec code f.registers memory in
        step_by e.did e f (drop 1 frames) (marks_after (next_instruction code f.registers) f.marks) memory x
