-- What interrupt code does: an interrupt enters, its frame runs one instruction, a frame leaves.
use Rattle.std.specs.Prelude.{ℕ, ◌+◌, ◌%◌, ◌^◌, Bool, false, not, ◌&&◌, List, [], ◌∷◌, Option, Some, None, if◌then◌else◌, ◌==◌}
use Rattle.kern_base.specs.declared.kinds.Method.{Method}
use Rattle.kern_base.specs.declared.kinds.Method.TheVariants.{Direct, Deferred}
use Rattle.kern_base.specs.declared.services.Service.{Service}
use Rattle.kern_base.specs.Services.{service_of, argument_count, interrupt_error, is_post}
use Rattle.kern_base.specs.Checks.{static_error}
use Rattle.kern_base.specs.Errors.{error_number}
use Rattle.kern_base.specs.declared.errors.OsErr.{OsErr}
use Rattle.kern_base.specs.declared.errors.OsErr.TheVariants.{InterruptQueueFull, CallUnknown}
use Rattle.kern_base.specs.declared.outcomes.Answer.{Answer}
use Rattle.kern_base.specs.declared.outcomes.Outcome.{Outcome}
use Rattle.kern_base.specs.declared.outcomes.Outcome.TheVariants.{Answered}
use Rattle.kern_model.specs.State.{Kernel, prio_of, kinds_of}
use Rattle.kern_model.specs.Effect.{answer, fine}
use Rattle.kern_model.specs.Services.{posted}
use Rattle.rv32_exec.specs.Registers.{Registers, read, written}
use Rattle.rv32_exec.specs.Exec.{Execution, exec}
use Rattle.rv32_exec.specs.declared.Stepped.{Stepped}
use Rattle.rv32_exec.specs.declared.Stepped.TheVariants.{Next, Call, Trap, Stored}
use Rattle.kern_base.specs.Numbers.{leave}
use Rattle.machine_model.specs.Queue.{Queued, queued}
use Rattle.machine_model.specs.Frames.{FrameRecord, entered, none_stands}
use Rattle.machine_model.specs.Due.{Place, taken_at, is_step}
use Rattle.machine_model.specs.Marks.{marks_after, next_instruction, post_marks}
use Rattle.machine_model.specs.declared.events.How.{How}
use Rattle.machine_model.specs.declared.events.How.TheVariants as how
use Rattle.machine_model.specs.declared.events.What.TheVariants.{Quiet, St, Irq, Post, ICall, Exit}
use Rattle.machine_model.specs.Machine.{Machine}
use Rattle.machine_model.specs.Answers.{Change, arguments}
use Rattle.machine_model.specs.Settling.{settled, is_free}

-- an interrupt enters: its frame stands on top
abbrev pub enters : Place → Machine → Change
enters p m =
    let i = p.interrupt in
    record {
      what = Irq i.vector i.level (is_step i.moment) (not (m.kernel.lock == 0));
      machine = record m { frames = entered i ∷ m.frames; interrupts = taken_at p.at m.interrupts };
    }

-- without the top frame; where no other stands and nothing is in hand, the machine settles
abbrev pub without_top : List FrameRecord → Machine → Machine
without_top below m =
    let n = record m { frames = below } in
    if none_stands below && is_free m.in_hand then settled n else n

-- the top frame leaves
abbrev pub leaves : How → FrameRecord → List FrameRecord → Machine → Change
leaves how f below m = record { what = Exit f.vector how; machine = without_top below m }

-- a frame after one instruction, with these registers and marks
abbrev pub ran : FrameRecord → Registers → List ℕ → FrameRecord
ran f registers marks = record f { registers = registers; used = f.used + 1; marks = marks }

-- the words of a0 to a3, each a number below 2 ^ 32
abbrev pub argument_words : Registers → List ℕ
argument_words regs = read regs 10 % 2 ^ 32 ∷ read regs 11 % 2 ^ 32 ∷ read regs 12 % 2 ^ 32 ∷ read regs 13 % 2 ^ 32 ∷ []

-- the registers of a frame with an answer
abbrev pub told : Answer → Registers → Registers
told a regs = record regs { x = written (written regs.x 10 (error_number a.err)) 11 a.value }

-- the frame goes on with an answer in its registers
abbrev pub answered_frame : FrameRecord → Registers → Answer → List ℕ → FrameRecord
answered_frame f registers a marks = ran f (told a registers) marks

-- the answer of a call that is answered at once
abbrev pub answer_in : Outcome → Answer
answer_in (Answered a taken) = a
answer_in outcome = fine 0

-- what a post of interrupt code comes to: its answer, the kernel and the queue after it
pub record Posting : Type 0 where
  pub answer : Answer
  pub kernel : Kernel
  pub later : List Queued

-- the post is queued, or lost where the queue is full
abbrev pub queues : Option (List Queued) → Kernel → List Queued → Posting
queues (Some after) k later = record { answer = fine 0; kernel = k; later = after }
queues None k later = record { answer = answer InterruptQueueFull 0; kernel = k; later = later }

-- `served`: the services that there are; `method`: how interrupt code posts
module _ (served : Service → Bool) (method : Method) where
  -- A post that passed the static checks, while a task of priority p is current: at once and whole, or through the queue.
  abbrev pub posts_by : Method → Service → List ℕ → ℕ → Machine → Posting
  posts_by Direct s args p m =
      let e = posted served s args p p m.kernel in
      record { answer = answer_in e.outcome; kernel = e.kernel; later = m.later }
  posts_by Deferred s args p m =
      queues (queued m.config.defer_size (record { service = s; args = args; saved = p }) m.later) m.kernel m.later

  -- a post that fails a static check is answered so
  abbrev pub checked_post : Option OsErr → Service → List ℕ → Machine → Posting
  checked_post (Some err) s args m = record { answer = answer err 0; kernel = m.kernel; later = m.later }
  checked_post None s args m = posts_by method s args (prio_of m.kernel m.current) m

  -- a post of interrupt code
  abbrev pub posting : Service → List ℕ → Machine → Posting
  posting s args m = checked_post (static_error s args (kinds_of m.kernel) false) s args m

  -- the top frame posts
  abbrev pub frame_posts : Service → List ℕ → FrameRecord → List FrameRecord → Registers → Machine → Change
  frame_posts s args f below registers m =
      let p = posting s args m in
      record {
        what = Post f.vector s (arguments s args) (argument_count s) p.answer.err p.answer.value;
        machine = record m { kernel = p.kernel; later = p.later; frames = answered_frame f registers p.answer post_marks ∷ below };
      }

  -- any other call of the top frame is refused
  abbrev pub frame_refused : Service → OsErr → FrameRecord → List FrameRecord → Registers → Machine → Change
  frame_refused s err f below registers m =
      record {
        what = ICall f.vector s err;
        machine = record m { frames = answered_frame f registers (answer err 0) [] ∷ below };
      }

  -- the top frame calls this service; one that is not served counts as an unknown number
  abbrev pub frame_calls : Service → List ℕ → FrameRecord → List FrameRecord → Registers → Machine → Change
  frame_calls s args f below registers m =
      if served s then (if is_post s then frame_posts s args f below registers m else frame_refused s (interrupt_error s) f below registers m)
      else frame_refused s CallUnknown f below registers m

  -- the top frame goes on, unless it has returned
  abbrev pub frame_goes_on : FrameRecord → List FrameRecord → Registers → List ℕ → Machine → Change
  frame_goes_on f below registers marks m =
      if registers.pc == leave then leaves how.Ret f below m
      else record { what = Quiet; machine = record m { frames = ran f registers marks ∷ below } }

  -- one instruction of the top frame, by what came of it
  abbrev pub frame_did : Stepped → Execution → FrameRecord → List FrameRecord → List ℕ → Machine → Change
  frame_did Next e f below marks m = frame_goes_on f below e.registers marks m
  frame_did (Stored addr width value) e f below marks m =
      record { what = St (64 + f.vector) addr width value; machine = record m { memory = e.memory; frames = ran f e.registers marks ∷ below } }
  frame_did Call e f below marks m = frame_calls (service_of (read e.registers 17)) (argument_words e.registers) f below e.registers m
  frame_did (Trap kind pc) e f below marks m = leaves (how.Trap kind pc) f below m

  -- the top frame runs one instruction
  abbrev pub frame_runs : FrameRecord → List FrameRecord → Machine → Change
  frame_runs f below m =
      let e = exec m.code f.registers m.memory in
      frame_did e.did e f below (marks_after (next_instruction m.code f.registers) f.marks) m
