-- A frame step, wherever its posts go, is what the rule of a frame that runs does.
use Rattle.std.specs.Prelude.{◌==◌, ◌&&◌, if◌then◌else◌}
use Rattle.std.proofs.Common.{◌≡◌, ℕ, Bool, true, false, List, ◌∷◌, Option, Some, None, refl, sym, ap, ◌∙◌}
use Rattle.kern_base.specs.Numbers.{leave}
use Rattle.kern_base.specs.Services.{interrupt_error, is_post, service_of}
use Rattle.kern_base.specs.Checks.{static_error}
use Rattle.kern_base.specs.Tables.{KindTable}
use Rattle.kern_base.specs.declared.kinds.Method.{Method}
use Rattle.kern_base.specs.declared.kinds.Method.TheVariants.{Direct, Deferred}
use Rattle.kern_base.specs.declared.errors.OsErr.{OsErr}
use Rattle.kern_base.specs.declared.errors.OsErr.TheVariants.{CallUnknown}
use Rattle.kern_base.specs.declared.outcomes.Answer.{Answer}
use Rattle.kern_base.specs.declared.services.Service.{Service}
use Rattle.kern_model.specs.State.{Kernel, prio_of, kinds_of}
use Rattle.served.specs.Served.{program_serves}
use Rattle.kern_model.proofs.Lemmas.{choice}
use Rattle.kernel_calls.specs.KernelRecord.{KernelRecord}
use Rattle.rv32_exec.specs.Registers.{Registers, read}
use Rattle.rv32_exec.specs.Exec.{Execution, exec}
use Rattle.rv32_exec.specs.declared.Stepped.{Stepped}
use Rattle.rv32_exec.specs.declared.Stepped.TheVariants.{Next, Call, Trap, Stored}
use Rattle.machine_model.specs.Frames.{FrameRecord, none_stands}
use Rattle.machine_model.specs.Marks.{marks_after, next_instruction}
use Rattle.machine_model.specs.Queue.{Queued, queued}
use Rattle.machine_model.specs.declared.events.How.{How}
use Rattle.machine_model.specs.declared.events.How.TheVariants as how
use Rattle.machine_model.specs.declared.events.What.TheVariants.{Quiet}
use Rattle.machine_model.specs.Machine.{Machine}
use Rattle.machine_model.specs.Answers.{Change}
use Rattle.machine_model.specs.Settling.{settled, is_free}
use Rattle.machine_model.specs.Interrupts.{queues, posts_by, checked_post, leaves, frame_goes_on, frame_calls, frame_posts, frame_refused, frame_did, frame_runs, argument_words, ran}
use Rattle.deferred_queue.specs.QueueRecord.{QueueRecord}
use Rattle.machine_core.specs.Posts.{post_at_once, post_later, joined}
use Rattle.machine_core.specs.FrameCalls.{FrameStep, checked_to, called_by, post_call, refused_call, left_step, next_step, call_step, step_by, task_below}

-- What leaving keeps.

-- the machine with these frames: where none stands and nothing is in hand, it settles
abbrev pub after : Machine → Machine
after n = if none_stands n.frames && is_free n.in_hand then settled n else n

-- it keeps all but the current task
pub after-is : (n : Machine) → after n ≡ record n { current = task_below n.frames (is_free n.in_hand) n.kernel n.later n.current }
after-is n = by (none_stands n.frames && is_free n.in_hand)
  where
    by : (b : Bool) → (if b then settled n else n) ≡ record n { current = if b then (settled n).current else n.current }
    by true = refl
    by false = refl

-- What a rule of interrupt code comes to: what is told, and the parts of the machine that it changes; the current task follows
-- from them.
pub record ComesTo (m : Machine) (c : Change) : Type 0 where
  pub machine : c.machine ≡ after (record m { kernel = c.machine.kernel; later = c.machine.later; frames = c.machine.frames; memory = c.machine.memory })

comes-leaves : (how : How) (f : FrameRecord) (below : List FrameRecord) (m : Machine) → ComesTo m (leaves how f below m)
comes-leaves how f below m =
    let n : Machine = record m { frames = below } in
    record { machine = ap (λ (x : Machine). after (record m { kernel = x.kernel; later = x.later; frames = x.frames; memory = x.memory })) (sym (after-is n)) }

module _ (d : Method) where
  comes-goes_on : (f : FrameRecord) (below : List FrameRecord) (regs : Registers) (marks : List ℕ) (m : Machine) → ComesTo m (frame_goes_on program_serves d f below regs marks m)
  comes-goes_on f below regs marks m =
      choice (ComesTo m) (regs.pc == leave) (leaves how.Ret f below m) (record { what = Quiet; machine = record m { frames = ran f regs marks ∷ below } })
      (comes-leaves how.Ret f below m) (record { machine = refl })

  comes-calls : (s : Service) (args : List ℕ) (f : FrameRecord) (below : List FrameRecord) (regs : Registers) (m : Machine) → ComesTo m (frame_calls program_serves d s args f below regs m)
  comes-calls s args f below regs m = by (program_serves s) (is_post s)
    where
      by : (b c : Bool) → ComesTo m (if b then (if c then frame_posts program_serves d s args f below regs m else frame_refused program_serves d s (interrupt_error s) f below regs m) else frame_refused program_serves d s CallUnknown f below regs m)
      by true true = record { machine = refl }
      by true false = record { machine = refl }
      by false c = record { machine = refl }

  comes-did : (did : Stepped) (e : Execution) (f : FrameRecord) (below : List FrameRecord) (marks : List ℕ) (m : Machine) → ComesTo m (frame_did program_serves d did e f below marks m)
  comes-did Next e f below marks m = comes-goes_on f below e.registers marks m
  comes-did (Stored addr width value) e f below marks m = record { machine = refl }
  comes-did Call e f below marks m = comes-calls (service_of (read e.registers 17)) (argument_words e.registers) f below e.registers m
  comes-did (Trap kind pc) e f below marks m = comes-leaves (how.Trap kind pc) f below m

  pub comes-runs : (f : FrameRecord) (below : List FrameRecord) (m : Machine) → ComesTo m (frame_runs program_serves d f below m)
  comes-runs f below m =
      let e = exec m.code f.registers m.memory in
      comes-did e.did e f below (marks_after (next_instruction m.code f.registers) f.marks) m

-- Posts go to `x`, in which these are the kernel and the queue.
module _ {X : Type 0} (way : Service → List ℕ → X → Answer × X) (kernel_in : X → Kernel) (later_in : X → List Queued) where
  -- the step tells, and leaves, what the rule does
  pub record IsStep (c : Change) (s : FrameStep X) : Type 0 where
    pub what : s.what ≡ c.what
    pub frames : s.frames ≡ c.machine.frames
    pub memory : s.memory ≡ c.machine.memory
    pub kernel : kernel_in s.after ≡ c.machine.kernel
    pub later : later_in s.after ≡ c.machine.later

  module _ (d : Method) (m : Machine) (x : X) (kernel : kernel_in x ≡ m.kernel) (later : later_in x ≡ m.later)
      (goes : (s : Service) (args : List ℕ) → posts_by program_serves d d s args (prio_of m.kernel m.current) m ≡ record { answer = (way s args x).0; kernel = kernel_in (way s args x).1; later = later_in (way s args x).1 }) where
    -- a post
    checked : (e : Option OsErr) (s : Service) (args : List ℕ) → checked_post program_serves d e s args m ≡ record { answer = (checked_to way e s args x).0; kernel = kernel_in (checked_to way e s args x).1; later = later_in (checked_to way e s args x).1 }
    checked (Some err) s args = rw (kernel, later) refl
    checked None s args = goes s args

    step-leaves : (how : How) (f : FrameRecord) (below : List FrameRecord) → IsStep (leaves how f below m) (left_step way (kinds_of m.kernel) how f below m.memory x)
    step-leaves how f below =
        let n : Machine = record m { frames = below } in
        rw (after-is n) (record { what = refl; frames = refl; memory = refl; kernel = kernel; later = later })

    step-goes_on : (b : Bool) (f : FrameRecord) (below : List FrameRecord) (regs : Registers) (marks : List ℕ)
        → IsStep (if b then leaves how.Ret f below m else record { what = Quiet; machine = record m { frames = ran f regs marks ∷ below } }) (next_step way (kinds_of m.kernel) b f below regs marks m.memory x)
    step-goes_on true f below regs marks = step-leaves how.Ret f below
    step-goes_on false f below regs marks = record { what = refl; frames = refl; memory = refl; kernel = kernel; later = later }

    step-calls : (s : Service) (args : List ℕ) (f : FrameRecord) (below : List FrameRecord) (regs : Registers) → IsStep (frame_calls program_serves d s args f below regs m) (call_step way (kinds_of m.kernel) (called_by way (kinds_of m.kernel) s args f regs x) below m.memory)
    step-calls s args f below regs = by (program_serves s) (is_post s)
      where
        kinds : KindTable
        kinds = kinds_of m.kernel

        by : (b c : Bool) → IsStep (if b then (if c then frame_posts program_serves d s args f below regs m else frame_refused program_serves d s (interrupt_error s) f below regs m) else frame_refused program_serves d s CallUnknown f below regs m)
            (call_step way kinds (if b then (if c then post_call way kinds s args f regs x else refused_call way kinds s (interrupt_error s) f regs x) else refused_call way kinds s CallUnknown f regs x) below m.memory)
        by true true = rw (checked (static_error s args kinds false) s args) (record { what = refl; frames = refl; memory = refl; kernel = refl; later = refl })
        by true false = record { what = refl; frames = refl; memory = refl; kernel = kernel; later = later }
        by false c = record { what = refl; frames = refl; memory = refl; kernel = kernel; later = later }

    step-did : (did : Stepped) (e : Execution) (f : FrameRecord) (below : List FrameRecord) (marks : List ℕ) → IsStep (frame_did program_serves d did e f below marks m) (step_by way (kinds_of m.kernel) did e f below marks m.memory x)
    step-did Next e f below marks = step-goes_on (e.registers.pc == leave) f below e.registers marks
    step-did (Stored addr width value) e f below marks = record { what = refl; frames = refl; memory = refl; kernel = kernel; later = later }
    step-did Call e f below marks = step-calls (service_of (read e.registers 17)) (argument_words e.registers) f below e.registers
    step-did (Trap kind pc) e f below marks = step-leaves (how.Trap kind pc) f below

    pub step-runs : (f : FrameRecord) (below : List FrameRecord) → let e = exec m.code f.registers m.memory in IsStep (frame_runs program_serves d f below m) (step_by way (kinds_of m.kernel) e.did e f below (marks_after (next_instruction m.code f.registers) f.marks) m.memory x)
    step-runs f below =
        let e = exec m.code f.registers m.memory in
        step-did e.did e f below (marks_after (next_instruction m.code f.registers) f.marks)

-- What posts leave of where they go, beside the kernel's state and the posts.
module _ {X : Type 0} (way : Service → List ℕ → X → Answer × X) (kinds : KindTable) (P : X → Type 0) (x : X) (here : P x) (goes : (s : Service) (args : List ℕ) → P (way s args x).1) where
  keeps-checked : (e : Option OsErr) (s : Service) (args : List ℕ) → P (checked_to way e s args x).1
  keeps-checked (Some err) s args = here
  keeps-checked None s args = goes s args

  keeps-called : (s : Service) (args : List ℕ) (f : FrameRecord) (regs : Registers) → P (called_by way kinds s args f regs x).after
  keeps-called s args f regs = by (program_serves s) (is_post s)
    where
      by : (b c : Bool) → P (if b then (if c then post_call way kinds s args f regs x else refused_call way kinds s (interrupt_error s) f regs x) else refused_call way kinds s CallUnknown f regs x).after
      by true true = keeps-checked (static_error s args kinds false) s args
      by true false = here
      by false c = here

  keeps-next : (b : Bool) (f : FrameRecord) (below : List FrameRecord) (regs : Registers) (marks memory : List ℕ) → P (next_step way kinds b f below regs marks memory x).after
  keeps-next true f below regs marks memory = here
  keeps-next false f below regs marks memory = here

  pub keeps-step : (did : Stepped) (e : Execution) (f : FrameRecord) (below : List FrameRecord) (marks memory : List ℕ) → P (step_by way kinds did e f below marks memory x).after
  keeps-step Next e f below marks memory = keeps-next (e.registers.pc == leave) f below e.registers marks memory
  keeps-step (Stored addr width value) e f below marks memory = here
  keeps-step Call e f below marks memory = keeps-called (service_of (read e.registers 17)) (argument_words e.registers) f e.registers
  keeps-step (Trap kind pc) e f below marks memory = here

-- The two ways.

-- at once
pub goes-direct : (m : Machine) (k : KernelRecord) (s : Service) (args : List ℕ) → k.state ≡ m.kernel → let p = prio_of m.kernel m.current in posts_by program_serves Direct Direct s args p m ≡ record { answer = (post_at_once p s args k).0; kernel = (post_at_once p s args k).1.state; later = m.later }
goes-direct m k s args e = rw e refl

-- into the queue
joined-is : (o : Option (List Queued)) (m : Machine) (q : QueueRecord) → q.posts ≡ m.later → queues o m.kernel m.later ≡ record { answer = (joined o q).0; kernel = m.kernel; later = (joined o q).1.posts }
joined-is (Some after) m q e = refl
joined-is None m q e = rw e refl

pub goes-deferred : (m : Machine) (q : QueueRecord) (s : Service) (args : List ℕ) → q.posts ≡ m.later → q.size ≡ m.config.defer_size → let p = prio_of m.kernel m.current in posts_by program_serves Deferred Deferred s args p m ≡ record { answer = (post_later p s args q).0; kernel = m.kernel; later = (post_later p s args q).1.posts }
goes-deferred m q s args e size =
    let p = prio_of m.kernel m.current in
    joined-is (queued m.config.defer_size (record { service = s; args = args; saved = p }) m.later) m q e
    ∙ rw (e, size) refl

size-joined : (o : Option (List Queued)) (q : QueueRecord) → (joined o q).1.size ≡ q.size
size-joined (Some after) q = refl
size-joined None q = refl

pub size-later : (p : ℕ) (s : Service) (args : List ℕ) (q : QueueRecord) → (post_later p s args q).1.size ≡ q.size
size-later p s args q = size-joined (queued q.size (record { service = s; args = args; saved = p }) q.posts) q
