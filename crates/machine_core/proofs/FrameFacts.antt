-- What the machine's fields come to, where interrupt code acts.
use Rattle.std.proofs.lemmas.Bool.Decides.{eqb_tells, leb_tells}
use Rattle.std.specs.Prelude.{nat_lt, not, ◌==◌, if◌then◌else◌, is_none, option_map, All}
use Rattle.std.proofs.Common.{◌≡◌, ◌<◌, inl, inr, ℕ, Bool, true, false, List, [], ◌∷◌, Option, Some, None, refl, sym, ap, ◌∙◌, subst, arith}
use Rattle.std.proofs.lemmas.List.Elements.{All-cons, All-head, All-tail, All-contains}
use Rattle.kern_base.specs.Numbers.{leave}
use Rattle.kern_base.specs.Tables.{KindTable}
use Rattle.kern_base.specs.declared.errors.OsErr.TheVariants.{CallUnknown}
use Rattle.kern_base.specs.Services.{interrupt_error, is_post, service_of}
use Rattle.kern_base.specs.declared.kinds.Method.{Method}
use Rattle.kern_base.specs.declared.kinds.Method.TheVariants.{Direct, Deferred}
use Rattle.kern_base.specs.declared.numbers.TaskId.{TaskId}
use Rattle.kern_base.specs.declared.outcomes.Answer.{Answer}
use Rattle.kern_base.specs.declared.services.Service.{Service}
use Rattle.kern_model.specs.State.{prio_of, kinds_of}
use Rattle.served.specs.Served.{program_serves}
use Rattle.kernel_calls.specs.KernelRecord.{KernelRecord, with_state}
use Rattle.rv32_exec.specs.Registers.{Registers, read}
use Rattle.rv32_exec.specs.Exec.{Execution, exec}
use Rattle.rv32_exec.specs.declared.Stepped.{Stepped}
use Rattle.rv32_exec.specs.declared.Stepped.TheVariants.{Next, Call, Trap, Stored}
use Rattle.machine_model.specs.declared.events.How.TheVariants as how
use Rattle.machine_model.specs.declared.events.What.{What}
use Rattle.machine_model.specs.declared.events.What.TheVariants.{Irq, Exit}
use Rattle.machine_model.specs.Marks.{marks_after, next_instruction}
use Rattle.machine_model.specs.Frames.{FrameRecord, Interrupt, entered}
use Rattle.machine_model.specs.Due.{taken_at, is_step}
use Rattle.isr_nesting.specs.Nest.{Nest, interrupts, waiting_at, without_number}
use Rattle.machine_core.specs.MachineView.{Parts}
use Rattle.machine_model.specs.Machine.{Machine}
use Rattle.machine_model.specs.Answers.{Change}
use Rattle.machine_model.specs.Settling.{is_free}
use Rattle.machine_model.specs.Interrupts.{leaves, frame_runs, argument_words, ran}
use Rattle.machine_model.specs.Rules.{Enters, FrameLimit, FrameRuns, rule, raw}
use Rattle.machine_laws.proofs.Lemmas.{all-taken_at}
use Rattle.machine_laws.specs.Valid.{IsValidMachine}
use Rattle.deferred_queue.specs.QueueRecord.{QueueRecord}
use Rattle.machine_core.specs.Posts.{post_at_once, post_later}
use Rattle.machine_core.specs.FrameCalls.{called_by, next_step, post_call, refused_call, refused_frame, step_by, task_below}
use Rattle.machine_core.specs.MethodMachine.{next_machine}
use Rattle.machine_core.specs.MachineView.{machine_of, method_machine_of, hand_of, IsKept, IsFitHand, HasVectors}
use Rattle.machine_core.specs.Valid.{change, changed, most_task_steps}
use Rattle.machine_core.proofs.ComingLaws.{Comes, free-is}
use Rattle.machine_core.proofs.MachineFacts.{by_rule, none_fit, with_method}
use Rattle.machine_core.proofs.KeptLaws.{kept-change, next-same}
use Rattle.machine_core.proofs.FrameRules.{after-is, comes-runs, IsStep, step-runs, goes-direct, goes-deferred}

-- An interrupt enters.

entered-frames : (o : Option Interrupt) (i : Interrupt) (fs gs : List FrameRecord) → o ≡ Some i → option_map (λ x. entered x ∷ fs) o ≡ Some gs → gs ≡ entered i ∷ fs
entered-frames None i fs gs e g = cc
entered-frames (Some j) i fs gs e g = cc

module _ (a : Parts) (number : ℕ) (c : Comes a number) (n : Nest) (frames : option_map (λ i. entered i ∷ a.frames.frames) (waiting_at number a.frames.waiting) ≡ Some n.frames) (waiting : n.waiting ≡ without_number number a.frames.waiting) where
  frames-are : n.frames ≡ entered c.place.interrupt ∷ a.frames.frames
  frames-are = entered-frames (waiting_at number a.frames.waiting) c.place.interrupt a.frames.frames n.frames c.waits frames

  interrupts-are : interrupts n ≡ taken_at c.place.at (interrupts a.frames)
  interrupts-are = ap (λ ws. interrupts (record { frames = []; waiting = ws })) waiting ∙ c.taken

  enters-machine : method_machine_of (record a { frames = n }) ≡ changed (method_machine_of a)
  enters-machine = with_method a.method (rw (frames-are, interrupts-are) refl ∙ ap (λ (d : Change). d.machine) (sym (by_rule a.method (machine_of a) (Enters c.place) c.rule_is)))

  vectors-entered : HasVectors a.frames → HasVectors n
  vectors-entered h =
      let low : c.place.interrupt.vector < 32 = All-contains (λ (i : Interrupt). i.vector < 32) (interrupts a.frames) c.place.interrupt h.waiting c.there in
      record {
        frames = rw frames-are (All-cons (λ (f : FrameRecord). f.vector < 32) (entered c.place.interrupt) a.frames.frames low h.frames);
        waiting = rw interrupts-are (all-taken_at (λ (i : Interrupt). i.vector < 32) c.place.at (interrupts a.frames) h.waiting);
      }

  pub enters-kept : IsKept a → a.t < most_task_steps → IsKept (record a { frames = n })
  enters-kept k open_yet =
      kept-change a (record a { frames = n }) k open_yet enters-machine
      (record { kinds = refl; work = k.parts.work; size = k.parts.size; vectors = vectors-entered k.parts.vectors; looks = k.parts.looks })

  pub enters-next : method_machine_of (record a { frames = n }) ≡ next_machine (method_machine_of a)
  enters-next = next-same a (record a { frames = n }) enters-machine (ap raw c.rule_is)

-- what is told of it
told-of : (o : Option Interrupt) (i : Interrupt) (locked : Bool) (what : What) → o ≡ Some i → option_map (λ x. Irq x.vector x.level (is_step x.moment) locked) o ≡ Some what → what ≡ Irq i.vector i.level (is_step i.moment) locked
told-of None i locked what e t = cc
told-of (Some j) i locked what e t = cc

pub enters-line : (a : Parts) (number : ℕ) (c : Comes a number) (locked : Bool) (what : What) → option_map (λ i. Irq i.vector i.level (is_step i.moment) locked) (waiting_at number a.frames.waiting) ≡ Some what → locked ≡ not (a.kernel.state.lock == 0) → what ≡ (change a.method (machine_of a)).what
enters-line a number c locked what t e =
    told-of (waiting_at number a.frames.waiting) c.place.interrupt locked what c.waits t
    ∙ ap (λ b. Irq c.place.interrupt.vector c.place.interrupt.level (is_step c.place.interrupt.moment) b) e
    ∙ ap (λ (d : Change). d.what) (sym (by_rule a.method (machine_of a) (Enters c.place) c.rule_is))

-- whether the scheduler is locked
pub locked-is : (lock : ℕ) → nat_lt 0 lock ≡ not (lock == 0)
locked-is lock = elim (eqb_tells lock 0) [ inl e ↦ rw (e.0, e.1) refl | inr e ↦ rw e.0 (some lock e.1) ]
  where
    some : (n : ℕ) → (n ≡ 0 → ⊥) → nat_lt 0 n ≡ true
    some n d = elim (leb_tells 1 n) [ inl e ↦ e.0 | inr e ↦ absurd (omega (arith, e.1, d)) ]

-- The vectors stay within their numbers.

vectors-left : (a : Parts) (f : FrameRecord) (below : List FrameRecord) (n : Nest) → a.frames.frames ≡ f ∷ below → n ≡ record { frames = below; waiting = a.frames.waiting } → HasVectors a.frames → HasVectors n
vectors-left a f below n top e h = rw e (record { frames = All-tail (λ (g : FrameRecord). g.vector < 32) f below (rw top at h.frames); waiting = h.waiting })

pub vector-top : (a : Parts) (f : FrameRecord) (below : List FrameRecord) → a.frames.frames ≡ f ∷ below → HasVectors a.frames → f.vector < 32
vector-top a f below top h = All-head (λ (g : FrameRecord). g.vector < 32) f below (rw top at h.frames)

-- A frame leaves at its limit.

free-told : (a : Parts) (free : Bool) → free ≡ is_none a.kernel.hand → is_free (hand_of a.kernel.hand) ≡ free
free-told a free e = free-is a.kernel.hand ∙ sym e

module _ (a : Parts) (f : FrameRecord) (below : List FrameRecord) (k : IsKept a) (top : a.frames.frames ≡ f ∷ below) (r : rule a.method (machine_of a) ≡ FrameLimit f below) (n : Nest) (current : TaskId) (free : Bool) (nest : n ≡ record { frames = below; waiting = a.frames.waiting })
    (is_free : free ≡ is_none a.kernel.hand) (settles : current.0 ≡ task_below n.frames free a.kernel.state a.later.posts a.current.0) where
  limit-change : change a.method (machine_of a) ≡ leaves how.Limit f below (machine_of a)
  limit-change = by_rule a.method (machine_of a) (FrameLimit f below) r

  limit-state : machine_of (record a { frames = n; current = current }) ≡ (change a.method (machine_of a)).machine
  limit-state = rw (settles, nest, ← free-told a free is_free) refl ∙ sym (after-is (record (machine_of a) { frames = below })) ∙ ap (λ (d : Change). d.machine) (sym limit-change)

  pub limit-machine : method_machine_of (record a { frames = n; current = current }) ≡ changed (method_machine_of a)
  limit-machine = with_method a.method limit-state

  pub limit-line : Exit f.vector how.Limit ≡ (change a.method (machine_of a)).what
  limit-line = ap (λ (d : Change). d.what) (sym limit-change)

  pub limit-kept : a.t < most_task_steps → IsKept (record a { frames = n; current = current })
  limit-kept open_yet =
      kept-change a (record a { frames = n; current = current }) k open_yet limit-machine
      (record { kinds = refl; work = k.parts.work; size = k.parts.size; vectors = vectors-left a f below n top nest k.parts.vectors; looks = k.parts.looks })

-- The top frame runs one instruction.

-- these vectors are those of the frames before, or fewer
below-vectors : (f g : FrameRecord) (below : List FrameRecord) → All (λ x. x.vector < 32) (f ∷ below) → g.vector ≡ f.vector → All (λ x. x.vector < 32) (g ∷ below)
below-vectors f g below h same =
    let low = All-head (λ (x : FrameRecord). x.vector < 32) f below h in
    All-cons (λ (x : FrameRecord). x.vector < 32) g below (omega (arith, low, same)) (All-tail (λ (x : FrameRecord). x.vector < 32) f below h)

module _ {X : Type 0} (way : Service → List ℕ → X → Answer × X) (kinds : KindTable) (x : X) (f : FrameRecord) (below : List FrameRecord) (h : All (λ (g : FrameRecord). g.vector < 32) (f ∷ below)) where
  vectors-called : (s : Service) (args : List ℕ) (regs : Registers) → All (λ (g : FrameRecord). g.vector < 32) ((called_by way kinds s args f regs x).frame ∷ below)
  vectors-called s args regs = by (program_serves s) (is_post s)
    where
      by : (b c : Bool) → All (λ (g : FrameRecord). g.vector < 32) ((if b then (if c then post_call way kinds s args f regs x else refused_call way kinds s (interrupt_error s) f regs x) else refused_call way kinds s CallUnknown f regs x).frame ∷ below)
      by true true = below-vectors f (post_call way kinds s args f regs x).frame below h refl
      by true false = below-vectors f (refused_frame (interrupt_error s) f regs) below h refl
      by false c = below-vectors f (refused_frame CallUnknown f regs) below h refl

  vectors-next : (b : Bool) (regs : Registers) (marks memory : List ℕ) → All (λ (g : FrameRecord). g.vector < 32) (next_step way kinds b f below regs marks memory x).frames
  vectors-next true regs marks memory = All-tail (λ (g : FrameRecord). g.vector < 32) f below h
  vectors-next false regs marks memory = below-vectors f (ran f regs marks) below h refl

  vectors-step : (did : Stepped) (e : Execution) (marks memory : List ℕ) → All (λ (g : FrameRecord). g.vector < 32) (step_by way kinds did e f below marks memory x).frames
  vectors-step Next e marks memory = vectors-next (e.registers.pc == leave) e.registers marks memory
  vectors-step (Stored addr width value) e marks memory = below-vectors f (ran f e.registers marks) below h refl
  vectors-step Call e marks memory = vectors-called (service_of (read e.registers 17)) (argument_words e.registers) e.registers
  vectors-step (Trap kind pc) e marks memory = All-tail (λ (g : FrameRecord). g.vector < 32) f below h

-- What the rule of a frame that runs keeps, by either method.

-- the kernel of a machine, and its queue
abbrev kernel_of : Machine → KernelRecord
kernel_of m = record { state = m.kernel; registers = m.registers; hand = None }

abbrev queue_of : Machine → QueueRecord
queue_of m = record { posts = m.later; size = m.config.defer_size }

direct-is : (m : Machine) (f : FrameRecord) (below : List FrameRecord) → let e = exec m.code f.registers m.memory in IsStep (post_at_once (prio_of m.kernel m.current)) (λ (k : KernelRecord). k.state) (λ _. m.later) (frame_runs program_serves Direct f below m) (step_by (post_at_once (prio_of m.kernel m.current)) (kinds_of m.kernel) e.did e f below (marks_after (next_instruction m.code f.registers) f.marks) m.memory (kernel_of m))
direct-is m f below = step-runs (post_at_once (prio_of m.kernel m.current)) (λ (k : KernelRecord). k.state) (λ _. m.later) Direct m (kernel_of m) refl refl (λ s args. goes-direct m (kernel_of m) s args refl) f below

deferred-is : (m : Machine) (f : FrameRecord) (below : List FrameRecord) → let e = exec m.code f.registers m.memory in IsStep (post_later (prio_of m.kernel m.current)) (λ _. m.kernel) (λ (q : QueueRecord). q.posts) (frame_runs program_serves Deferred f below m) (step_by (post_later (prio_of m.kernel m.current)) (kinds_of m.kernel) e.did e f below (marks_after (next_instruction m.code f.registers) f.marks) m.memory (queue_of m))
deferred-is m f below = step-runs (post_later (prio_of m.kernel m.current)) (λ _. m.kernel) (λ (q : QueueRecord). q.posts) Deferred m (queue_of m) refl refl (λ s args. goes-deferred m (queue_of m) s args refl refl) f below

vectors-runs : (d : Method) (m : Machine) (f : FrameRecord) (below : List FrameRecord) → All (λ (g : FrameRecord). g.vector < 32) (f ∷ below) → All (λ (g : FrameRecord). g.vector < 32) (frame_runs program_serves d f below m).machine.frames
vectors-runs Direct m f below h =
    let e = exec m.code f.registers m.memory in
    subst (All (λ (g : FrameRecord). g.vector < 32)) (direct-is m f below).frames
    (vectors-step (post_at_once (prio_of m.kernel m.current)) (kinds_of m.kernel) (kernel_of m) f below h e.did e (marks_after (next_instruction m.code f.registers) f.marks) m.memory)
vectors-runs Deferred m f below h =
    let e = exec m.code f.registers m.memory in
    subst (All (λ (g : FrameRecord). g.vector < 32)) (deferred-is m f below).frames
    (vectors-step (post_later (prio_of m.kernel m.current)) (kinds_of m.kernel) (queue_of m) f below h e.did e (marks_after (next_instruction m.code f.registers) f.marks) m.memory)

-- by the direct method nothing is in hand while a frame stands, and by the deferred one its kernel stays
work-runs : (a : Parts) (f : FrameRecord) (below : List FrameRecord) (d : Method) → a.method ≡ d → IsKept a → a.frames.frames ≡ f ∷ below → IsFitHand a.config a.kernel.hand
work-runs a f below Direct e k top =
    let valid : IsValidMachine program_serves Direct (machine_of a) = subst (λ (d : Method). IsValidMachine program_serves d (machine_of a)) e k.valid in
    none_fit a.config a.kernel.hand (elim valid.fits.masked [ inl none ↦ none | inr none ↦ (let no : f ∷ below ≡ [] = sym top ∙ none in cc) ])
work-runs a f below Deferred e k top = k.parts.work

-- What a step of the top frame leaves is what the rule does: its parts, and the current task, which follows from them.
module _ (a : Parts) (f : FrameRecord) (below : List FrameRecord) (k : IsKept a) (top : a.frames.frames ≡ f ∷ below) (r : rule a.method (machine_of a) ≡ FrameRuns f below) where
  abbrev c : Change
  c = frame_runs program_serves a.method f below (machine_of a)

  pub runs-change : change a.method (machine_of a) ≡ c
  runs-change = by_rule a.method (machine_of a) (FrameRuns f below) r

  module _ (kernel : KernelRecord) (later : QueueRecord) (n : Nest) (ram : List ℕ) (current : TaskId) (free : Bool) (kernel_is : kernel ≡ with_state a.kernel c.machine.kernel) (later_is : later.posts ≡ c.machine.later) (nest : n ≡ record { frames = c.machine.frames; waiting = a.frames.waiting })
      (memory : ram ≡ c.machine.memory) (is_free : free ≡ is_none a.kernel.hand) (settles : current.0 ≡ task_below n.frames free kernel.state later.posts a.current.0) where
    runs-state : machine_of (record a { kernel = kernel; later = later; frames = n; ram = ram; current = current }) ≡ (change a.method (machine_of a)).machine
    runs-state =
        rw (settles, kernel_is, later_is, nest, memory, ← free-told a free is_free) refl
        ∙ sym (after-is (record (machine_of a) { kernel = c.machine.kernel; later = c.machine.later; frames = c.machine.frames; memory = c.machine.memory }))
        ∙ sym (comes-runs a.method f below (machine_of a)).machine ∙ ap (λ (d : Change). d.machine) (sym runs-change)

    pub runs-machine : method_machine_of (record a { kernel = kernel; later = later; frames = n; ram = ram; current = current }) ≡ changed (method_machine_of a)
    runs-machine = with_method a.method runs-state

    pub runs-kept : a.t < most_task_steps → later.size ≡ a.later.size → IsKept (record a { kernel = kernel; later = later; frames = n; ram = ram; current = current })
    runs-kept open_yet size =
        kept-change a (record a { kernel = kernel; later = later; frames = n; ram = ram; current = current }) k open_yet runs-machine
        (record {
          kinds = refl;
          work = rw kernel_is (work-runs a f below a.method refl k top);
          size = size ∙ k.parts.size;
          vectors = rw nest (record { frames = vectors-runs a.method (machine_of a) f below (rw top at k.parts.vectors.frames); waiting = k.parts.vectors.waiting });
          looks = k.parts.looks;
        })
