-- The current task stays, or it is the one that the scheduler picks then; so it is one of the 64.
use Rattle.std.specs.Prelude.{if◌then◌else◌, ◌==◌, ◌&&◌}
use Rattle.std.proofs.Common.{◌≡◌, ◌⊎◌, inl, inr, ◌<◌, ℕ, ◌+◌, Bool, true, false, List, ◌∷◌, Option, Some, None, refl, arith}
use Rattle.kern_base.specs.declared.kinds.Method.{Method}
use Rattle.kern_base.specs.declared.services.Service.{Service}
use Rattle.kern_base.specs.declared.errors.OsErr.TheVariants.{CallUnknown}
use Rattle.kern_base.specs.declared.outcomes.Finished.{Finished}
use Rattle.kern_base.specs.declared.outcomes.Outcome.{Outcome}
use Rattle.kern_base.specs.declared.outcomes.Outcome.TheVariants.{Answered, Waits, Gone, Quiet as QuietOutcome}
use Rattle.kern_base.specs.Services.{is_post, service_of, interrupt_error}
use Rattle.kern_model.specs.State.{Kernel, task_at, idle_task, pick}
use Rattle.kern_model.specs.Valid.{IsLinked}
use Rattle.kern_model.specs.Services.{cost}
use Rattle.kern_model.proofs.Lemmas.{choice}
use Rattle.rv32_exec.specs.Registers.{Registers, read}
use Rattle.rv32_exec.specs.Exec.{Execution, exec}
use Rattle.rv32_exec.specs.declared.Stepped.{Stepped}
use Rattle.rv32_exec.specs.declared.Stepped.TheVariants.{Next, Call, Trap, Stored}
use Rattle.kern_base.specs.Numbers.{leave}
use Rattle.machine_model.specs.Frames.{FrameRecord, none_stands}
use Rattle.machine_model.specs.Marks.{marks_after, next_instruction}
use Rattle.machine_model.specs.declared.events.How.TheVariants as how
use Rattle.machine_model.specs.declared.events.What.TheVariants.{Quiet}
use Rattle.machine_model.specs.Machine.{Machine, Work, CallOf, UnitOf, TakeOf, WholeStep, registers_at, effect_of}
use Rattle.machine_model.specs.Answers.{Change}
use Rattle.machine_model.specs.Settling.{settled, is_free, none_waits}
use Rattle.machine_model.specs.Interrupts.{without_top, leaves, frame_goes_on, frame_calls, frame_posts, frame_refused, frame_did, argument_words, ran}
use Rattle.machine_model.specs.Steps.{call_ends, unit_ends, ends, advances}
use Rattle.machine_model.specs.Acts.{acts, instructs, idles, starts_unit, works_in_units}
use Rattle.machine_model.specs.Rules.{Rule, Begins, Looks, Enters, FrameLimit, FrameRuns, MicroStep, TakeBegins, TaskActs, done}
use Rattle.machine_laws.proofs.Lemmas.{ready-pick, ready-below}

-- the current task is x, or the one that the scheduler picks
abbrev Stays : ℕ → Machine → Type 0
Stays x n = (n.current ≡ x) ⊎ (n.current ≡ pick n.kernel)

stays-task : (b : Bool) (k : Kernel) (x : ℕ) → ((if b then pick k else x) ≡ x) ⊎ ((if b then pick k else x) ≡ pick k)
stays-task true k x = inr refl
stays-task false k x = inl refl

stays-settled : (m : Machine) → Stays m.current (settled m)
stays-settled m = stays-task ((m.kernel.lock == 0) && none_waits m.later) m.kernel m.current

-- interrupt code

stays-without_top : (below : List FrameRecord) (m : Machine) → Stays m.current (without_top below m)
stays-without_top below m =
    let n = record m { frames = below } in
    choice (Stays m.current) (none_stands below && is_free m.in_hand) (settled n) n (stays-settled n) (inl refl)

module _ (served : Service → Bool) (method : Method) where
  stays-frame_goes_on : (f : FrameRecord) (below : List FrameRecord) (regs : Registers) (marks : List ℕ) (m : Machine) → Stays m.current (frame_goes_on served method f below regs marks m).machine
  stays-frame_goes_on f below regs marks m =
      choice (λ (c : Change). Stays m.current c.machine) (regs.pc == leave) (leaves how.Ret f below m) (record { what = Quiet; machine = record m { frames = ran f regs marks ∷ below } })
      (stays-without_top below m) (inl refl)

  stays-frame_calls : (s : Service) (args : List ℕ) (f : FrameRecord) (below : List FrameRecord) (regs : Registers) (m : Machine) → Stays m.current (frame_calls served method s args f below regs m).machine
  stays-frame_calls s args f below regs m =
      let posts = frame_posts served method s args f below regs m in
      let refuses = frame_refused served method s (interrupt_error s) f below regs m in
      let unknown = frame_refused served method s CallUnknown f below regs m in
      choice (λ (c : Change). Stays m.current c.machine) (served s) (if is_post s then posts else refuses) unknown
      (choice (λ (c : Change). Stays m.current c.machine) (is_post s) posts refuses (inl refl) (inl refl))
      (inl refl)

  stays-frame_did : (did : Stepped) (e : Execution) (f : FrameRecord) (below : List FrameRecord) (marks : List ℕ) (m : Machine) → Stays m.current (frame_did served method did e f below marks m).machine
  stays-frame_did Next e f below marks m = stays-frame_goes_on f below e.registers marks m
  stays-frame_did (Stored addr width value) e f below marks m = inl refl
  stays-frame_did Call e f below marks m = stays-frame_calls (service_of (read e.registers 17)) (argument_words e.registers) f below e.registers m
  stays-frame_did (Trap kind pc) e f below marks m = stays-without_top below m

-- the whole step in hand

stays-call_ends : (x : ℕ) (s : Service) (o : Outcome) (k : Kernel) (m : Machine) → Stays m.current (call_ends x s o k m).machine
stays-call_ends x s (Answered a taken) k m = stays-task ((k.lock == 0) && none_waits m.later) k m.current
stays-call_ends x s Waits k m = stays-task ((k.lock == 0) && none_waits m.later) k m.current
stays-call_ends x s Gone k m = stays-task ((k.lock == 0) && none_waits m.later) k m.current
stays-call_ends x s (QuietOutcome end) k m = stays-task ((k.lock == 0) && none_waits m.later) k m.current

stays-unit_ends : (o : Outcome) (k : Kernel) (m : Machine) → Stays m.current (unit_ends o k m).machine
stays-unit_ends (Answered a taken) k m = stays-task ((k.lock == 0) && none_waits m.later) k m.current
stays-unit_ends Waits k m = stays-task ((k.lock == 0) && none_waits m.later) k m.current
stays-unit_ends Gone k m = stays-task ((k.lock == 0) && none_waits m.later) k m.current
stays-unit_ends (QuietOutcome end) k m = stays-task ((k.lock == 0) && none_waits m.later) k m.current

stays-ends : (work : Work) (o : Outcome) (k : Kernel) (m : Machine) → Stays m.current (ends work o k m).machine
stays-ends (CallOf x r p) o k m = stays-call_ends x r.service o k m
stays-ends (UnitOf x) o k m = stays-unit_ends o k m
stays-ends (TakeOf q) o k m =
    let n = ends (TakeOf q) o k m in
    stays-task ((k.lock == 0) && none_waits n.machine.later) k m.current

stays-advances : (served : Service → Bool) (w : WholeStep) (m : Machine) → Stays m.current (advances served w m).machine
stays-advances served w m =
    let e = effect_of served m.config w.work m.kernel in
    choice (λ (c : Change). Stays m.current c.machine) (w.done + 1 == cost e m.kernel) (ends w.work e.outcome e.kernel m)
    (record { what = Quiet; machine = record m { in_hand = Some (record { work = w.work; done = w.done + 1 }) } }) (stays-ends w.work e.outcome e.kernel m) (inl refl)

-- the current task

stays-instructs : (served : Service → Bool) (did : Stepped) (x : ℕ) (e : Execution) (m : Machine) → Stays m.current (instructs served did x e m).machine
stays-instructs served Next x e m = inl refl
stays-instructs served (Stored addr width value) x e m = inl refl
stays-instructs served Call x e m = inl refl
stays-instructs served (Trap kind pc) x e m =
    let n = instructs served (Trap kind pc) x e m in
    stays-task ((n.machine.kernel.lock == 0) && none_waits m.later) n.machine.kernel m.current

stays-acts : (served : Service → Bool) (x : ℕ) (o : Option Finished) (m : Machine) → Stays m.current (acts served x o m).machine
stays-acts served x (Some f) m = inl refl
stays-acts served x None m =
    let e = exec m.code (registers_at m x) m.memory in
    let runs = instructs served e.did x e m in
    choice (λ (c : Change). Stays m.current c.machine) (x == idle_task) (idles m) (if works_in_units x m.kernel then starts_unit x m else runs) (inl refl)
    (choice (λ (c : Change). Stays m.current c.machine) (works_in_units x m.kernel) (starts_unit x m) runs (inl refl) (stays-instructs served e.did x e m))

-- any rule
module _ (served : Service → Bool) (method : Method) where
  stays-done : (r : Rule) (m : Machine) → Stays m.current (done served method r m).machine
  stays-done Begins m = inl refl
  stays-done (Looks l) m = inl refl
  stays-done (Enters p) m = inl refl
  stays-done (FrameLimit f below) m = stays-without_top below m
  stays-done (FrameRuns f below) m =
      let e = exec m.code f.registers m.memory in
      stays-frame_did served method e.did e f below (marks_after (next_instruction m.code f.registers) f.marks) m
  stays-done (MicroStep w) m = stays-advances served w m
  stays-done (TakeBegins q) m = inl refl
  stays-done TaskActs m = stays-acts served m.current (task_at m.kernel m.current).answered m

pub pick-below : (k : Kernel) → IsLinked k → pick k < 64
pick-below k v = let below = ready-below k v (pick k) (ready-pick k v) in omega (arith, below)

-- of a machine whose kernel is then linked
pub current-done : (served : Service → Bool) (method : Method) (r : Rule) (m : Machine) → m.current < 64 → IsLinked (done served method r m).machine.kernel → (done served method r m).machine.current < 64
current-done served method r m before linked = by (stays-done served method r m)
  where
    by : Stays m.current (done served method r m).machine → (done served method r m).machine.current < 64
    by (inl same) = omega (arith, same, before)
    by (inr picked) = let below = pick-below (done served method r m).machine.kernel linked in omega (arith, picked, below)
