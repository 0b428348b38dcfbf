-- What any event does to the counts: raw steps are counted by the rule alone, and there is at most one task step.
use Rattle.std.specs.Prelude.{if◌then◌else◌, ◌==◌, ◌&&◌}
use Rattle.std.proofs.Common.{◌≡◌, ◌≤◌, ℕ, ◌+◌, Bool, List, ◌∷◌, Option, Some, None, refl, arith}
use Rattle.kern_base.specs.declared.kinds.Method.{Method}
use Rattle.kern_base.specs.declared.services.Service.{Service}
use Rattle.kern_base.specs.declared.errors.OsErr.TheVariants.{CallUnknown}
use Rattle.kern_base.specs.declared.outcomes.Finished.{Finished}
use Rattle.kern_base.specs.declared.outcomes.Outcome.{Outcome}
use Rattle.kern_base.specs.declared.outcomes.Outcome.TheVariants.{Answered, Waits, Gone, Quiet as QuietOutcome}
use Rattle.kern_base.specs.Services.{is_post, service_of, interrupt_error}
use Rattle.kern_model.specs.State.{Kernel, task_at, idle_task}
use Rattle.kern_model.specs.Services.{cost}
use Rattle.kern_model.proofs.Lemmas.{choice}
use Rattle.rv32_exec.specs.Registers.{Registers, read}
use Rattle.rv32_exec.specs.Exec.{Execution, exec}
use Rattle.rv32_exec.specs.declared.Stepped.{Stepped}
use Rattle.rv32_exec.specs.declared.Stepped.TheVariants.{Next, Call, Trap, Stored}
use Rattle.kern_base.specs.Numbers.{leave}
use Rattle.machine_model.specs.Frames.{FrameRecord, none_stands}
use Rattle.machine_model.specs.Marks.{marks_after, next_instruction}
use Rattle.machine_model.specs.declared.events.How.TheVariants as how
use Rattle.machine_model.specs.declared.events.What.TheVariants.{Quiet}
use Rattle.machine_model.specs.Machine.{Machine, Work, CallOf, UnitOf, TakeOf, WholeStep, registers_at, effect_of}
use Rattle.machine_model.specs.Answers.{Change}
use Rattle.machine_model.specs.Settling.{settled, is_free}
use Rattle.machine_model.specs.Interrupts.{without_top, leaves, frame_goes_on, frame_calls, frame_posts, frame_refused, frame_did, argument_words, ran}
use Rattle.machine_model.specs.Steps.{call_ends, unit_ends, ends, advances}
use Rattle.machine_model.specs.Acts.{acts, instructs, idles, starts_unit, works_in_units}
use Rattle.machine_model.specs.Rules.{Rule, Begins, Looks, Enters, FrameLimit, FrameRuns, MicroStep, TakeBegins, TaskActs, rule, done, next}

-- the raw steps are the same, and there is at most one task step more
pub record Counts (m n : Machine) : Type 0 where
  pub s : n.s ≡ m.s
  pub t : n.t ≤ m.t + 1

-- both counts are the same
same : (m n : Machine) → n.s ≡ m.s → n.t ≡ m.t → Counts m n
same m n s t = record { s = s; t = omega (arith, t) }

-- there is a task step more
more : (m n : Machine) → n.s ≡ m.s → n.t ≡ m.t + 1 → Counts m n
more m n s t = record { s = s; t = omega (arith, t) }

-- Interrupt code.

counts-without_top : (below : List FrameRecord) (m : Machine) → Counts m (without_top below m)
counts-without_top below m =
    let n = record m { frames = below } in
    choice (Counts m) (none_stands below && is_free m.in_hand) (settled n) n (same m (settled n) refl refl) (same m n refl refl)

module _ (served : Service → Bool) (method : Method) where
  counts-frame_goes_on : (f : FrameRecord) (below : List FrameRecord) (regs : Registers) (marks : List ℕ) (m : Machine) → Counts m (frame_goes_on served method f below regs marks m).machine
  counts-frame_goes_on f below regs marks m =
      choice (λ (c : Change). Counts m c.machine) (regs.pc == leave) (leaves how.Ret f below m) (record { what = Quiet; machine = record m { frames = ran f regs marks ∷ below } })
      (counts-without_top below m) (same m _ refl refl)

  counts-frame_calls : (s : Service) (args : List ℕ) (f : FrameRecord) (below : List FrameRecord) (regs : Registers) (m : Machine) → Counts m (frame_calls served method s args f below regs m).machine
  counts-frame_calls s args f below regs m =
      let posts = frame_posts served method s args f below regs m in
      let refuses = frame_refused served method s (interrupt_error s) f below regs m in
      let unknown = frame_refused served method s CallUnknown f below regs m in
      choice (λ (c : Change). Counts m c.machine) (served s) (if is_post s then posts else refuses) unknown
      (choice (λ (c : Change). Counts m c.machine) (is_post s) posts refuses (same m posts.machine refl refl) (same m refuses.machine refl refl))
      (same m unknown.machine refl refl)

  counts-frame_did : (did : Stepped) (e : Execution) (f : FrameRecord) (below : List FrameRecord) (marks : List ℕ) (m : Machine) → Counts m (frame_did served method did e f below marks m).machine
  counts-frame_did Next e f below marks m = counts-frame_goes_on f below e.registers marks m
  counts-frame_did (Stored addr width value) e f below marks m = same m (frame_did served method (Stored addr width value) e f below marks m).machine refl refl
  counts-frame_did Call e f below marks m = counts-frame_calls (service_of (read e.registers 17)) (argument_words e.registers) f below e.registers m
  counts-frame_did (Trap kind pc) e f below marks m = counts-without_top below m

-- The whole step in hand.

counts-call_ends : (x : ℕ) (s : Service) (o : Outcome) (k : Kernel) (m : Machine) → Counts m (call_ends x s o k m).machine
counts-call_ends x s (Answered a taken) k m = more m (call_ends x s (Answered a taken) k m).machine refl refl
counts-call_ends x s Waits k m = more m (call_ends x s Waits k m).machine refl refl
counts-call_ends x s Gone k m = more m (call_ends x s Gone k m).machine refl refl
counts-call_ends x s (QuietOutcome end) k m = more m (call_ends x s (QuietOutcome end) k m).machine refl refl

counts-unit_ends : (o : Outcome) (k : Kernel) (m : Machine) → Counts m (unit_ends o k m).machine
counts-unit_ends (Answered a taken) k m = more m (unit_ends (Answered a taken) k m).machine refl refl
counts-unit_ends Waits k m = more m (unit_ends Waits k m).machine refl refl
counts-unit_ends Gone k m = more m (unit_ends Gone k m).machine refl refl
counts-unit_ends (QuietOutcome end) k m = more m (unit_ends (QuietOutcome end) k m).machine refl refl

counts-ends : (work : Work) (o : Outcome) (k : Kernel) (m : Machine) → Counts m (ends work o k m).machine
counts-ends (CallOf x r p) o k m = counts-call_ends x r.service o k m
counts-ends (UnitOf x) o k m = counts-unit_ends o k m
counts-ends (TakeOf q) o k m = same m (ends (TakeOf q) o k m).machine refl refl

counts-advances : (served : Service → Bool) (w : WholeStep) (m : Machine) → Counts m (advances served w m).machine
counts-advances served w m =
    let e = effect_of served m.config w.work m.kernel in
    choice (λ (c : Change). Counts m c.machine) (w.done + 1 == cost e m.kernel) (ends w.work e.outcome e.kernel m)
    (record { what = Quiet; machine = record m { in_hand = Some (record { work = w.work; done = w.done + 1 }) } }) (counts-ends w.work e.outcome e.kernel m) (same m _ refl refl)

-- The current task.

counts-instructs : (served : Service → Bool) (did : Stepped) (x : ℕ) (e : Execution) (m : Machine) → Counts m (instructs served did x e m).machine
counts-instructs served Next x e m = more m (instructs served Next x e m).machine refl refl
counts-instructs served (Stored addr width value) x e m = more m (instructs served (Stored addr width value) x e m).machine refl refl
counts-instructs served Call x e m = same m (instructs served Call x e m).machine refl refl
counts-instructs served (Trap kind pc) x e m = more m (instructs served (Trap kind pc) x e m).machine refl refl

counts-acts : (served : Service → Bool) (x : ℕ) (o : Option Finished) (m : Machine) → Counts m (acts served x o m).machine
counts-acts served x (Some f) m = more m (acts served x (Some f) m).machine refl refl
counts-acts served x None m =
    let e = exec m.code (registers_at m x) m.memory in
    let runs = instructs served e.did x e m in
    choice (λ (c : Change). Counts m c.machine) (x == idle_task) (idles m) (if works_in_units x m.kernel then starts_unit x m else runs) (more m (idles m).machine refl refl)
    (choice (λ (c : Change). Counts m c.machine) (works_in_units x m.kernel) (starts_unit x m) runs (same m (starts_unit x m).machine refl refl) (counts-instructs served e.did x e m))

-- Any rule.

module _ (served : Service → Bool) (method : Method) where
  pub counts-done : (r : Rule) (m : Machine) → Counts m (done served method r m).machine
  counts-done Begins m = same m (done served method Begins m).machine refl refl
  counts-done (Looks l) m = same m (done served method (Looks l) m).machine refl refl
  counts-done (Enters p) m = same m (done served method (Enters p) m).machine refl refl
  counts-done (FrameLimit f below) m = counts-without_top below m
  counts-done (FrameRuns f below) m =
      let e = exec m.code f.registers m.memory in
      counts-frame_did served method e.did e f below (marks_after (next_instruction m.code f.registers) f.marks) m
  counts-done (MicroStep w) m = counts-advances served w m
  counts-done (TakeBegins q) m = same m (done served method (TakeBegins q) m).machine refl refl
  counts-done TaskActs m = counts-acts served m.current (task_at m.kernel m.current).answered m

  -- Every event does at most one task step.
  pub t-next : (m : Machine) → (next served method m).1.t ≤ m.t + 1
  t-next m = (counts-done (rule method m) m).t
