-- The lines of any event have room, where those of a look have.
use Rattle.std.specs.Prelude.{if◌then◌else◌, ◌==◌}
use Rattle.std.proofs.Common.{◌≡◌, ℕ, ◌+◌, Bool, List, ◌∷◌, Option, Some, None, refl, sym, subst, ◌∙◌}
use Rattle.kern_base.specs.declared.kinds.Method.{Method}
use Rattle.kern_base.specs.declared.services.Service.{Service}
use Rattle.kern_base.specs.declared.errors.OsErr.TheVariants.{CallUnknown}
use Rattle.kern_base.specs.declared.outcomes.Finished.{Finished}
use Rattle.kern_base.specs.declared.outcomes.UnitEnd.{UnitEnd}
use Rattle.kern_base.specs.declared.outcomes.UnitEnd.TheVariants as unit
use Rattle.kern_base.specs.declared.outcomes.Outcome.{Outcome}
use Rattle.kern_base.specs.declared.outcomes.Outcome.TheVariants.{Answered, Waits, Gone, Quiet as QuietOutcome}
use Rattle.kern_base.specs.Services.{is_post, service_of, interrupt_error}
use Rattle.kern_model.specs.State.{Kernel, task_at, idle_task}
use Rattle.kern_model.specs.Services.{cost}
use Rattle.kern_model.proofs.Lemmas.{choice}
use Rattle.rv32_exec.specs.Registers.{Registers, read}
use Rattle.rv32_exec.specs.Exec.{Execution, exec}
use Rattle.rv32_exec.specs.declared.Stepped.{Stepped}
use Rattle.rv32_exec.specs.declared.Stepped.TheVariants.{Next, Call, Trap, Stored}
use Rattle.kern_base.specs.Numbers.{leave}
use Rattle.inject_list.specs.declared.lists.Look.{Look}
use Rattle.machine_model.specs.Frames.{FrameRecord}
use Rattle.machine_model.specs.Marks.{marks_after, next_instruction}
use Rattle.machine_model.specs.declared.events.How.TheVariants as how
use Rattle.machine_model.specs.declared.events.What.TheVariants.{Quiet}
use Rattle.machine_model.specs.Machine.{Machine, Work, CallOf, UnitOf, TakeOf, WholeStep, registers_at, effect_of}
use Rattle.machine_model.specs.Answers.{Change}
use Rattle.machine_model.specs.Interrupts.{leaves, frame_goes_on, frame_calls, frame_posts, frame_refused, frame_did, argument_words, ran}
use Rattle.machine_model.specs.Steps.{call_ends, unit_ends, unit_line, ends, advances}
use Rattle.machine_model.specs.Acts.{acts, instructs, idles, starts_unit, works_in_units}
use Rattle.machine_model.specs.Looks.{looks, look_at}
use Rattle.machine_model.specs.Rules.{Rule, Begins, Looks, Enters, FrameLimit, FrameRuns, MicroStep, TakeBegins, TaskActs, rule, done}
use Rattle.machine_model.specs.Text.{IsPrintable}
use Rattle.machine_laws.specs.RuleTable.{ALookIsHere, Applies}
use Rattle.machine_laws.proofs.Lemmas.{applies}

abbrev Printable : Change → Type 0
Printable c = IsPrintable c.what

-- Interrupt code.

module _ (served : Service → Bool) (method : Method) where
  printable-frame_goes_on : (f : FrameRecord) (below : List FrameRecord) (regs : Registers) (marks : List ℕ) (m : Machine) → Printable (frame_goes_on served method f below regs marks m)
  printable-frame_goes_on f below regs marks m = choice Printable (regs.pc == leave) (leaves how.Ret f below m) (record { what = Quiet; machine = record m { frames = ran f regs marks ∷ below } }) tt tt

  printable-frame_calls : (s : Service) (args : List ℕ) (f : FrameRecord) (below : List FrameRecord) (regs : Registers) (m : Machine) → Printable (frame_calls served method s args f below regs m)
  printable-frame_calls s args f below regs m =
      let posts = frame_posts served method s args f below regs m in
      let refuses = frame_refused served method s (interrupt_error s) f below regs m in
      let unknown = frame_refused served method s CallUnknown f below regs m in
      choice Printable (served s) (if is_post s then posts else refuses) unknown (choice Printable (is_post s) posts refuses tt tt) tt

  printable-frame_did : (did : Stepped) (e : Execution) (f : FrameRecord) (below : List FrameRecord) (marks : List ℕ) (m : Machine) → Printable (frame_did served method did e f below marks m)
  printable-frame_did Next e f below marks m = printable-frame_goes_on f below e.registers marks m
  printable-frame_did (Stored addr width value) e f below marks m = tt
  printable-frame_did Call e f below marks m = printable-frame_calls (service_of (read e.registers 17)) (argument_words e.registers) f below e.registers m
  printable-frame_did (Trap kind pc) e f below marks m = tt

-- The whole step in hand.

printable-call_ends : (x : ℕ) (s : Service) (o : Outcome) (k : Kernel) (m : Machine) → Printable (call_ends x s o k m)
printable-call_ends x s (Answered a taken) k m = tt
printable-call_ends x s Waits k m = tt
printable-call_ends x s Gone k m = tt
printable-call_ends x s (QuietOutcome end) k m = tt

printable-unit_line : (end : UnitEnd) → IsPrintable (unit_line end)
printable-unit_line (unit.Tick count) = tt
printable-unit_line (unit.TmrTick count) = tt
printable-unit_line (unit.Fire o) = tt
printable-unit_line unit.TmrEnd = tt

printable-unit_ends : (o : Outcome) (k : Kernel) (m : Machine) → Printable (unit_ends o k m)
printable-unit_ends (Answered a taken) k m = tt
printable-unit_ends Waits k m = tt
printable-unit_ends Gone k m = tt
printable-unit_ends (QuietOutcome end) k m = printable-unit_line end

printable-ends : (work : Work) (o : Outcome) (k : Kernel) (m : Machine) → Printable (ends work o k m)
printable-ends (CallOf x r p) o k m = printable-call_ends x r.service o k m
printable-ends (UnitOf x) o k m = printable-unit_ends o k m
printable-ends (TakeOf q) o k m = tt

printable-advances : (served : Service → Bool) (w : WholeStep) (m : Machine) → Printable (advances served w m)
printable-advances served w m =
    let e = effect_of served m.config w.work m.kernel in
    choice Printable (w.done + 1 == cost e m.kernel) (ends w.work e.outcome e.kernel m) (record { what = Quiet; machine = record m { in_hand = Some (record { work = w.work; done = w.done + 1 }) } }) (printable-ends w.work e.outcome e.kernel m) tt

-- The current task.

printable-instructs : (served : Service → Bool) (did : Stepped) (x : ℕ) (e : Execution) (m : Machine) → Printable (instructs served did x e m)
printable-instructs served Next x e m = tt
printable-instructs served (Stored addr width value) x e m = tt
printable-instructs served Call x e m = tt
printable-instructs served (Trap kind pc) x e m = tt

printable-acts : (served : Service → Bool) (x : ℕ) (o : Option Finished) (m : Machine) → Printable (acts served x o m)
printable-acts served x (Some f) m = tt
printable-acts served x None m =
    let e = exec m.code (registers_at m x) m.memory in
    let runs = instructs served e.did x e m in
    choice Printable (x == idle_task) (idles m) (if works_in_units x m.kernel then starts_unit x m else runs) tt (choice Printable (works_in_units x m.kernel) (starts_unit x m) runs tt (printable-instructs served e.did x e m))

-- Any rule.

module _ (served : Service → Bool) (method : Method) where
  pub printable-done : (r : Rule) (m : Machine) → ((l : Look) → r ≡ Looks l → Printable (looks served l m)) → Printable (done served method r m)
  printable-done Begins m look = tt
  printable-done (Looks l) m look = look l refl
  printable-done (Enters p) m look = tt
  printable-done (FrameLimit f below) m look = tt
  printable-done (FrameRuns f below) m look =
      let e = exec m.code f.registers m.memory in
      printable-frame_did served method e.did e f below (marks_after (next_instruction m.code f.registers) f.marks) m
  printable-done (MicroStep w) m look = printable-advances served w m
  printable-done (TakeBegins q) m look = tt
  printable-done TaskActs m look = printable-acts served m.current (task_at m.kernel m.current).answered m

  -- where no look has this moment
  pub printable-next : (m : Machine) → look_at m.s m.looks ≡ None → IsPrintable (done served method (rule method m) m).what
  printable-next m none =
      printable-done (rule method m) m
      (λ l e.
      let a : ALookIsHere l m = subst (λ (r : Rule). Applies method r m) e (applies method m) in
      let no : None ≡ Some l = sym none ∙ a.look in
      cc)
