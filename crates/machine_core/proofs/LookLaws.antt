-- What becomes of the looks to come: one that is told is gone, and nothing else changes them.
use Rattle.std.specs.Prelude.{if◌then◌else◌, ◌==◌, ◌&&◌, All}
use Rattle.std.proofs.Common.{◌≡◌, ℕ, ◌+◌, Bool, true, false, List, [], ◌∷◌, Option, Some, None, refl, arith, subst}
use Rattle.std.proofs.lemmas.List.Elements.{All-head, All-tail}
use Rattle.kern_base.specs.declared.kinds.Method.{Method}
use Rattle.kern_base.specs.declared.services.Service.{Service}
use Rattle.kern_base.specs.declared.errors.OsErr.TheVariants.{CallUnknown}
use Rattle.kern_base.specs.declared.outcomes.Finished.{Finished}
use Rattle.kern_base.specs.declared.outcomes.Outcome.{Outcome}
use Rattle.kern_base.specs.declared.outcomes.Outcome.TheVariants.{Answered, Waits, Gone, Quiet as QuietOutcome}
use Rattle.kern_base.specs.Services.{is_post, service_of, interrupt_error}
use Rattle.kern_base.specs.Numbers.{leave}
use Rattle.kern_model.specs.State.{Kernel, task_at, idle_task}
use Rattle.kern_model.specs.Services.{cost}
use Rattle.kern_model.proofs.Lemmas.{choice}
use Rattle.rv32_exec.specs.Registers.{Registers, read}
use Rattle.rv32_exec.specs.Exec.{Execution, exec}
use Rattle.rv32_exec.specs.declared.Stepped.{Stepped}
use Rattle.rv32_exec.specs.declared.Stepped.TheVariants.{Next, Call, Trap, Stored}
use Rattle.inject_list.specs.declared.lists.Look.{Look}
use Rattle.due_looks.proofs.LookLaws.{none-due, without-keeps}
use Rattle.machine_model.specs.Frames.{FrameRecord, none_stands}
use Rattle.machine_model.specs.Looks.{look_at, without_look}
use Rattle.machine_model.specs.Marks.{marks_after, next_instruction}
use Rattle.machine_model.specs.declared.events.How.TheVariants as how
use Rattle.machine_model.specs.declared.events.What.TheVariants.{Quiet}
use Rattle.machine_model.specs.Machine.{Machine, Work, CallOf, UnitOf, TakeOf, WholeStep, registers_at, effect_of}
use Rattle.machine_model.specs.Answers.{Change}
use Rattle.machine_model.specs.Settling.{settled, is_free}
use Rattle.machine_model.specs.Interrupts.{without_top, leaves, frame_goes_on, frame_calls, frame_posts, frame_refused, frame_did, argument_words, ran}
use Rattle.machine_model.specs.Steps.{call_ends, unit_ends, ends, advances}
use Rattle.machine_model.specs.Acts.{acts, instructs, idles, starts_unit, works_in_units}
use Rattle.machine_model.specs.Rules.{Rule, Begins, Looks, Enters, FrameLimit, FrameRuns, MicroStep, TakeBegins, TaskActs, done, raw}
use Rattle.machine_laws.specs.RuleTable.{Applies}
use Rattle.machine_core.specs.LookView.{IsToCome}

-- the looks after a rule
abbrev pub looks_after : Rule → Machine → List Look
looks_after (Looks l) m = without_look m.s m.looks
looks_after r m = m.looks

-- the looks are the same
abbrev Same : Machine → Machine → Type 0
Same m n = n.looks ≡ m.looks

abbrev SameBy : Machine → Change → Type 0
SameBy m c = c.machine.looks ≡ m.looks

-- interrupt code

same-without_top : (below : List FrameRecord) (m : Machine) → Same m (without_top below m)
same-without_top below m =
    let n = record m { frames = below } in
    choice (Same m) (none_stands below && is_free m.in_hand) (settled n) n refl refl

module _ (served : Service → Bool) (method : Method) where
  same-frame_goes_on : (f : FrameRecord) (below : List FrameRecord) (regs : Registers) (marks : List ℕ) (m : Machine) → SameBy m (frame_goes_on served method f below regs marks m)
  same-frame_goes_on f below regs marks m =
      choice (SameBy m) (regs.pc == leave) (leaves how.Ret f below m) (record { what = Quiet; machine = record m { frames = ran f regs marks ∷ below } })
      (same-without_top below m) refl

  same-frame_calls : (s : Service) (args : List ℕ) (f : FrameRecord) (below : List FrameRecord) (regs : Registers) (m : Machine) → SameBy m (frame_calls served method s args f below regs m)
  same-frame_calls s args f below regs m =
      let posts = frame_posts served method s args f below regs m in
      let refuses = frame_refused served method s (interrupt_error s) f below regs m in
      let unknown = frame_refused served method s CallUnknown f below regs m in
      choice (SameBy m) (served s) (if is_post s then posts else refuses) unknown (choice (SameBy m) (is_post s) posts refuses refl refl) refl

  same-frame_did : (did : Stepped) (e : Execution) (f : FrameRecord) (below : List FrameRecord) (marks : List ℕ) (m : Machine) → SameBy m (frame_did served method did e f below marks m)
  same-frame_did Next e f below marks m = same-frame_goes_on f below e.registers marks m
  same-frame_did (Stored addr width value) e f below marks m = refl
  same-frame_did Call e f below marks m = same-frame_calls (service_of (read e.registers 17)) (argument_words e.registers) f below e.registers m
  same-frame_did (Trap kind pc) e f below marks m = same-without_top below m

-- the whole step in hand

same-call_ends : (x : ℕ) (s : Service) (o : Outcome) (k : Kernel) (m : Machine) → SameBy m (call_ends x s o k m)
same-call_ends x s (Answered a taken) k m = refl
same-call_ends x s Waits k m = refl
same-call_ends x s Gone k m = refl
same-call_ends x s (QuietOutcome end) k m = refl

same-unit_ends : (o : Outcome) (k : Kernel) (m : Machine) → SameBy m (unit_ends o k m)
same-unit_ends (Answered a taken) k m = refl
same-unit_ends Waits k m = refl
same-unit_ends Gone k m = refl
same-unit_ends (QuietOutcome end) k m = refl

same-ends : (work : Work) (o : Outcome) (k : Kernel) (m : Machine) → SameBy m (ends work o k m)
same-ends (CallOf x r p) o k m = same-call_ends x r.service o k m
same-ends (UnitOf x) o k m = same-unit_ends o k m
same-ends (TakeOf q) o k m = refl

same-advances : (served : Service → Bool) (w : WholeStep) (m : Machine) → SameBy m (advances served w m)
same-advances served w m =
    let e = effect_of served m.config w.work m.kernel in
    choice (SameBy m) (w.done + 1 == cost e m.kernel) (ends w.work e.outcome e.kernel m)
    (record { what = Quiet; machine = record m { in_hand = Some (record { work = w.work; done = w.done + 1 }) } }) (same-ends w.work e.outcome e.kernel m) refl

-- the current task

same-instructs : (served : Service → Bool) (did : Stepped) (x : ℕ) (e : Execution) (m : Machine) → SameBy m (instructs served did x e m)
same-instructs served Next x e m = refl
same-instructs served (Stored addr width value) x e m = refl
same-instructs served Call x e m = refl
same-instructs served (Trap kind pc) x e m = refl

same-acts : (served : Service → Bool) (x : ℕ) (o : Option Finished) (m : Machine) → SameBy m (acts served x o m)
same-acts served x (Some f) m = refl
same-acts served x None m =
    let e = exec m.code (registers_at m x) m.memory in
    let runs = instructs served e.did x e m in
    choice (SameBy m) (x == idle_task) (idles m) (if works_in_units x m.kernel then starts_unit x m else runs) refl
    (choice (SameBy m) (works_in_units x m.kernel) (starts_unit x m) runs refl (same-instructs served e.did x e m))

-- any rule
module _ (served : Service → Bool) (method : Method) where
  pub looks-done : (r : Rule) (m : Machine) → (done served method r m).machine.looks ≡ looks_after r m
  looks-done Begins m = refl
  looks-done (Looks l) m = refl
  looks-done (Enters p) m = refl
  looks-done (FrameLimit f below) m = same-without_top below m
  looks-done (FrameRuns f below) m =
      let e = exec m.code f.registers m.memory in
      same-frame_did served method e.did e f below (marks_after (next_instruction m.code f.registers) f.marks) m
  looks-done (MicroStep w) m = same-advances served w m
  looks-done (TakeBegins q) m = refl
  looks-done TaskActs m = same-acts served m.current (task_at m.kernel m.current).answered m

-- No look to come lies before the raw step.

pub to_come-after : (r : Rule) (m : Machine) → All (IsToCome m.s) m.looks → All (IsToCome m.s) (looks_after r m)
to_come-after (Looks l) m h = without-keeps (IsToCome m.s) m.s m.looks h
to_come-after Begins m h = h
to_come-after (Enters p) m h = h
to_come-after (FrameLimit f below) m h = h
to_come-after (FrameRuns f below) m h = h
to_come-after (MicroStep w) m h = h
to_come-after (TakeBegins q) m h = h
to_come-after TaskActs m h = h

-- nor before the next one, where a rule takes one
pub to_come-step : (method : Method) (r : Rule) (m : Machine) → Applies method r m → raw r ≡ 1 → All (IsToCome m.s) m.looks → All (IsToCome (m.s + 1)) (looks_after r m)
to_come-step method Begins m a one h = absurd (omega (arith, one))
to_come-step method (Looks l) m a one h = absurd (omega (arith, one))
to_come-step method (Enters p) m a one h = absurd (omega (arith, one))
to_come-step method (FrameLimit f below) m a one h = absurd (omega (arith, one))
to_come-step method (FrameRuns f below) m a one h = none-due m.s m.looks h a.0.comes.no_look
to_come-step method (MicroStep w) m a one h = none-due m.s m.looks h a.comes.no_look
to_come-step method (TakeBegins q) m a one h = none-due m.s m.looks h a.0.comes.no_look
to_come-step method TaskActs m a one h = none-due m.s m.looks h a.0.comes.no_look

-- A look that is told is one of those to come.
pub look-of : (P : Look → Type 0) (s : ℕ) (ls : List Look) (l : Look) → look_at s ls ≡ Some l → All P ls → P l
look-of P s [] l e h = cc
look-of P s (k ∷ ls) l e h = at (k.at == s) (λ d. look-of P s ls l d (All-tail P k ls h)) e
  where
    at : (b : Bool) → (look_at s ls ≡ Some l → P l) → (if b then Some k else look_at s ls) ≡ Some l → P l
    at true rest d = let same : k ≡ l = cc in subst P same (All-head P k ls h)
    at false rest d = rest d
