-- The machines that each rule comes to: what holds of each of them holds after the rule.
use Rattle.machine_laws.proofs.Common.{◌≡◌, Bool, ℕ, refl, true, List, [], false, ◌∷◌, None, Some, arith, Option, ◌+◌, ◌≢◌, ◌==◌, if◌then◌else◌, length, All, ◌^◌, slice_set, ◌%◌, length-set, All-nil, All-cons, Config, leave, is_post, service_of, CallUnknown, Method, Finished, Outcome, Request, Service, choice, choice_by, equal, unequal, cost, Kernel, task_at, prio_of, idle_task, Content, Execution, exec, Registers, read, Stepped, Call, Next, Stored, Trap, acts, works_in_units, idles, instructs, starts_unit, Change, FrameRecord, frame_runs, without_top, argument_words, Machine, WholeStep, CallOf, TakeOf, UnitOf, Work, effect_of, registers_at, marks_after, next_instruction, settled, advances, Quiet}
use Rattle.kern_base.specs.Services.{interrupt_error}
use Rattle.kern_base.specs.declared.outcomes.UnitEnd.{UnitEnd}
use Rattle.kern_base.specs.declared.outcomes.UnitEnd.TheVariants as unit
use Rattle.kern_base.specs.declared.outcomes.Outcome.TheVariants as outcome
use Rattle.kern_model.specs.State.{Timed, object_at}
use Rattle.kern_model.specs.Finish.{finished}
use Rattle.kern_model.specs.Valid.{IsWord}
use Rattle.machine_model.specs.Queue.{without_front}
use Rattle.machine_model.specs.declared.events.How.TheVariants as how
use Rattle.machine_model.specs.Interrupts.{leaves, frame_did, frame_calls, frame_posts, frame_refused, posting, ran}
use Rattle.machine_model.specs.Steps.{ends, begins, after_fire, with_callback}
use Rattle.machine_model.specs.Acts.{after_instruction, trapped, request_of}

-- the words of a0 to a3 are words
pub word-arguments : (regs : Registers) → All IsWord (argument_words regs)
word-arguments regs =
    let a = read regs 10 % 2 ^ 32 in
    let b = read regs 11 % 2 ^ 32 in
    let c = read regs 12 % 2 ^ 32 in
    let d = read regs 13 % 2 ^ 32 in
    All-cons IsWord a (b ∷ c ∷ d ∷ []) (omega arith) (All-cons IsWord b (c ∷ d ∷ []) (omega arith) (All-cons IsWord c (d ∷ []) (omega arith) (All-cons IsWord d [] (omega arith) (All-nil IsWord))))

-- An instruction of the top frame: the frame leaves, or it stands on, with one instruction more, where the memory or
-- nothing else has changed, or a post was made.
pub record AfterFrame (served : Service → Bool) (method : Method) (f : FrameRecord) (below : List FrameRecord) (m : Machine) (P : Machine → Type 0) : Type 0 where
  pub left : P (without_top below m)
  pub ran : (g : FrameRecord) (memory : List ℕ) → g.used ≡ f.used + 1 → g.level ≡ f.level → P (record m { memory = memory; frames = g ∷ below })
  pub posted : (g : FrameRecord) (s : Service) (args : List ℕ) → All IsWord args → g.used ≡ f.used + 1 → g.level ≡ f.level → is_post s ≡ true → P (record m { kernel = (posting served method s args m).kernel; later = (posting served method s args m).later; frames = g ∷ below })

module _ (served : Service → Bool) (method : Method) (f : FrameRecord) (below : List FrameRecord) (m : Machine) (P : Machine → Type 0) (h : AfterFrame served method f below m P) where
  abbrev By : Change → Type 0
  By c = P c.machine

  case-calls : (s : Service) (args : List ℕ) (regs : Registers) → All IsWord args → By (frame_calls served method s args f below regs m)
  case-calls s args regs words =
      let post = frame_posts served method s args f below regs m in
      let refuse = frame_refused served method s (interrupt_error s) f below regs m in
      let unknown = frame_refused served method s CallUnknown f below regs m in
      choice By (served s) (if is_post s then post else refuse) unknown
      (choice_by By (is_post s) post refuse (h.posted _ s args words refl refl) (λ _. h.ran _ m.memory refl refl))
      (h.ran _ m.memory refl refl)

  case-did : (did : Stepped) (e : Execution) (marks : List ℕ) → By (frame_did served method did e f below marks m)
  case-did Next e marks =
      choice By (e.registers.pc == leave) (leaves how.Ret f below m) (record { what = Quiet; machine = record m { frames = ran f e.registers marks ∷ below } }) h.left (h.ran _ m.memory refl refl)
  case-did (Stored addr width value) e marks = h.ran _ e.memory refl refl
  case-did Call e marks = case-calls (service_of (read e.registers 17)) (argument_words e.registers) e.registers (word-arguments e.registers)
  case-did (Trap kind pc) e marks = h.left

  pub after-frame : P (frame_runs served method f below m).machine
  after-frame = let e = exec m.code f.registers m.memory in case-did e.did e (marks_after (next_instruction m.code f.registers) f.marks)

-- The end of a whole step: of a call or a unit with a task step, and maybe other registers and memory; of a take without.
abbrev pub EndsIn : Work → Kernel → Machine → (Machine → Type 0) → Type 0
EndsIn (CallOf x r p) k m P = (registers : List Registers) (memory : List ℕ) → length registers ≡ length m.registers → P (settled (record m { kernel = k; registers = registers; memory = memory; in_hand = None; t = m.t + 1 }))
EndsIn (UnitOf x) k m P = (registers : List Registers) → length registers ≡ length m.registers → P (settled (record m { kernel = k; registers = registers; in_hand = None; t = m.t + 1 }))
EndsIn (TakeOf q) k m P = P (settled (record m { kernel = k; in_hand = None; later = without_front m.later }))

length-with_callback : (config : Config) (o : ℕ) (callback : Option ℕ) (argument : ℕ) (registers : List Registers) → length (with_callback config o callback argument registers) ≡ length registers
length-with_callback config o None argument registers = refl
length-with_callback config o (Some address) argument registers = length-set registers 61 _

length-after_fire : (config : Config) (o : ℕ) (c : Content) (registers : List Registers) → length (after_fire config o c registers) ≡ length registers
length-after_fire config o (Timed t) registers = length-with_callback config o t.callback t.argument registers
length-after_fire config o _ registers = refl

unit-ends : (x : ℕ) (u : UnitEnd) (k : Kernel) (m : Machine) (P : Machine → Type 0) → EndsIn (UnitOf x) k m P → P (ends (UnitOf x) (outcome.Quiet u) k m).machine
unit-ends x (unit.Tick count) k m P h = h m.registers refl
unit-ends x (unit.TmrTick count) k m P h = h m.registers refl
unit-ends x (unit.Fire o) k m P h = h (after_fire m.config o.0 (object_at m.kernel o.0).content m.registers) (length-after_fire m.config o.0 (object_at m.kernel o.0).content m.registers)
unit-ends x unit.TmrEnd k m P h = h m.registers refl

pub after-ends : (w : Work) (o : Outcome) (k : Kernel) (m : Machine) (P : Machine → Type 0) → EndsIn w k m P → P (ends w o k m).machine
after-ends (CallOf x r p) (outcome.Answered a taken) k m P h = h (slice_set m.registers x _) _ (length-set m.registers x _)
after-ends (CallOf x r p) outcome.Waits k m P h = h m.registers m.memory refl
after-ends (CallOf x r p) outcome.Gone k m P h = h m.registers m.memory refl
after-ends (CallOf x r p) (outcome.Quiet u) k m P h = h m.registers m.memory refl
after-ends (UnitOf x) (outcome.Quiet u) k m P h = unit-ends x u k m P h
after-ends (UnitOf x) (outcome.Answered a taken) k m P h = h m.registers refl
after-ends (UnitOf x) outcome.Waits k m P h = h m.registers refl
after-ends (UnitOf x) outcome.Gone k m P h = h m.registers refl
after-ends (TakeOf q) o k m P h = h

-- A micro-step of the whole step in hand: another one follows, or it ends.
pub after-advances : (served : Service → Bool) (w : WholeStep) (m : Machine) (P : Machine → Type 0) → let e = effect_of served m.config w.work m.kernel in (w.done + 1 ≢ cost e m.kernel → P (record m { in_hand = Some (record { work = w.work; done = w.done + 1 }) })) → (w.done + 1 ≡ cost e m.kernel → EndsIn w.work e.kernel m P) → P (advances served w m).machine
after-advances served w m P more last =
    let e = effect_of served m.config w.work m.kernel in
    choice_by (λ (c : Change). P c.machine) (w.done + 1 == cost e m.kernel) (ends w.work e.outcome e.kernel m) (record { what = Quiet; machine = record m { in_hand = Some (record { work = w.work; done = w.done + 1 }) } })
    (λ t. after-ends w.work e.outcome e.kernel m P (last (equal (w.done + 1) (cost e m.kernel) t)))
    (λ t. more (unequal (w.done + 1) (cost e m.kernel) t))

-- No result waits for task x, which is neither idle nor has a unit of work to do.
pub record Instructs (x : ℕ) (m : Machine) : Type 0 where
  pub answered : (task_at m.kernel x).answered ≡ None
  pub not_idle : x ≢ 62
  pub no_unit : works_in_units x m.kernel ≡ false

-- What task x does: it reads a result, idles, begins a unit of work, or runs one instruction, which may be a call or a trap.
pub record AfterAct (x : ℕ) (m : Machine) (P : Machine → Type 0) : Type 0 where
  pub finishes : (registers : List Registers) (memory : List ℕ) → length registers ≡ length m.registers → P (record m { kernel = finished x m.kernel; registers = registers; memory = memory; t = m.t + 1 })
  pub idles : x ≡ 62 → P (record m { t = m.t + 1 })
  pub works : x ≢ 62 → works_in_units x m.kernel ≡ true → P (begins (UnitOf x) m)
  pub runs : Instructs x m → (pc : ℕ) (registers : List Registers) (memory : List ℕ) → length registers ≡ length m.registers → P (record m { kernel = after_instruction x pc m.kernel; registers = registers; memory = memory; t = m.t + 1 })
  pub calls : Instructs x m → (r : Request) (registers : List Registers) (memory : List ℕ) → length registers ≡ length m.registers → P (begins (CallOf x r (prio_of m.kernel x)) (record m { registers = registers; memory = memory }))
  pub traps : Instructs x m → (memory : List ℕ) → P (settled (record m { kernel = trapped x m.kernel; memory = memory; t = m.t + 1 }))

module _ (served : Service → Bool) (x : ℕ) (m : Machine) (P : Machine → Type 0) (h : AfterAct x m P) where
  case-instructs : (did : Stepped) (e : Execution) → Instructs x m → P (instructs served did x e m).machine
  case-instructs Next e i = h.runs i e.registers.pc (slice_set m.registers x e.registers) e.memory (length-set m.registers x e.registers)
  case-instructs (Stored addr width value) e i = h.runs i e.registers.pc (slice_set m.registers x e.registers) e.memory (length-set m.registers x e.registers)
  case-instructs Call e i = h.calls i (request_of served e.registers e.memory) (slice_set m.registers x e.registers) e.memory (length-set m.registers x e.registers)
  case-instructs (Trap kind pc) e i = h.traps i e.memory

  pub after-acts : (o : Option Finished) → (task_at m.kernel x).answered ≡ o → P (acts served x o m).machine
  after-acts (Some f) a = h.finishes (slice_set m.registers x _) _ (length-set m.registers x _)
  after-acts None a =
      let e = exec m.code (registers_at m x) m.memory in
      let go = instructs served e.did x e m in
      let P_ : Change → Type 0 = λ c. P c.machine in
      choice_by P_ (x == idle_task) (idles m) (if works_in_units x m.kernel then starts_unit x m else go)
      (λ t. h.idles (equal x 62 t))
      (λ t. choice_by P_ (works_in_units x m.kernel) (starts_unit x m) go (h.works (unequal x 62 t)) (λ u. case-instructs e.did e (record { answered = a; not_idle = unequal x 62 t; no_unit = u })))
