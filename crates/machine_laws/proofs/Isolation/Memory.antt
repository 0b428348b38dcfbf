-- What each rule changes of the memory; the code and the settings stay.
use Rattle.machine_laws.proofs.Common.{◌≡◌, Bool, ℕ, refl, List, [], ◌∙◌, ◌∷◌, None, Some, sym, arith, Option, ap, ◌+◌, ◌==◌, if◌then◌else◌, ◌&&◌, length, ◌-◌, length-set, leave, is_post, service_of, CallUnknown, Method, Finished, Outcome, Service, choice, cost, Kernel, task_at, idle_task, Execution, exec, Registers, read, Stepped, Call, Next, Stored, Trap, acts, works_in_units, idles, instructs, starts_unit, Change, FrameRecord, none_stands, frame_runs, without_top, argument_words, Machine, WholeStep, CallOf, TakeOf, UnitOf, Work, effect_of, registers_at, marks_after, next_instruction, next, rule, Rule, Begins, Enters, FrameRuns, FrameLimit, Looks, MicroStep, TakeBegins, TaskActs, done, settled, is_free, advances, Quiet}
use Rattle.std.specs.Prelude.{replicate, take}
use Rattle.std.proofs.Common.{◌++◌}
use Rattle.std.proofs.lemmas.List.{take-append-le, take_all}
use Rattle.kern_base.specs.Services.{interrupt_error}
use Rattle.kern_base.specs.declared.outcomes.UnitEnd.{UnitEnd}
use Rattle.kern_base.specs.declared.outcomes.UnitEnd.TheVariants as unit
use Rattle.kern_base.specs.declared.outcomes.Outcome.TheVariants as outcome
use Rattle.rv32_exec.specs.Changes.{Changes, IsUntouched}
use Rattle.rv32_exec.specs.declared.TrapKind.{TrapKind}
use Rattle.rv32_exec.proofs.ChangeLaws.{changes-exec}
use Rattle.machine_model.specs.declared.events.What.{What}
use Rattle.machine_model.specs.declared.events.What.TheVariants.{Start, Call as CallLine, Ret, Wait, Gone, St, Trap as TrapLine, Tick, Tmr, Fire, Irq, Post, ICall, Exit, Take, Look}
use Rattle.machine_model.specs.declared.events.How.{How}
use Rattle.machine_model.specs.declared.events.How.TheVariants as how
use Rattle.machine_model.specs.Answers.{entries, with_entries, with_entry, with_table}
use Rattle.machine_model.specs.Interrupts.{frame_calls, frame_did, frame_posts, frame_refused, leaves, ran}
use Rattle.machine_model.specs.Steps.{ends}
use Rattle.machine_laws.specs.Memory.{ChangesMemory, HasSameCode}

-- an instruction that traps changes nothing
pub trap-exec : (code : List ℕ) (regs : Registers) (memory : List ℕ) (kind : TrapKind) (pc : ℕ) → (exec code regs memory).did ≡ Trap kind pc → IsUntouched regs (exec code regs memory).registers memory (exec code regs memory).memory pc
trap-exec code regs memory kind pc e =
    let e2 = exec code regs memory in
    rw e at (changes-exec code regs memory)

-- a change, seen from the machine before it
record Told (m : Machine) (c : Change) : Type 0 where
  code : c.machine.code ≡ m.code
  config : c.machine.config ≡ m.config
  memory : ChangesMemory c.what m.memory c.machine.memory

-- a machine with the same code, settings and memory
record Keeps (m n : Machine) : Type 0 where
  code : n.code ≡ m.code
  config : n.config ≡ m.config
  memory : n.memory ≡ m.memory

kept : (m : Machine) → Keeps m m
kept m = record { code = refl; config = refl; memory = refl }

-- Frames.

keeps-without_top : (below : List FrameRecord) (m : Machine) → Keeps m (without_top below m)
keeps-without_top below m =
    let n : Machine = record m { frames = below } in
    choice (Keeps m) (none_stands below && is_free m.in_hand) (settled n) n (record { code = refl; config = refl; memory = refl }) (record { code = refl; config = refl; memory = refl })

told-leaves : (h : How) (f : FrameRecord) (below : List FrameRecord) (m : Machine) → Told m (leaves h f below m)
told-leaves h f below m = let k = keeps-without_top below m in record { code = k.code; config = k.config; memory = k.memory }

module _ (served : Service → Bool) (method : Method) (f : FrameRecord) (below : List FrameRecord) (m : Machine) where
  told-calls : (s : Service) (args : List ℕ) (regs : Registers) → Told m (frame_calls served method s args f below regs m)
  told-calls s args regs =
      let post = frame_posts served method s args f below regs m in
      let refuse = frame_refused served method s (interrupt_error s) f below regs m in
      let unknown = frame_refused served method s CallUnknown f below regs m in
      choice (Told m) (served s) (if is_post s then post else refuse) unknown
      (choice (Told m) (is_post s) post refuse (record { code = refl; config = refl; memory = refl }) (record { code = refl; config = refl; memory = refl }))
      (record { code = refl; config = refl; memory = refl })

  told-did : (did : Stepped) (e : Execution) (marks : List ℕ) → Changes did f.registers e.registers m.memory e.memory → Told m (frame_did served method did e f below marks m)
  told-did Next e marks c =
      choice (Told m) (e.registers.pc == leave) (leaves how.Ret f below m) (record { what = Quiet; machine = record m { frames = ran f e.registers marks ∷ below } })
      (told-leaves how.Ret f below m) (record { code = refl; config = refl; memory = refl })
  told-did (Stored addr width value) e marks c = record { code = refl; config = refl; memory = c }
  told-did Call e marks c = told-calls (service_of (read e.registers 17)) (argument_words e.registers) e.registers
  told-did (Trap kind pc) e marks c = told-leaves (how.Trap kind pc) f below m

  told-frame : Told m (frame_runs served method f below m)
  told-frame =
      let e = exec m.code f.registers m.memory in
      told-did e.did e (marks_after (next_instruction m.code f.registers) f.marks) (changes-exec m.code f.registers m.memory)

-- Answers.

-- the entries that are told of a table are those that were written
told_entries : (es : List (Option (ℕ × ℕ))) → take (length es) (es ++ replicate (8 - length es) None) ≡ es
told_entries es = take-append-le (length es) es (replicate (8 - length es) None) (omega arith) ∙ take_all (length es) es (omega arith)

told-table : (taken : Option Finished) (memory : List ℕ) → (table : ℕ) × (with_table taken memory ≡ with_entries (take (length (entries taken)) (entries taken ++ replicate (8 - length (entries taken)) None)) table memory)
told-table None memory = (0, refl)
told-table (Some f) memory = (f.table, ap (λ es. with_entries es f.table memory) (sym (told_entries (entries (Some f)))))

-- The whole step in hand.

told-unit : (u : UnitEnd) (x : ℕ) (k : Kernel) (m : Machine) → Told m (ends (UnitOf x) (outcome.Quiet u) k m)
told-unit (unit.Tick count) x k m = record { code = refl; config = refl; memory = refl }
told-unit (unit.TmrTick count) x k m = record { code = refl; config = refl; memory = refl }
told-unit (unit.Fire o) x k m = record { code = refl; config = refl; memory = refl }
told-unit unit.TmrEnd x k m = record { code = refl; config = refl; memory = refl }

told-ends : (w : Work) (o : Outcome) (k : Kernel) (m : Machine) → Told m (ends w o k m)
told-ends (CallOf x r p) (outcome.Answered a taken) k m = record { code = refl; config = refl; memory = told-table taken m.memory }
told-ends (CallOf x r p) outcome.Waits k m = record { code = refl; config = refl; memory = refl }
told-ends (CallOf x r p) outcome.Gone k m = record { code = refl; config = refl; memory = refl }
told-ends (CallOf x r p) (outcome.Quiet u) k m = record { code = refl; config = refl; memory = refl }
told-ends (UnitOf x) (outcome.Quiet u) k m = told-unit u x k m
told-ends (UnitOf x) (outcome.Answered a taken) k m = record { code = refl; config = refl; memory = refl }
told-ends (UnitOf x) outcome.Waits k m = record { code = refl; config = refl; memory = refl }
told-ends (UnitOf x) outcome.Gone k m = record { code = refl; config = refl; memory = refl }
told-ends (TakeOf q) o k m = record { code = refl; config = refl; memory = refl }

told-advances : (served : Service → Bool) (w : WholeStep) (m : Machine) → Told m (advances served w m)
told-advances served w m =
    let e = effect_of served m.config w.work m.kernel in
    choice (Told m) (w.done + 1 == cost e m.kernel) (ends w.work e.outcome e.kernel m) (record { what = Quiet; machine = record m { in_hand = Some (record { work = w.work; done = w.done + 1 }) } })
    (told-ends w.work e.outcome e.kernel m) (record { code = refl; config = refl; memory = refl })

-- The current task.

module _ (served : Service → Bool) (x : ℕ) (m : Machine) where
  told-instructs : (did : Stepped) (e : Execution) → Changes did (registers_at m x) e.registers m.memory e.memory → Told m (instructs served did x e m)
  told-instructs Next e c = record { code = refl; config = refl; memory = c }
  told-instructs (Stored addr width value) e c = record { code = refl; config = refl; memory = c }
  told-instructs Call e c = record { code = refl; config = refl; memory = c }
  told-instructs (Trap kind pc) e c = record { code = refl; config = refl; memory = c.memory }

  told-acts : (o : Option Finished) → Told m (acts served x o m)
  told-acts (Some f) = record { code = refl; config = refl; memory = told-table (Some f) m.memory }
  told-acts None =
      let e = exec m.code (registers_at m x) m.memory in
      let go = instructs served e.did x e m in
      choice (Told m) (x == idle_task) (idles m) (if works_in_units x m.kernel then starts_unit x m else go)
      (record { code = refl; config = refl; memory = refl })
      (choice (Told m) (works_in_units x m.kernel) (starts_unit x m) go (record { code = refl; config = refl; memory = refl }) (told-instructs e.did e (changes-exec m.code (registers_at m x) m.memory)))

-- Every rule.

module _ (served : Service → Bool) (method : Method) (m : Machine) where
  told-done : (r : Rule) → Told m (done served method r m)
  told-done Begins = record { code = refl; config = refl; memory = refl }
  told-done (Looks l) = record { code = refl; config = refl; memory = refl }
  told-done (Enters p) = record { code = refl; config = refl; memory = refl }
  told-done (FrameLimit f below) = told-leaves how.Limit f below m
  told-done (FrameRuns f below) = told-frame served method f below m
  told-done (MicroStep w) = told-advances served w m
  told-done (TakeBegins q) = record { code = refl; config = refl; memory = refl }
  told-done TaskActs = told-acts served m.current m (task_at m.kernel m.current).answered

  pub memory-next : ChangesMemory (next served method m).0.what m.memory (next served method m).1.memory
  memory-next = (told-done (rule method m)).memory

-- The size of the memory.

size-entry : (e : Option (ℕ × ℕ)) (addr : ℕ) (memory : List ℕ) → length (with_entry e addr memory) ≡ length memory
size-entry None addr memory = length-set _ _ _ ∙ (length-set _ _ _ ∙ length-set _ _ _)
size-entry (Some taken) addr memory = length-set _ _ _ ∙ (length-set _ _ _ ∙ length-set _ _ _)

size-entries : (es : List (Option (ℕ × ℕ))) (addr : ℕ) (memory : List ℕ) → length (with_entries es addr memory) ≡ length memory
size-entries [] addr memory = refl
size-entries (e ∷ es) addr memory = size-entries es (addr + 16) (with_entry e addr memory) ∙ size-entry e addr memory

size-changes : (what : What) (before after : List ℕ) → ChangesMemory what before after → length after ≡ length before
size-changes (St who addr width value) before after c = ap length c.memory ∙ length-set _ _ _
size-changes (Ret task service err value size tab n_tab) before after c = ap length c.1 ∙ size-entries (take n_tab tab) c.0 before
size-changes Quiet before after c = ap length c
size-changes (Start task) before after c = ap length c
size-changes (CallLine task service args n_args) before after c = ap length c
size-changes (Wait task service) before after c = ap length c
size-changes (Gone task) before after c = ap length c
size-changes (TrapLine task kind pc) before after c = ap length c
size-changes (Tick count) before after c = ap length c
size-changes (Tmr count) before after c = ap length c
size-changes (Fire o) before after c = ap length c
size-changes (Irq vector level by_step locked) before after c = ap length c
size-changes (Post vector service args n_args err value) before after c = ap length c
size-changes (ICall vector service err) before after c = ap length c
size-changes (Exit vector h) before after c = ap length c
size-changes (Take service args n_args err value same) before after c = ap length c
size-changes (Look seen forward n_forward back n_back) before after c = ap length c

pub code-next : (served : Service → Bool) (method : Method) (m : Machine) → HasSameCode m (next served method m).1
code-next served method m =
    let t = told-done served method m (rule method m) in
    record { code = t.code; config = t.config; size = size-changes (next served method m).0.what m.memory (next served method m).1.memory (memory-next served method m) }
