-- What interrupt code and traps leave alone.
use Rattle.machine_laws.proofs.Common.{◌≡◌, Bool, ℕ, refl, true, List, [], false, ◌∙◌, ◌∷◌, None, Some, sym, Option, ap, inl, inr, ◌+◌, ◌==◌, if◌then◌else◌, ◌&&◌, length, nat_lt, false≢true, static_error, leave, is_post, service_of, OsErr, CallUnknown, Method, Deferred, Finished, Outcome, Service, choice, cost, Kernel, task_at, prio_of, idle_task, kinds_of, Execution, exec, Registers, read, Stepped, Call, Next, Stored, Trap, acts, works_in_units, idles, instructs, starts_unit, Change, FrameRecord, none_stands, frame_runs, without_top, argument_words, checked_post, queues, Machine, WholeStep, CallOf, TakeOf, UnitOf, Work, effect_of, registers_at, marks_after, next_instruction, Queued, next, rule, Rule, Begins, Enters, FrameRuns, FrameLimit, Looks, MicroStep, TakeBegins, TaskActs, done, settled, is_free, advances, Quiet}
use Rattle.std.proofs.Common.{◌++◌}
use Rattle.kern_base.specs.declared.numbers.TaskId.{TaskId}
use Rattle.kern_base.specs.Services.{interrupt_error}
use Rattle.kern_base.specs.declared.outcomes.UnitEnd.{UnitEnd}
use Rattle.kern_base.specs.declared.outcomes.UnitEnd.TheVariants as unit
use Rattle.kern_base.specs.declared.outcomes.Outcome.TheVariants as outcome
use Rattle.rv32_exec.specs.declared.TrapKind.{TrapKind}
use Rattle.machine_model.specs.Queue.{queued}
use Rattle.machine_model.specs.declared.events.How.{How}
use Rattle.machine_model.specs.declared.events.How.TheVariants as how
use Rattle.machine_model.specs.declared.events.What.{What}
use Rattle.machine_model.specs.declared.events.What.TheVariants.{Exit, Trap as TrapLine}
use Rattle.machine_model.specs.Interrupts.{leaves, frame_did, frame_calls, frame_posts, frame_refused, ran}
use Rattle.machine_model.specs.Steps.{ends, unit_ends}
use Rattle.machine_laws.specs.Isolation.{HasSameWords, IsIsolated, HasAtMostOneMore, IsInterruptCode, IsEntry, IsEntryAlone, IsLeavingAlone}
use Rattle.machine_laws.proofs.Isolation.Memory.{trap-exec}

-- A frame leaves.

pub isolated-same : (m : Machine) (frames : List FrameRecord) → IsIsolated m (record m { frames = frames })
isolated-same m frames = record { kernel = refl; registers = refl; in_hand = refl; looks = refl; begun = refl; t = refl; code = refl; config = refl }

alone-without_top : (below : List FrameRecord) (m : Machine) → IsLeavingAlone m (without_top below m)
alone-without_top below m =
    let n : Machine = record m { frames = below } in
    choice (IsLeavingAlone m) (none_stands below && is_free m.in_hand) (settled n) n
    (record { isolated = record { kernel = refl; registers = refl; in_hand = refl; looks = refl; begun = refl; t = refl; code = refl; config = refl }; memory = refl; later = refl })
    (record { isolated = isolated-same m below; memory = refl; later = refl })

-- Under the deferred method a frame's instruction changes nothing of the kernel.

-- the kernel stays, and the queue has at most one post more
record IsQueuing (old : Kernel) (before : List Queued) (new : Kernel) (after : List Queued) : Type 0 where
  kernel : new ≡ old
  later : HasAtMostOneMore before after

queuing-queues : (size : ℕ) (q : Queued) (k : Kernel) (later : List Queued) → let p = queues (queued size q later) k later in IsQueuing k later p.kernel p.later
queuing-queues size q k later =
    choice (λ (o : Option (List Queued)). let p = queues o k later in IsQueuing k later p.kernel p.later) (nat_lt (length later) size) (Some (later ++ q ∷ [])) None
    (record { kernel = refl; later = inr (q, refl) })
    (record { kernel = refl; later = inl refl })

queuing-checked : (served : Service → Bool) (e : Option OsErr) (s : Service) (args : List ℕ) (m : Machine) → let p = checked_post served Deferred e s args m in IsQueuing m.kernel m.later p.kernel p.later
queuing-checked served (Some err) s args m = record { kernel = refl; later = inl refl }
queuing-checked served None s args m = queuing-queues m.config.defer_size (record { service = s; args = args; saved = prio_of m.kernel m.current }) m.kernel m.later

-- what a frame's instruction leaves alone
record IsApart (m n : Machine) : Type 0 where
  isolated : IsIsolated m n
  later : HasAtMostOneMore m.later n.later

abbrev ApartBy : Machine → Change → Type 0
ApartBy m c = IsApart m c.machine

apart-leaves : (h : How) (f : FrameRecord) (below : List FrameRecord) (m : Machine) → ApartBy m (leaves h f below m)
apart-leaves h f below m =
    let a = alone-without_top below m in
    record { isolated = a.isolated; later = inl a.later }

apart-posts : (served : Service → Bool) (s : Service) (args : List ℕ) (f : FrameRecord) (below : List FrameRecord) (regs : Registers) (m : Machine) → ApartBy m (frame_posts served Deferred s args f below regs m)
apart-posts served s args f below regs m =
    let q = queuing-checked served (static_error s args (kinds_of m.kernel) false) s args m in
    record {
      isolated = record { kernel = q.kernel; registers = refl; in_hand = refl; looks = refl; begun = refl; t = refl; code = refl; config = refl };
      later = q.later;
    }

apart-refused : (s : Service) (err : OsErr) (f : FrameRecord) (below : List FrameRecord) (regs : Registers) (served : Service → Bool) (m : Machine) → ApartBy m (frame_refused served Deferred s err f below regs m)
apart-refused s err f below regs served m =
    record { isolated = record { kernel = refl; registers = refl; in_hand = refl; looks = refl; begun = refl; t = refl; code = refl; config = refl }; later = inl refl }

apart-calls : (served : Service → Bool) (s : Service) (args : List ℕ) (f : FrameRecord) (below : List FrameRecord) (regs : Registers) (m : Machine) → ApartBy m (frame_calls served Deferred s args f below regs m)
apart-calls served s args f below regs m =
    let post = frame_posts served Deferred s args f below regs m in
    let refuse = frame_refused served Deferred s (interrupt_error s) f below regs m in
    let unknown = frame_refused served Deferred s CallUnknown f below regs m in
    choice (ApartBy m) (served s) (if is_post s then post else refuse) unknown
    (choice (ApartBy m) (is_post s) post refuse (apart-posts served s args f below regs m) (apart-refused s (interrupt_error s) f below regs served m))
    (apart-refused s CallUnknown f below regs served m)

apart-did : (served : Service → Bool) (did : Stepped) (e : Execution) (f : FrameRecord) (below : List FrameRecord) (marks : List ℕ) (m : Machine) → ApartBy m (frame_did served Deferred did e f below marks m)
apart-did served Next e f below marks m =
    let goes : Change = record { what = Quiet; machine = record m { frames = ran f e.registers marks ∷ below } } in
    choice (ApartBy m) (e.registers.pc == leave) (leaves how.Ret f below m) goes (apart-leaves how.Ret f below m) (record { isolated = isolated-same m (ran f e.registers marks ∷ below); later = inl refl })
apart-did served (Stored addr width value) e f below marks m =
    record { isolated = record { kernel = refl; registers = refl; in_hand = refl; looks = refl; begun = refl; t = refl; code = refl; config = refl }; later = inl refl }
apart-did served Call e f below marks m = apart-calls served (service_of (read e.registers 17)) (argument_words e.registers) f below e.registers m
apart-did served (Trap kind pc) e f below marks m = apart-leaves (how.Trap kind pc) f below m

apart-done : (served : Service → Bool) (r : Rule) (m : Machine) → IsInterruptCode r → ApartBy m (done served Deferred r m)
apart-done served Begins m h = absurd h
apart-done served (Looks l) m h = absurd h
apart-done served (Enters p) m h = record { isolated = record { kernel = refl; registers = refl; in_hand = refl; looks = refl; begun = refl; t = refl; code = refl; config = refl }; later = inl refl }
apart-done served (FrameLimit f below) m h = apart-leaves how.Limit f below m
apart-done served (FrameRuns f below) m h =
    let e = exec m.code f.registers m.memory in
    apart-did served e.did e f below (marks_after (next_instruction m.code f.registers) f.marks) m
apart-done served (MicroStep w) m h = absurd h
apart-done served (TakeBegins q) m h = absurd h
apart-done served TaskActs m h = absurd h

-- the raw steps do not count
isolated-s : (m n : Machine) (s : ℕ) → IsIsolated m n → IsIsolated m (record n { s = s })
isolated-s m n s h = record { kernel = h.kernel; registers = h.registers; in_hand = h.in_hand; looks = h.looks; begun = h.begun; t = h.t; code = h.code; config = h.config }

pub isolated-next : (served : Service → Bool) (m : Machine) → IsInterruptCode (rule Deferred m) → IsIsolated m (next served Deferred m).1 × HasAtMostOneMore m.later (next served Deferred m).1.later
isolated-next served m h =
    let a = apart-done served (rule Deferred m) m h in
    (isolated-s m (done served Deferred (rule Deferred m) m).machine _ a.isolated, a.later)

-- The entry of an interrupt.

entry-done : (served : Service → Bool) (method : Method) (r : Rule) (m : Machine) → IsEntry r → IsEntryAlone m (done served method r m).machine
entry-done served method (Enters p) m h = record { isolated = record { kernel = refl; registers = refl; in_hand = refl; looks = refl; begun = refl; t = refl; code = refl; config = refl }; memory = refl; later = refl; current = refl }
entry-done served method Begins m h = absurd h
entry-done served method (Looks l) m h = absurd h
entry-done served method (FrameLimit f below) m h = absurd h
entry-done served method (FrameRuns f below) m h = absurd h
entry-done served method (MicroStep w) m h = absurd h
entry-done served method (TakeBegins q) m h = absurd h
entry-done served method TaskActs m h = absurd h

pub entry-next : (served : Service → Bool) (method : Method) (m : Machine) → IsEntry (rule method m) → IsEntryAlone m (next served method m).1
entry-next served method m h =
    let a = entry-done served method (rule method m) m h in
    record { isolated = isolated-s m (done served method (rule method m) m).machine _ a.isolated; memory = a.memory; later = a.later; current = a.current }

-- Which events tell of a task's trap, and which of a frame's leaving.

abbrev is_trap : What → Bool
is_trap (TrapLine x kind pc) = true
is_trap what = false

abbrev is_exit : What → Bool
is_exit (Exit vector h) = true
is_exit what = false

-- what holds of a change whose event passes a test
abbrev WhereIt : (What → Bool) → (Machine → Machine → Type 0) → Machine → Change → Type 0
WhereIt tells P m c = tells c.what ≡ true → P m c.machine

trap-instructs : (served : Service → Bool) (did : Stepped) (x : ℕ) (e : Execution) (m : Machine) → ((kind : TrapKind) (pc : ℕ) → did ≡ Trap kind pc → e.memory ≡ m.memory) → WhereIt is_trap HasSameWords m (instructs served did x e m)
trap-instructs served Next x e m h = λ t. absurd (false≢true t)
trap-instructs served (Stored addr width value) x e m h = λ t. absurd (false≢true t)
trap-instructs served Call x e m h = λ t. absurd (false≢true t)
trap-instructs served (Trap kind pc) x e m h = λ t. record { registers = refl; memory = h kind pc refl }

trap-acts : (served : Service → Bool) (x : ℕ) (o : Option Finished) (m : Machine) → WhereIt is_trap HasSameWords m (acts served x o m)
trap-acts served x (Some f) m = λ t. absurd (false≢true t)
trap-acts served x None m =
    let e = exec m.code (registers_at m x) m.memory in
    let go = instructs served e.did x e m in
    choice (WhereIt is_trap HasSameWords m) (x == idle_task) (idles m) (if works_in_units x m.kernel then starts_unit x m else go)
    (λ t. absurd (false≢true t))
    (choice (WhereIt is_trap HasSameWords m) (works_in_units x m.kernel) (starts_unit x m) go (λ t. absurd (false≢true t)) (trap-instructs served e.did x e m (λ kind pc d. (trap-exec m.code (registers_at m x) m.memory kind pc d).memory)))

-- the end of a whole step tells of neither
abbrev TellsOther : Change → Type 0
TellsOther c = (is_trap c.what ≡ false) × (is_exit c.what ≡ false)

other-units : (u : UnitEnd) (k : Kernel) (m : Machine) → TellsOther (unit_ends (outcome.Quiet u) k m)
other-units (unit.Tick count) k m = (refl, refl)
other-units (unit.TmrTick count) k m = (refl, refl)
other-units (unit.Fire o) k m = (refl, refl)
other-units unit.TmrEnd k m = (refl, refl)

other-ends : (w : Work) (o : Outcome) (k : Kernel) (m : Machine) → TellsOther (ends w o k m)
other-ends (CallOf x r p) (outcome.Answered a taken) k m = (refl, refl)
other-ends (CallOf x r p) outcome.Waits k m = (refl, refl)
other-ends (CallOf x r p) outcome.Gone k m = (refl, refl)
other-ends (CallOf x r p) (outcome.Quiet u) k m = (refl, refl)
other-ends (UnitOf x) (outcome.Quiet u) k m = other-units u k m
other-ends (UnitOf x) (outcome.Answered a taken) k m = (refl, refl)
other-ends (UnitOf x) outcome.Waits k m = (refl, refl)
other-ends (UnitOf x) outcome.Gone k m = (refl, refl)
other-ends (TakeOf q) o k m = (refl, refl)

other-advances : (served : Service → Bool) (w : WholeStep) (m : Machine) → TellsOther (advances served w m)
other-advances served w m =
    let e = effect_of served m.config w.work m.kernel in
    choice TellsOther (w.done + 1 == cost e m.kernel) (ends w.work e.outcome e.kernel m) (record { what = Quiet; machine = record m { in_hand = Some (record { work = w.work; done = w.done + 1 }) } }) (other-ends w.work e.outcome e.kernel m) (refl, refl)

-- a frame's instruction tells of no task's trap, and where it tells of a leaving the frame leaves
record IsFrames (m : Machine) (c : Change) : Type 0 where
  no_trap : is_trap c.what ≡ false
  leaves : is_exit c.what ≡ true → IsLeavingAlone m c.machine

frames-leaves : (h : How) (f : FrameRecord) (below : List FrameRecord) (m : Machine) → IsFrames m (leaves h f below m)
frames-leaves h f below m = record { no_trap = refl; leaves = λ _. alone-without_top below m }

frames-calls : (served : Service → Bool) (method : Method) (s : Service) (args : List ℕ) (f : FrameRecord) (below : List FrameRecord) (regs : Registers) (m : Machine) → IsFrames m (frame_calls served method s args f below regs m)
frames-calls served method s args f below regs m =
    let post = frame_posts served method s args f below regs m in
    let refuse = frame_refused served method s (interrupt_error s) f below regs m in
    let unknown = frame_refused served method s CallUnknown f below regs m in
    choice (IsFrames m) (served s) (if is_post s then post else refuse) unknown
    (choice (IsFrames m) (is_post s) post refuse (record { no_trap = refl; leaves = λ t. absurd (false≢true t) }) (record { no_trap = refl; leaves = λ t. absurd (false≢true t) }))
    (record { no_trap = refl; leaves = λ t. absurd (false≢true t) })

frames-did : (served : Service → Bool) (method : Method) (did : Stepped) (e : Execution) (f : FrameRecord) (below : List FrameRecord) (marks : List ℕ) (m : Machine) → IsFrames m (frame_did served method did e f below marks m)
frames-did served method Next e f below marks m =
    let goes : Change = record { what = Quiet; machine = record m { frames = ran f e.registers marks ∷ below } } in
    choice (IsFrames m) (e.registers.pc == leave) (leaves how.Ret f below m) goes (frames-leaves how.Ret f below m) (record { no_trap = refl; leaves = λ t. absurd (false≢true t) })
frames-did served method (Stored addr width value) e f below marks m = record { no_trap = refl; leaves = λ t. absurd (false≢true t) }
frames-did served method Call e f below marks m = frames-calls served method (service_of (read e.registers 17)) (argument_words e.registers) f below e.registers m
frames-did served method (Trap kind pc) e f below marks m = frames-leaves (how.Trap kind pc) f below m

frames-runs : (served : Service → Bool) (method : Method) (f : FrameRecord) (below : List FrameRecord) (m : Machine) → IsFrames m (frame_runs served method f below m)
frames-runs served method f below m =
    let e = exec m.code f.registers m.memory in
    frames-did served method e.did e f below (marks_after (next_instruction m.code f.registers) f.marks) m

no : {A : Type 0} (b : Bool) → b ≡ false → b ≡ true → A
no b e t = absurd (false≢true (sym e ∙ t))

trap-done : (served : Service → Bool) (method : Method) (r : Rule) (m : Machine) → WhereIt is_trap HasSameWords m (done served method r m)
trap-done served method Begins m = λ t. absurd (false≢true t)
trap-done served method (Looks l) m = λ t. absurd (false≢true t)
trap-done served method (Enters p) m = λ t. absurd (false≢true t)
trap-done served method (FrameLimit f below) m = λ t. absurd (false≢true t)
trap-done served method (FrameRuns f below) m = no _ (frames-runs served method f below m).no_trap
trap-done served method (MicroStep w) m = no _ (other-advances served w m).0
trap-done served method (TakeBegins q) m = λ t. absurd (false≢true t)
trap-done served method TaskActs m = trap-acts served m.current (task_at m.kernel m.current).answered m

pub trap-next : (served : Service → Bool) (method : Method) (m : Machine) (x : TaskId) (kind : TrapKind) (pc : ℕ) → (next served method m).0.what ≡ TrapLine x kind pc → HasSameWords m (next served method m).1
trap-next served method m x kind pc e =
    let h = trap-done served method (rule method m) m (ap is_trap e) in
    record { registers = h.registers; memory = h.memory }

exit-instructs : (served : Service → Bool) (did : Stepped) (x : ℕ) (e : Execution) (m : Machine) → is_exit (instructs served did x e m).what ≡ false
exit-instructs served Next x e m = refl
exit-instructs served (Stored addr width value) x e m = refl
exit-instructs served Call x e m = refl
exit-instructs served (Trap kind pc) x e m = refl

exit-acts : (served : Service → Bool) (x : ℕ) (o : Option Finished) (m : Machine) → is_exit (acts served x o m).what ≡ false
exit-acts served x (Some f) m = refl
exit-acts served x None m =
    let e = exec m.code (registers_at m x) m.memory in
    let go = instructs served e.did x e m in
    let P : Change → Type 0 = λ c. is_exit c.what ≡ false in
    choice P (x == idle_task) (idles m) (if works_in_units x m.kernel then starts_unit x m else go) refl (choice P (works_in_units x m.kernel) (starts_unit x m) go refl (exit-instructs served e.did x e m))

exit-done : (served : Service → Bool) (method : Method) (r : Rule) (m : Machine) → WhereIt is_exit IsLeavingAlone m (done served method r m)
exit-done served method Begins m = λ t. absurd (false≢true t)
exit-done served method (Looks l) m = λ t. absurd (false≢true t)
exit-done served method (Enters p) m = λ t. absurd (false≢true t)
exit-done served method (FrameLimit f below) m = λ t. alone-without_top below m
exit-done served method (FrameRuns f below) m = (frames-runs served method f below m).leaves
exit-done served method (MicroStep w) m = no _ (other-advances served w m).1
exit-done served method (TakeBegins q) m = λ t. absurd (false≢true t)
exit-done served method TaskActs m = no _ (exit-acts served m.current (task_at m.kernel m.current).answered m)

pub exit-next : (served : Service → Bool) (method : Method) (m : Machine) (vector : ℕ) (h : How) → (next served method m).0.what ≡ Exit vector h → IsLeavingAlone m (next served method m).1
exit-next served method m vector h e =
    let a = exit-done served method (rule method m) m (ap is_exit e) in
    record { isolated = isolated-s m (done served method (rule method m) m).machine _ a.isolated; memory = a.memory; later = a.later }
