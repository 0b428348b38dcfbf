-- An event leaves the kinds of the kernel's objects, and adds at most one signal of the tick task and of the timer task.
use Rattle.std.specs.Prelude.{if◌then◌else◌, ◌==◌, ◌&&◌}
use Rattle.std.proofs.Common.{◌≡◌, ℕ, ◌+◌, false, List, ◌∷◌, Option, Some, None, refl}
use Rattle.kern_base.specs.Numbers.{leave}
use Rattle.kern_base.specs.Checks.{static_error}
use Rattle.kern_base.specs.declared.kinds.Method.{Method}
use Rattle.kern_base.specs.declared.kinds.Method.TheVariants.{Direct, Deferred}
use Rattle.kern_base.specs.declared.services.Service.{Service}
use Rattle.kern_base.specs.declared.errors.OsErr.{OsErr}
use Rattle.kern_base.specs.declared.errors.OsErr.TheVariants.{CallUnknown}
use Rattle.kern_base.specs.declared.outcomes.Finished.{Finished}
use Rattle.kern_base.specs.declared.outcomes.Outcome.{Outcome}
use Rattle.kern_base.specs.declared.outcomes.Outcome.TheVariants.{Answered, Waits, Gone, Quiet as QuietOutcome}
use Rattle.kern_base.specs.Services.{is_post, service_of, interrupt_error}
use Rattle.kern_model.specs.Call.{call_of}
use Rattle.kern_model.specs.State.{Kernel, kinds_of, prio_of, task_at, idle_task, timer_task}
use Rattle.kern_model.specs.Stop.{callback_ended, stopped}
use Rattle.kern_model.specs.Services.{cost, post_request}
use Rattle.kern_model.proofs.Lemmas.{choice}
use Rattle.kern_laws.proofs.Lemmas.{kinds-effect, kinds-finished, kinds-unit}
use Rattle.served.specs.Served.{program_serves}
use Rattle.rv32_exec.specs.Registers.{Registers, read}
use Rattle.rv32_exec.specs.Exec.{Execution, exec}
use Rattle.rv32_exec.specs.declared.Stepped.{Stepped}
use Rattle.rv32_exec.specs.declared.Stepped.TheVariants.{Next, Call, Trap, Stored}
use Rattle.app_image.specs.declared.settings.Config.{Config}
use Rattle.machine_model.specs.Queue.{Queued, queued}
use Rattle.machine_model.specs.Frames.{FrameRecord, none_stands}
use Rattle.machine_model.specs.Marks.{marks_after, next_instruction}
use Rattle.machine_model.specs.declared.events.How.TheVariants as how
use Rattle.machine_model.specs.declared.events.What.TheVariants.{Quiet}
use Rattle.machine_model.specs.Machine.{Machine, Work, CallOf, UnitOf, TakeOf, WholeStep, registers_at, handler_compares, effect_of}
use Rattle.machine_model.specs.Answers.{Change}
use Rattle.machine_model.specs.Settling.{settled, is_free}
use Rattle.machine_model.specs.Interrupts.{without_top, leaves, frame_goes_on, frame_calls, frame_posts, frame_refused, frame_did, argument_words, ran, queues, posts_by, checked_post}
use Rattle.machine_model.specs.Steps.{call_ends, unit_ends, ends, advances}
use Rattle.machine_model.specs.Acts.{acts, after_instruction, instructs, idles, starts_unit, trapped, works_in_units}
use Rattle.machine_model.specs.Rules.{Rule, Begins, Looks, Enters, FrameLimit, FrameRuns, MicroStep, TakeBegins, TaskActs, done}
use Rattle.machine_core.proofs.SignalLaws.{FewMore, few-callback_ended, few-effect, few-finished, few-refl, few-stopped, few-unit}

-- the kernel afterwards is near to what it was
pub record IsNear (k j : Kernel) : Type 0 where
  pub few : FewMore k j
  pub kinds : kinds_of j ≡ kinds_of k

near-refl : (k : Kernel) → IsNear k k
near-refl k = record { few = few-refl k; kinds = refl }

-- of a machine
abbrev Near : Machine → Machine → Type 0
Near m n = IsNear m.kernel n.kernel

abbrev NearChange : Machine → Change → Type 0
NearChange m c = Near m c.machine

-- interrupt code

near-without_top : (below : List FrameRecord) (m : Machine) → Near m (without_top below m)
near-without_top below m = let n = record m { frames = below } in choice (Near m) (none_stands below && is_free m.in_hand) (settled n) n (near-refl m.kernel) (near-refl m.kernel)

near-queues : (o : Option (List Queued)) (k : Kernel) (later : List Queued) → IsNear k (queues o k later).kernel
near-queues (Some after) k later = near-refl k
near-queues None k later = near-refl k

near-posts : (method : Method) (s : Service) (args : List ℕ) (p : ℕ) (m : Machine) → IsNear m.kernel (posts_by program_serves method method s args p m).kernel
near-posts Direct s args p m =
    let call = call_of (post_request s args) 63 p p in record { few = few-effect call m.kernel; kinds = kinds-effect program_serves call m.kernel }
near-posts Deferred s args p m = near-queues (queued m.config.defer_size (record { service = s; args = args; saved = p }) m.later) m.kernel m.later

near-checked : (method : Method) (o : Option OsErr) (s : Service) (args : List ℕ) (m : Machine) → IsNear m.kernel (checked_post program_serves method o s args m).kernel
near-checked method (Some err) s args m = near-refl m.kernel
near-checked method None s args m = near-posts method s args (prio_of m.kernel m.current) m

module _ (method : Method) where
  near-frame_goes_on : (f : FrameRecord) (below : List FrameRecord) (regs : Registers) (marks : List ℕ) (m : Machine) → NearChange m (frame_goes_on program_serves method f below regs marks m)
  near-frame_goes_on f below regs marks m =
      choice (NearChange m) (regs.pc == leave) (leaves how.Ret f below m) (record { what = Quiet; machine = record m { frames = ran f regs marks ∷ below } }) (near-without_top below m) (near-refl m.kernel)

  near-frame_calls : (s : Service) (args : List ℕ) (f : FrameRecord) (below : List FrameRecord) (regs : Registers) (m : Machine) → NearChange m (frame_calls program_serves method s args f below regs m)
  near-frame_calls s args f below regs m =
      let posts = frame_posts program_serves method s args f below regs m in
      let refuses = frame_refused program_serves method s (interrupt_error s) f below regs m in
      let unknown = frame_refused program_serves method s CallUnknown f below regs m in
      choice (NearChange m) (program_serves s) (if is_post s then posts else refuses) unknown
      (choice (NearChange m) (is_post s) posts refuses (near-checked method (static_error s args (kinds_of m.kernel) false) s args m) (near-refl m.kernel))
      (near-refl m.kernel)

  near-frame_did : (did : Stepped) (e : Execution) (f : FrameRecord) (below : List FrameRecord) (marks : List ℕ) (m : Machine) → NearChange m (frame_did program_serves method did e f below marks m)
  near-frame_did Next e f below marks m = near-frame_goes_on f below e.registers marks m
  near-frame_did (Stored addr width value) e f below marks m = near-refl m.kernel
  near-frame_did Call e f below marks m = near-frame_calls (service_of (read e.registers 17)) (argument_words e.registers) f below e.registers m
  near-frame_did (Trap kind pc) e f below marks m = near-without_top below m

-- the whole step in hand

near-work : (config : Config) (work : Work) (k : Kernel) → IsNear k (effect_of program_serves config work k).kernel
near-work config (CallOf x r p) k = let call = call_of r x p p in record { few = few-effect call k; kinds = kinds-effect program_serves call k }
near-work config (UnitOf x) k = record { few = few-unit x k; kinds = kinds-unit x k }
near-work config (TakeOf q) k =
    let call = call_of (post_request q.service q.args) 63 q.saved (handler_compares config q.saved) in record { few = few-effect call k; kinds = kinds-effect program_serves call k }

kernel-call_ends : (x : ℕ) (s : Service) (o : Outcome) (k : Kernel) (m : Machine) → (call_ends x s o k m).machine.kernel ≡ k
kernel-call_ends x s (Answered a taken) k m = refl
kernel-call_ends x s Waits k m = refl
kernel-call_ends x s Gone k m = refl
kernel-call_ends x s (QuietOutcome end) k m = refl

kernel-unit_ends : (o : Outcome) (k : Kernel) (m : Machine) → (unit_ends o k m).machine.kernel ≡ k
kernel-unit_ends (Answered a taken) k m = refl
kernel-unit_ends Waits k m = refl
kernel-unit_ends Gone k m = refl
kernel-unit_ends (QuietOutcome end) k m = refl

kernel-ends : (work : Work) (o : Outcome) (k : Kernel) (m : Machine) → (ends work o k m).machine.kernel ≡ k
kernel-ends (CallOf x r p) o k m = kernel-call_ends x r.service o k m
kernel-ends (UnitOf x) o k m = kernel-unit_ends o k m
kernel-ends (TakeOf q) o k m = refl

near-advances : (w : WholeStep) (m : Machine) → NearChange m (advances program_serves w m)
near-advances w m =
    let e = effect_of program_serves m.config w.work m.kernel in
    choice (NearChange m) (w.done + 1 == cost e m.kernel) (ends w.work e.outcome e.kernel m) (record { what = Quiet; machine = record m { in_hand = Some (record { work = w.work; done = w.done + 1 }) } })
    (rw (kernel-ends w.work e.outcome e.kernel m) (near-work m.config w.work m.kernel)) (near-refl m.kernel)

-- the current task

near-after : (x pc : ℕ) (k : Kernel) → IsNear k (after_instruction x pc k)
near-after x pc k = choice (IsNear k) ((x == timer_task) && (pc == leave)) (callback_ended k) k (record { few = few-callback_ended k; kinds = refl }) (near-refl k)

near-trapped : (x : ℕ) (k : Kernel) → IsNear k (trapped x k)
near-trapped x k = choice (IsNear k) (x == timer_task) (callback_ended k) (stopped x k) (record { few = few-callback_ended k; kinds = refl }) (record { few = few-stopped x k; kinds = refl })

near-instructs : (did : Stepped) (x : ℕ) (e : Execution) (m : Machine) → NearChange m (instructs program_serves did x e m)
near-instructs Next x e m = near-after x e.registers.pc m.kernel
near-instructs (Stored addr width value) x e m = near-after x e.registers.pc m.kernel
near-instructs Call x e m = near-refl m.kernel
near-instructs (Trap kind pc) x e m = near-trapped x m.kernel

near-acts : (x : ℕ) (o : Option Finished) (m : Machine) → NearChange m (acts program_serves x o m)
near-acts x (Some f) m = record { few = few-finished x m.kernel; kinds = kinds-finished x m.kernel }
near-acts x None m =
    let e = exec m.code (registers_at m x) m.memory in
    let runs = instructs program_serves e.did x e m in
    choice (NearChange m) (x == idle_task) (idles m) (if works_in_units x m.kernel then starts_unit x m else runs) (near-refl m.kernel)
    (choice (NearChange m) (works_in_units x m.kernel) (starts_unit x m) runs (near-refl m.kernel) (near-instructs e.did x e m))

-- any rule
pub near-done : (method : Method) (r : Rule) (m : Machine) → IsNear m.kernel (done program_serves method r m).machine.kernel
near-done method Begins m = near-refl m.kernel
near-done method (Looks l) m = near-refl m.kernel
near-done method (Enters p) m = near-refl m.kernel
near-done method (FrameLimit f below) m = near-without_top below m
near-done method (FrameRuns f below) m =
    let e = exec m.code f.registers m.memory in
    near-frame_did method e.did e f below (marks_after (next_instruction m.code f.registers) f.marks) m
near-done method (MicroStep w) m = near-advances w m
near-done method (TakeBegins q) m = near-refl m.kernel
near-done method TaskActs m = near-acts m.current (task_at m.kernel m.current).answered m
