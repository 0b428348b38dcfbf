-- What the machine's fields mean, and what is always true of them.
use Rattle.std.specs.Prelude.{ℕ, List, ◌≡◌, ◌<◌, ◌≤◌, ◌+◌, ◌==◌, Bool, true, false, All, Option, Some, None, length}
use Rattle.app_image.specs.declared.settings.Config.{Config}
use Rattle.kern_model.specs.State.{kinds_of}
use Rattle.served.specs.Served.{program_serves}
use Rattle.kern_model.specs.Services.{post_request}
use Rattle.kernel_calls.specs.Works.{WorkRecord}
use Rattle.kernel_calls.specs.KernelRecord.{KernelRecord}
use Rattle.kern_base.specs.Tables.{KindTable}
use Rattle.kern_base.specs.declared.kinds.Method.{Method}
use Rattle.kern_base.specs.declared.numbers.TaskId.{TaskId}
use Rattle.deferred_queue.specs.QueueRecord.{QueueRecord}
use Rattle.inject_list.specs.declared.lists.Look.{Look}
use Rattle.machine_model.specs.Queue.{Queued}
use Rattle.machine_model.specs.Machine.{Machine, WholeStep, Work, CallOf, TakeOf, UnitOf, handler_compares}
use Rattle.isr_nesting.specs.Nest.{Nest, interrupts}
use Rattle.machine_model.specs.Bound.{events_left}
use Rattle.machine_laws.specs.Valid.{IsValidMachine}
use Rattle.machine_core.specs.MethodMachine.{MethodMachine}
use Rattle.machine_core.specs.LookView.{IsShown, IsToCome}
use Rattle.machine_core.specs.Valid.{most_task_steps, most_events, HasFewSignals}

-- the fields of a machine
pub record Parts : Type 0 where
  pub method : Method
  pub kernel : KernelRecord
  pub kinds : KindTable
  pub ram : List ℕ
  pub program : List ℕ
  pub config : Config
  pub current : TaskId
  pub frames : Nest
  pub later : QueueRecord
  pub looks : List Look
  pub begun : Bool
  pub s : ℕ
  pub t : ℕ

abbrev pub parts : Method → KernelRecord → KindTable → List ℕ → List ℕ → Config → TaskId → Nest → QueueRecord → List Look → Bool → ℕ → ℕ → Parts
parts method kernel kinds ram program config current frames later looks begun s t =
    record { method = method; kernel = kernel; kinds = kinds; ram = ram; program = program; config = config; current = current; frames = frames; later = later; looks = looks; begun = begun; s = s; t = t }

-- the post that a take performs
abbrev pub queued_in : WorkRecord → Queued
queued_in w = record { service = w.request.service; args = w.request.args; saved = w.interrupted }

-- a unit is of its task, a work of the handler is a take, any other a call
abbrev pub work_of : Bool → Bool → WorkRecord → Work
work_of true takes w = UnitOf w.caller
work_of false true w = TakeOf (queued_in w)
work_of false false w = CallOf w.caller w.request w.compared

-- the whole step of a work
abbrev pub step_of : WorkRecord → WholeStep
step_of w = record { work = work_of w.unit (w.caller == 63) w; done = w.done }

-- of what is in hand, if anything is
abbrev pub hand_of : Option WorkRecord → Option WholeStep
hand_of None = None
hand_of (Some w) = Some (step_of w)

-- the machine that the fields are
abbrev pub machine_of : Parts → Machine
machine_of a =
    record {
      kernel = a.kernel.state;
      registers = a.kernel.registers;
      memory = a.ram;
      current = a.current.0;
      frames = a.frames.frames;
      later = a.later.posts;
      in_hand = hand_of a.kernel.hand;
      interrupts = interrupts a.frames;
      looks = a.looks;
      begun = a.begun;
      s = a.s;
      t = a.t;
      code = a.program;
      config = a.config;
    }

-- with its method
abbrev pub method_machine_of : Parts → MethodMachine
method_machine_of a = record { method = a.method; state = machine_of a }

-- A take performs a post, and readied tasks are compared with the handler's priority; in a call with the caller's.
abbrev pub IsFit : Bool → Bool → Config → WorkRecord → Type 0
IsFit true takes config w = Unit {0}
IsFit false true config w = (w.request ≡ post_request w.request.service w.request.args) × (w.compared ≡ handler_compares config w.interrupted)
IsFit false false config w = w.interrupted ≡ w.compared

-- of what is in hand, if anything is
abbrev pub IsFitHand : Config → Option WorkRecord → Type 0
IsFitHand config None = Unit {0}
IsFitHand config (Some w) = IsFit w.unit (w.caller == 63) config w

-- the vectors of the frames and of the interrupts that have not entered are those that an image may declare
pub record HasVectors (n : Nest) : Type 0 where
  pub frames : All (λ f. f.vector < 32) n.frames
  pub waiting : All (λ i. i.vector < 32) (interrupts n)

-- What is true of the fields beside the machine that they are: its kinds are those of the kernel's objects, the work in hand is
-- a unit, a task's call or a take, its queue has the size of the settings, its vectors are within their
-- numbers, and its looks are at lists that there are.
pub record AreParts (a : Parts) : Type 0 where
  pub kinds : kinds_of a.kernel.state ≡ a.kinds
  pub work : IsFitHand a.config a.kernel.hand
  pub size : a.later.size ≡ a.config.defer_size
  pub vectors : HasVectors a.frames
  pub looks : All (λ l. IsShown (length a.kinds.objects) l.what) a.looks

-- What is always true of the fields: the machine is valid by its method, its current task is one of the 64, its task steps
-- and its events are few, as are the signals of the tick task and the timer task, and no look to come lies before its raw step.
pub record IsKept (a : Parts) : Type 0 where
  pub valid : IsValidMachine program_serves a.method (machine_of a)
  pub parts : AreParts a
  pub current : a.current.0 < 64
  pub within : a.t ≤ most_task_steps
  pub few : a.s + events_left most_task_steps (machine_of a) ≤ most_events
  pub signals : HasFewSignals a.kernel.state (events_left most_task_steps (machine_of a))
  pub to_come : All (IsToCome a.s) a.looks
