-- The kernel at the start.
use Rattle.std.specs.Prelude.{ℕ, zero, suc, ◌+◌, ◌-◌, Bool, true, false, List, [], ◌∷◌, ◌++◌, length, map, replicate, Option, Some, None, if◌then◌else◌, ◌==◌, slice_index}
use Rattle.kern_base.specs.declared.kinds.Kind.{Kind}
use Rattle.kern_base.specs.declared.kinds.Kind.TheVariants.{Sem, Queue, Flags, Mutex, OneShot, Periodic}
use Rattle.kern_base.specs.declared.outcomes.Waiting.{Waiting}
use Rattle.kern_base.specs.declared.outcomes.Waiting.TheVariants.{No, Signal}
use Rattle.kern_model.specs.State.{Kernel, Task, Object, Content, Count, Messages, Bits, Held, Timed, Timer, Stopped, Settings, no_task}
use Rattle.app_image.specs.Image.{ImageRecord, no_callback}
use Rattle.app_image.specs.declared.records.TaskDef.{TaskDef}
use Rattle.app_image.specs.declared.records.ObjDef.{ObjDef}
use Rattle.app_image.specs.declared.settings.Config.{Config}

-- a living task of this priority and quantum, with this size of its own queue, that waits for this
abbrev pub living_task : ℕ → ℕ → ℕ → Waiting → Task
living_task prio quantum limit waiting =
    record {
      base = prio;
      prio = prio;
      alive = true;
      waiting = waiting;
      objects = [];
      mask = 0;
      opt = 0;
      table = 0;
      suspended = 0;
      count = 0;
      messages = [];
      limit = limit;
      quantum = quantum;
      full = quantum;
      answered = None;
    }

-- the quantum that was declared, or the setting where it is 0
abbrev pub quantum_of : ℕ → ℕ → ℕ
quantum_of declared quanta = if declared == 0 then quanta else declared

-- an application task, as it was declared
abbrev pub application_task : ℕ → TaskDef → Task
application_task quanta d = living_task d.prio (quantum_of d.quanta quanta) d.qsize No

-- the tick task and the timer task wait for a signal; the idle task is ready; the handler is no task
abbrev pub internal_tasks : Config → List Task
internal_tasks c = living_task c.tick_prio c.quanta 0 Signal ∷ living_task c.tmr_prio c.quanta 0 Signal ∷ living_task 63 c.quanta 0 No ∷ no_task ∷ []

-- the tasks by number: those of the application in declared order, numbers without a task, and from 60 on the internal ones
abbrev pub start_tasks : ImageRecord → List Task
start_tasks i = map (application_task i.config.quanta) i.tasks ++ replicate (60 - length i.tasks) no_task ++ internal_tasks i.config

-- the callback of a timer, where it has one
abbrev pub callback_of : ℕ → Option ℕ
callback_of address = if address == no_callback then None else Some address

-- a timer at rest, with its declared delay, period, callback and argument
abbrev pub timer_of : Bool → List ℕ → Timer
timer_of periodic f =
    record {
      periodic = periodic;
      state = Stopped;
      delay = slice_index f 0;
      period = slice_index f 1;
      callback = callback_of (slice_index f 2);
      argument = slice_index f 3;
    }

-- a semaphore's count, an empty queue of this size, an event flag group's bits, a free mutex, a stopped timer
abbrev pub content_of : Kind → List ℕ → Content
content_of Sem f = Count (slice_index f 0)
content_of Queue f = Messages (slice_index f 0) []
content_of Flags f = Bits (slice_index f 0)
content_of Mutex f = Held None 0
content_of OneShot f = Timed (timer_of false f)
content_of Periodic f = Timed (timer_of true f)

abbrev pub object_of : ObjDef → Object
object_of d = record { content = content_of d.kind d.f; deleted = false }

-- the numbers of the tasks of this priority, in declared order, where the first has the number i
abbrev pub tasks_of : ℕ → ℕ → List TaskDef → List ℕ
tasks_of p i [] = []
tasks_of p i (d ∷ ds) = if d.prio == p then i ∷ tasks_of p (i + 1) ds else tasks_of p (i + 1) ds

-- the ready lists of n priorities from p on
abbrev pub ready_from : List TaskDef → ℕ → ℕ → List (List ℕ)
ready_from ds p zero = []
ready_from ds p (suc n) = tasks_of p 0 ds ∷ ready_from ds (p + 1) n

-- what services read of the image
abbrev pub settings_of : ImageRecord → Settings
settings_of i = record { tasks = length i.tasks; round_robin = i.config.round_robin == 1; tmr_div = i.config.tmr_div; pool = i.config.pool }

-- The application tasks are ready, in declared order, and the idle task alone with the last priority. Nobody waits for an
-- object, all messages are free, and every count is 0.
abbrev pub start_state : ImageRecord → Kernel
start_state i =
    record {
      tasks = start_tasks i;
      objects = map object_of i.objects;
      ready = ready_from i.tasks 0 63 ++ (62 ∷ []) ∷ [];
      pend = replicate (length i.objects) [];
      matches = [];
      timer_matches = [];
      ticks = 0;
      timer_count = 0;
      tick_signals = 0;
      timer_signals = 0;
      tick_calls = 0;
      processing = false;
      in_callback = false;
      lock = 0;
      free = i.config.pool;
      settings = settings_of i;
    }
