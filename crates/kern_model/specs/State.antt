-- The state of the kernel, as plain lists. Task numbers, object numbers and priorities are plain numbers.
use Rattle.std.specs.Prelude.{ℕ, zero, suc, ◌+◌, Bool, true, false, not, ◌&&◌, List, [], ◌∷◌, Option, None, if◌then◌else◌, ◌==◌, slice_index_or, slice_set, filter, map}
use Rattle.kern_base.specs.Tables.{KindTable}
use Rattle.kern_base.specs.declared.kinds.Kind.{Kind}
use Rattle.kern_base.specs.declared.kinds.Kind.TheVariants.{Sem, Queue, Flags, Mutex, OneShot, Periodic}
use Rattle.kern_base.specs.declared.outcomes.Waiting.{Waiting}
use Rattle.kern_base.specs.declared.outcomes.Waiting.TheVariants.{No, Delay, Obj, TaskSem, TaskQ, Multi, Signal}
use Rattle.kern_base.specs.declared.outcomes.Finished.{Finished}

-- A task: its priorities, what it waits for, its own semaphore and queue, and the result that it has not yet read.
-- `objects`, `mask`, `opt` and `table` are those of the call in which it waits or whose result waits; `mask` and `opt`
-- are a wait's on event flags and else 0, `table` is that of OSPendMulti and else 0. A message is its address and size.
pub record Task : Type 0 where
  pub base : ℕ
  pub prio : ℕ
  pub alive : Bool
  pub waiting : Waiting
  pub objects : List ℕ
  pub mask : ℕ
  pub opt : ℕ
  pub table : ℕ
  pub suspended : ℕ
  pub count : ℕ
  pub messages : List (ℕ × ℕ)
  pub limit : ℕ
  pub quantum : ℕ
  pub full : ℕ
  pub answered : Option Finished

-- The state of a timer.
pub data TimerState : Type 0 where
  Stopped : TimerState
  Running : TimerState
  Completed : TimerState

-- A timer: its state, its declared numbers, and the address of its callback where it has one.
pub record Timer : Type 0 where
  pub periodic : Bool
  pub state : TimerState
  pub delay : ℕ
  pub period : ℕ
  pub callback : Option ℕ
  pub argument : ℕ

-- What an object holds: a semaphore's count, a queue's limit and messages, the bits of an event flag group,
-- the owner of a mutex and how deep it is nested, a timer.
pub data Content : Type 0 where
  Count : ℕ → Content
  Messages : ℕ → List (ℕ × ℕ) → Content
  Bits : ℕ → Content
  Held : Option ℕ → ℕ → Content
  Timed : Timer → Content

-- An object: what it holds, and whether it was deleted.
pub record Object : Type 0 where
  pub content : Content
  pub deleted : Bool

-- What services read of an application's image, and no call changes: the number of application tasks, whether round
-- robin is on, at each how many'th OSTimeTick the timer task is signalled, and the number of messages in the pool.
pub record Settings : Type 0 where
  pub tasks : ℕ
  pub round_robin : Bool
  pub tmr_div : ℕ
  pub pool : ℕ

-- The kernel. `ready` has a list for each priority, `pend` a list for each object, each by task number.
-- `matches` has the tasks that have a match, as pairs of task and tick, in the order in which they got it;
-- `timer_matches` the running timers, as pairs of timer and timer count, in that order.
-- `tick_calls` counts the calls of OSTimeTick since the timer task was last signalled; `free` counts free messages.
pub record Kernel : Type 0 where
  pub tasks : List Task
  pub objects : List Object
  pub ready : List (List ℕ)
  pub pend : List (List ℕ)
  pub matches : List (ℕ × ℕ)
  pub timer_matches : List (ℕ × ℕ)
  pub ticks : ℕ
  pub timer_count : ℕ
  pub tick_signals : ℕ
  pub timer_signals : ℕ
  pub tick_calls : ℕ
  pub processing : Bool
  pub in_callback : Bool
  pub lock : ℕ
  pub free : ℕ
  pub settings : Settings

-- there are so many records of tasks, and so many priorities
abbrev pub table_size : ℕ
table_size = 64

-- application tasks have the numbers below this
abbrev pub application_limit : ℕ
application_limit = 60

-- the idle task's priority, and the lowest of all other tasks
abbrev pub idle_priority : ℕ
idle_priority = 63

abbrev pub lowest_priority : ℕ
lowest_priority = 62

-- a task is suspended, a mutex nested and the scheduler locked so often at most
abbrev pub nesting_limit : ℕ
nesting_limit = 250

-- the tasks that are no application's: they stand at these numbers
abbrev pub tick_task : ℕ
tick_task = 60

-- the timer task
abbrev pub timer_task : ℕ
timer_task = 61

-- the idle task
abbrev pub idle_task : ℕ
idle_task = 62

-- the handler of deferred posts, and the caller of a post from interrupt code
abbrev pub handler_task : ℕ
handler_task = 63

-- the list at i, and the empty list past the end
abbrev pub list_at : List (List ℕ) → ℕ → List ℕ
list_at lists i = slice_index_or lists i []

-- the lists with f of the one at i in its place
abbrev pub update_list : List (List ℕ) → ℕ → (List ℕ → List ℕ) → List (List ℕ)
update_list lists i f = slice_set lists i (f (list_at lists i))

-- xs without x
abbrev pub without : ℕ → List ℕ → List ℕ
without x xs = filter (λ y. not (y == x)) xs

-- how often x stands in a list
abbrev pub count_of : ℕ → List ℕ → ℕ
count_of x [] = 0
count_of x (y ∷ ys) = (if y == x then 1 else 0) + count_of x ys

-- the place of x in a list, from 0
abbrev pub place_of : ℕ → List ℕ → ℕ
place_of x [] = 0
place_of x (y ∷ ys) = if y == x then 0 else 1 + place_of x ys

-- what stands at a number without a task
abbrev pub no_task : Task
no_task = record { base = idle_priority; prio = idle_priority; alive = false; waiting = No; objects = []; mask = 0; opt = 0; table = 0; suspended = 0; count = 0; messages = []; limit = 0; quantum = 0; full = 0; answered = None }

-- what stands at a number without an object
abbrev pub no_object : Object
no_object = record { content = Count 0; deleted = true }

-- the task of a number, in a table of tasks
abbrev pub task_in : List Task → ℕ → Task
task_in tasks x = slice_index_or tasks x no_task

-- the object of a number, in a table of objects
abbrev pub object_in : List Object → ℕ → Object
object_in objects o = slice_index_or objects o no_object

-- the task of a number
abbrev pub task_at : Kernel → ℕ → Task
task_at k x = task_in k.tasks x

-- the object of a number
abbrev pub object_at : Kernel → ℕ → Object
object_at k o = object_in k.objects o

-- the present priority of a task
abbrev pub prio_of : Kernel → ℕ → ℕ
prio_of k x = (task_at k x).prio

-- the tasks with f of the one at x in its place
abbrev pub update_task : List Task → ℕ → (Task → Task) → List Task
update_task tasks x f = slice_set tasks x (f (slice_index_or tasks x no_task))

-- the objects with f of the one at o in its place
abbrev pub update_object : List Object → ℕ → (Object → Object) → List Object
update_object objects o f = slice_set objects o (f (slice_index_or objects o no_object))

-- the kernel with this change of one task
abbrev pub with_task : Kernel → ℕ → (Task → Task) → Kernel
with_task k x f = record k { tasks = update_task k.tasks x f }

-- the kernel with this content of one object
abbrev pub with_content : Kernel → ℕ → Content → Kernel
with_content k o content = record k { objects = update_object k.objects o (λ b. record b { content = content }) }

-- the kind of an object with this content
abbrev pub kind_of : Content → Kind
kind_of (Count n) = Sem
kind_of (Messages limit ms) = Queue
kind_of (Bits bits) = Flags
kind_of (Held owner nesting) = Mutex
kind_of (Timed t) = if t.periodic then Periodic else OneShot

-- what the static checks of a call look at
abbrev pub kinds_of : Kernel → KindTable
kinds_of k = record { objects = map (λ b. kind_of b.content) k.objects; tasks = k.settings.tasks }

-- whether a number is 0
abbrev pub is_zero : ℕ → Bool
is_zero zero = true
is_zero (suc n) = false

-- whether a task does not wait
abbrev pub waits_for_nothing : Waiting → Bool
waits_for_nothing No = true
waits_for_nothing Delay = false
waits_for_nothing (Obj s) = false
waits_for_nothing TaskSem = false
waits_for_nothing TaskQ = false
waits_for_nothing Multi = false
waits_for_nothing Signal = false

-- A task is ready exactly where it is alive, waits for nothing and is not suspended.
abbrev pub is_ready : Task → Bool
is_ready t = t.alive && (waits_for_nothing t.waiting && is_zero t.suspended)

-- The first task of the first list that is not empty; the idle task, where all are empty.
abbrev pub first_of : List (List ℕ) → ℕ
first_of [] = idle_task
first_of ([] ∷ lists) = first_of lists
first_of ((x ∷ xs) ∷ lists) = x

-- The task that the scheduler picks: the first of the highest priority that has a ready task.
abbrev pub pick : Kernel → ℕ
pick k = first_of k.ready
