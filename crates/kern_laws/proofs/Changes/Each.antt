-- The plain changes that every service and unit is made of, and what it takes to keep an invariant under each.
use Rattle.kern_model.proofs.Common.{◌≡◌, ◌≢◌, ◌⊎◌, ℕ, ◌<◌, ◌≤◌, List, [], length, map, Bool, true, false, Option, Some, None, MutexPend, Waiting, No, Obj, Signal, Finished, Outcome, Kernel, Task, Timer, TimerState, Running, Content, Count, Messages, Bits, Held, Timed, list_at, task_at, object_at, with_content, with_task, update_object, count_of, is_ready, waits_for_nothing, Wait, wakes, blocked, waiting_task, renewed, IsLinked, MayOwn, has_result, IsWord, IsResult, ReadsFrom, AreWords, AreMessageWords, HoldsWords, HasResultWords, WaitsFor, Fits}
use Rattle.kern_model.specs.Waiters.{without_object}
use Rattle.kern_model.specs.Tasks.{task_ends}
use Rattle.kern_model.specs.Timers.{runs, rests}
use Rattle.kern_model.specs.Stop.{stopped}

-- whether a task waits for a mutex
abbrev pub waits_for_mutex : Waiting → Bool
waits_for_mutex (Obj MutexPend) = true
waits_for_mutex w = false

-- the content of a semaphore, a queue or a group of event flags, and another of the same kind
abbrev pub follows : Content → Content → Bool
follows (Count m) (Count n) = true
follows (Messages limit ms) (Messages size ns) = true
follows (Bits a) (Bits b) = true
follows a b = false

-- whether an object is a semaphore, a queue or a group of event flags
abbrev pub is_plain : Content → Bool
is_plain (Count n) = true
is_plain (Messages limit ms) = true
is_plain (Bits bits) = true
is_plain content = false

-- whether an object is a timer
abbrev pub is_timed : Content → Bool
is_timed (Timed t) = true
is_timed content = false

-- A result for a task that waits: where its wait has its form, the result has its table; its numbers are words.
pub record IsResultFor (f : Finished) (t : Task) : Type 0 where
  pub result : (x : ℕ) → WaitsFor x t.waiting t → IsResult f t
  pub words : HasResultWords (Some f)

-- a result for any task, or none
abbrev pub IsResultForAny : Option Finished → Type 0
IsResultForAny a = ((t : Task) → ReadsFrom a t) × HasResultWords a

-- what of a task such an invariant may speak of
pub record Shape : Type 0 where
  pub base : ℕ
  pub prio : ℕ
  pub alive : Bool
  pub waiting : Waiting
  pub objects : List ℕ
  pub mask : ℕ
  pub opt : ℕ
  pub table : ℕ
  pub answered : Option Finished
  pub messages : List (ℕ × ℕ)
  pub limit : ℕ

abbrev pub shape : Task → Shape
shape t = record { base = t.base; prio = t.prio; alive = t.alive; waiting = t.waiting; objects = t.objects; mask = t.mask; opt = t.opt; table = t.table; answered = t.answered; messages = t.messages; limit = t.limit }

-- what of the rest of the kernel it may speak of is the same
pub record SameRest (j k : Kernel) : Type 0 where
  pub tasks : j.tasks ≡ k.tasks
  pub objects : j.objects ≡ k.objects
  pub pend : j.pend ≡ k.pend
  pub timer_matches : j.timer_matches ≡ k.timer_matches
  pub settings : j.settings ≡ k.settings

-- a task that waits is woken with a result of its wait
pub record IsWake (f : Finished) (x : ℕ) (k : Kernel) : Type 0 where
  pub links : IsLinked k
  pub inside : x < 60
  pub waits : waits_for_nothing (task_at k x).waiting ≡ false
  pub result : IsResultFor f (task_at k x)

-- a ready application task for which no result waits, and that waits from now on
pub record IsBlock (k : Kernel) (x : ℕ) (w : Wait) : Type 0 where
  pub links : IsLinked k
  pub inside : x < 60
  pub ready : is_ready (task_at k x) ≡ true
  pub no_result : has_result (task_at k x).answered ≡ false
  pub waits : waits_for_nothing w.waiting ≡ false
  pub fits : Fits k.objects w.waiting w.objects
  pub form : WaitsFor x w.waiting (waiting_task w (task_at k x))
  pub mask : IsWord w.mask
  pub opt : IsWord w.opt
  pub table : IsWord w.table

-- an object that is there and holds this
pub record Holds (k : Kernel) (o : ℕ) (content : Content) : Type 0 where
  pub links : IsLinked k
  pub there : (object_at k o).deleted ≡ false
  pub holds : (object_at k o).content ≡ content

-- A timer that is not deleted, or that has a match.
pub record IsTimer (k : Kernel) (o : ℕ) (t : Timer) : Type 0 where
  pub links : IsLinked k
  pub holds : (object_at k o).content ≡ Timed t
  pub there : ((object_at k o).deleted ≡ false) ⊎ (0 < count_of o (map (λ m. m.0) k.timer_matches))

-- the length of a task's own queue is within its limit, or no more than it was
abbrev pub HasRoom : List (ℕ × ℕ) → Task → Type 0
HasRoom ms t = (length ms ≤ t.limit) ⊎ (length ms ≤ length t.messages)

-- what each task waits for fits
abbrev pub WaitsFit : Kernel → Type 0
WaitsFit k = (x : ℕ) → waits_for_nothing (task_at k x).waiting ≡ false → Fits k.objects (task_at k x).waiting (task_at k x).objects

-- Each plain change keeps P; or, where priorities are renewed after it, leaves Q, and the renewal gives P again.
pub record Preserved (P Q : Kernel → Type 0) : Type 0 where
  pub fits : (k : Kernel) → P k → WaitsFit k
  pub words : (k : Kernel) → P k → AreWords k.tasks k.objects
  pub before_renewal : (k : Kernel) → P k → Q k
  pub renew : (place : List ℕ → ℕ) (k : Kernel) → IsLinked k → Q k → P (renewed place k)
  -- a wake, a block
  pub wake : (f : Finished) (h x : ℕ) (k : Kernel) → IsWake f x k → Q k → Q (wakes f h x k)
  pub wake_kept : (f : Finished) (h x : ℕ) (k : Kernel) → IsWake f x k → waits_for_mutex (task_at k x).waiting ≡ false → P k → P (wakes f h x k)
  pub block : (k : Kernel) (x : ℕ) (w : Wait) → IsBlock k x w → P k → Q (blocked k x w)
  pub block_kept : (k : Kernel) (x : ℕ) (w : Wait) → IsBlock k x w → waits_for_mutex w.waiting ≡ false → P k → P (blocked k x w)
  -- objects: another content, a mutex that is taken, nested, passed on and freed, a deletion
  pub content : (k : Kernel) (o : ℕ) (old new : Content) → Holds k o old → follows old new ≡ true → HoldsWords new → P k → P (with_content k o new)
  pub taken : (k : Kernel) (o n x : ℕ) → Holds k o (Held None n) → MayOwn k.settings.tasks x → P k → P (with_content k o (Held (Some x) 1))
  pub nested : (k : Kernel) (o m n x : ℕ) → Holds k o (Held (Some x) m) → 1 ≤ n → n ≤ 250 → P k → P (with_content k o (Held (Some x) n))
  pub passed : (k : Kernel) (o m v x : ℕ) → Holds k o (Held (Some v) m) → x < k.settings.tasks → P k → Q (with_content k o (Held (Some x) 1))
  pub freed : (k : Kernel) (o m v : ℕ) → Holds k o (Held (Some v) m) → list_at k.pend o ≡ [] → P k → Q (with_content k o (Held None 0))
  pub deleted : (k : Kernel) (o : ℕ) (v : Option ℕ) (n : ℕ) → Holds k o (Held v n) → list_at k.pend o ≡ [] → Q k → Q (without_object o k)
  pub deleted_kept : (k : Kernel) (o : ℕ) (content : Content) → Holds k o content → is_plain content ≡ true → list_at k.pend o ≡ [] → P k → P (without_object o k)
  -- timers: one runs, rests, is deleted
  pub timer_runs : (k : Kernel) (o after : ℕ) (t : Timer) → IsTimer k o t → P k → P (runs o t after k)
  pub timer_rests : (k : Kernel) (o : ℕ) (t : Timer) (state : TimerState) → IsTimer k o t → state ≢ Running → P k → P (rests o t state k)
  pub timer_deleted : (k : Kernel) (o : ℕ) (t : Timer) → IsLinked k → (object_at k o).content ≡ Timed t → t.state ≢ Running → P k → P (record k { objects = update_object k.objects o (λ b. record b { deleted = true }) })
  -- tasks: what no invariant speaks of, a base priority, a task's own messages, a result, an end, a trap, the internal ones
  pub task : (k : Kernel) (x : ℕ) (f : Task → Task) → ((t : Task) → shape (f t) ≡ shape t) → P k → P (with_task k x f)
  pub based : (k : Kernel) (x p : ℕ) → x < 60 → 1 ≤ p → p ≤ 62 → P k → Q (with_task k x (λ t. record t { base = p }))
  pub stores : (k : Kernel) (x : ℕ) (ms : List (ℕ × ℕ)) → HasRoom ms (task_at k x) → AreMessageWords ms → P k → P (with_task k x (λ t. record t { messages = ms }))
  pub answers : (k : Kernel) (x : ℕ) (a : Option Finished) → IsResultForAny a → P k → P (with_task k x (λ t. record t { answered = a }))
  pub ended : (k : Kernel) (outcome : Outcome) (x : ℕ) → IsLinked k → x < 60 → P k → Q (task_ends outcome x k).kernel
  pub died : (k : Kernel) (x : ℕ) → IsLinked k → x < 60 → is_ready (task_at k x) ≡ true → P k → P (stopped x k)
  pub internal : (k : Kernel) (x : ℕ) (w : Waiting) → IsLinked k → (x ≡ 60) ⊎ (x ≡ 61) → (w ≡ No) ⊎ (w ≡ Signal) → P k → P (with_task k x (λ t. record t { waiting = w }))
  -- all else of the kernel
  pub rest : (k j : Kernel) → SameRest j k → P k → P j
