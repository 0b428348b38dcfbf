-- The parts of the valid kernel state beside the links, one at a time, and what it takes to keep one under each plain change.
use Rattle.kern_model.proofs.Common.{◌≡◌, ◌≢◌, ◌⊎◌, ℕ, ◌<◌, ◌≤◌, List, [], length, true, false, Option, Some, None, Waiting, No, Signal, Finished, Outcome, Kernel, Task, Settings, Timer, TimerState, Running, Content, Held, Timed, list_at, task_at, object_at, with_content, with_task, update_object, is_ready, Wait, wakes, blocked, moved, IsLinked, IsInherited, MayOwn, AreResults, AreObjects, IsOrdered, HasTimerMatches, WaitsFor, AreWords, AreMessageWords, HoldsWords}
use Rattle.kern_model.specs.Waiters.{without_object}
use Rattle.kern_model.specs.Tasks.{task_ends}
use Rattle.kern_model.specs.Timers.{runs, rests}
use Rattle.kern_model.specs.Stop.{stopped}
use Rattle.kern_laws.proofs.Changes.Each.{WaitsFit, HasRoom, IsResultForAny, IsWake, IsBlock, Holds, IsTimer, SameRest, shape, follows, is_plain, is_timed, waits_for_mutex}

abbrev pub Ordered : Kernel → Type 0
Ordered k = IsOrdered k.tasks k.pend

abbrev pub SoundObjects : Kernel → Type 0
SoundObjects k = AreObjects k.objects k.pend k.settings.tasks

abbrev pub TimerMatches : Kernel → Type 0
TimerMatches k = HasTimerMatches k.objects k.timer_matches

abbrev pub WaitForms : Kernel → Type 0
WaitForms k = (x : ℕ) → WaitsFor x (task_at k x).waiting (task_at k x)

abbrev pub ResultTables : Kernel → Type 0
ResultTables k = AreResults k.tasks

abbrev pub OwnQueues : Kernel → Type 0
OwnQueues k = (x : ℕ) → length (task_at k x).messages ≤ (task_at k x).limit

abbrev pub Words : Kernel → Type 0
Words k = AreWords k.tasks k.objects

-- all of them but the pool and the inherited priorities, with these settings
pub record Parts (s : Settings) (k : Kernel) : Type 0 where
  pub ordered : Ordered k
  pub objects : SoundObjects k
  pub timers : TimerMatches k
  pub waits : WaitForms k
  pub fits : WaitsFit k
  pub reads : ResultTables k
  pub messages : OwnQueues k
  pub words : Words k
  pub settings : k.settings ≡ s

-- Each plain change of a kernel with these parts keeps C.
pub record Keeps (s : Settings) (C : Kernel → Type 0) : Type 0 where
  pub wake : (f : Finished) (h x : ℕ) (k : Kernel) → IsWake f x k → Parts s k → C (wakes f h x k)
  pub block : (k : Kernel) (x : ℕ) (w : Wait) → IsBlock k x w → Parts s k → C (blocked k x w)
  pub moves : (place : List ℕ → ℕ) (x p : ℕ) (k : Kernel) → IsLinked k → (x < 60) ⊎ (x ≡ 61) → (task_at k x).alive ≡ true → 1 ≤ p → p ≤ 62 → Parts s k → C (moved place x p k)
  pub content : (k : Kernel) (o : ℕ) (old new : Content) → Holds k o old → follows old new ≡ true → HoldsWords new → Parts s k → C (with_content k o new)
  pub taken : (k : Kernel) (o n x : ℕ) → Holds k o (Held None n) → MayOwn k.settings.tasks x → Parts s k → C (with_content k o (Held (Some x) 1))
  pub owned : (k : Kernel) (o m n v x : ℕ) → Holds k o (Held (Some v) m) → MayOwn k.settings.tasks x → 1 ≤ n → n ≤ 250 → Parts s k → C (with_content k o (Held (Some x) n))
  pub freed : (k : Kernel) (o m v : ℕ) → Holds k o (Held (Some v) m) → list_at k.pend o ≡ [] → Parts s k → C (with_content k o (Held None 0))
  pub deleted : (k : Kernel) (o : ℕ) (content : Content) → Holds k o content → is_timed content ≡ false → list_at k.pend o ≡ [] → Parts s k → C (without_object o k)
  pub timer_runs : (k : Kernel) (o after : ℕ) (t : Timer) → IsTimer k o t → Parts s k → C (runs o t after k)
  pub timer_rests : (k : Kernel) (o : ℕ) (t : Timer) (state : TimerState) → IsTimer k o t → state ≢ Running → Parts s k → C (rests o t state k)
  pub timer_deleted : (k : Kernel) (o : ℕ) (t : Timer) → IsLinked k → (object_at k o).content ≡ Timed t → t.state ≢ Running → Parts s k → C (record k { objects = update_object k.objects o (λ b. record b { deleted = true }) })
  pub task : (k : Kernel) (x : ℕ) (f : Task → Task) → ((t : Task) → shape (f t) ≡ shape t) → Parts s k → C (with_task k x f)
  pub based : (k : Kernel) (x p : ℕ) → x < 60 → 1 ≤ p → p ≤ 62 → Parts s k → C (with_task k x (λ t. record t { base = p }))
  pub stores : (k : Kernel) (x : ℕ) (ms : List (ℕ × ℕ)) → HasRoom ms (task_at k x) → AreMessageWords ms → Parts s k → C (with_task k x (λ t. record t { messages = ms }))
  pub answers : (k : Kernel) (x : ℕ) (a : Option Finished) → IsResultForAny a → Parts s k → C (with_task k x (λ t. record t { answered = a }))
  pub ended : (k : Kernel) (outcome : Outcome) (x : ℕ) → IsLinked k → x < 60 → Parts s k → C (task_ends outcome x k).kernel
  pub died : (k : Kernel) (x : ℕ) → IsLinked k → x < 60 → is_ready (task_at k x) ≡ true → Parts s k → C (stopped x k)
  pub internal : (k : Kernel) (x : ℕ) (w : Waiting) → IsLinked k → (x ≡ 60) ⊎ (x ≡ 61) → (w ≡ No) ⊎ (w ≡ Signal) → Parts s k → C (with_task k x (λ t. record t { waiting = w }))
  pub rest : (k j : Kernel) → SameRest j k → Parts s k → C j

-- Each plain change without a renewal after it keeps the present priorities the inherited ones.
pub record KeepsInherited (s : Settings) : Type 0 where
  pub wake : (f : Finished) (h x : ℕ) (k : Kernel) → IsWake f x k → waits_for_mutex (task_at k x).waiting ≡ false → Parts s k → IsInherited k → IsInherited (wakes f h x k)
  pub block : (k : Kernel) (x : ℕ) (w : Wait) → IsBlock k x w → waits_for_mutex w.waiting ≡ false → Parts s k → IsInherited k → IsInherited (blocked k x w)
  pub content : (k : Kernel) (o : ℕ) (old new : Content) → Holds k o old → follows old new ≡ true → HoldsWords new → Parts s k → IsInherited k → IsInherited (with_content k o new)
  pub taken : (k : Kernel) (o n x : ℕ) → Holds k o (Held None n) → MayOwn k.settings.tasks x → Parts s k → IsInherited k → IsInherited (with_content k o (Held (Some x) 1))
  pub nested : (k : Kernel) (o m n x : ℕ) → Holds k o (Held (Some x) m) → 1 ≤ n → n ≤ 250 → Parts s k → IsInherited k → IsInherited (with_content k o (Held (Some x) n))
  pub deleted : (k : Kernel) (o : ℕ) (content : Content) → Holds k o content → is_plain content ≡ true → list_at k.pend o ≡ [] → Parts s k → IsInherited k → IsInherited (without_object o k)
  pub timer_runs : (k : Kernel) (o after : ℕ) (t : Timer) → IsTimer k o t → Parts s k → IsInherited k → IsInherited (runs o t after k)
  pub timer_rests : (k : Kernel) (o : ℕ) (t : Timer) (state : TimerState) → IsTimer k o t → state ≢ Running → Parts s k → IsInherited k → IsInherited (rests o t state k)
  pub timer_deleted : (k : Kernel) (o : ℕ) (t : Timer) → IsLinked k → (object_at k o).content ≡ Timed t → t.state ≢ Running → Parts s k → IsInherited k → IsInherited (record k { objects = update_object k.objects o (λ b. record b { deleted = true }) })
  pub task : (k : Kernel) (x : ℕ) (f : Task → Task) → ((t : Task) → shape (f t) ≡ shape t) → Parts s k → IsInherited k → IsInherited (with_task k x f)
  pub stores : (k : Kernel) (x : ℕ) (ms : List (ℕ × ℕ)) → HasRoom ms (task_at k x) → AreMessageWords ms → Parts s k → IsInherited k → IsInherited (with_task k x (λ t. record t { messages = ms }))
  pub answers : (k : Kernel) (x : ℕ) (a : Option Finished) → IsResultForAny a → Parts s k → IsInherited k → IsInherited (with_task k x (λ t. record t { answered = a }))
  pub died : (k : Kernel) (x : ℕ) → IsLinked k → x < 60 → is_ready (task_at k x) ≡ true → Parts s k → IsInherited k → IsInherited (stopped x k)
  pub internal : (k : Kernel) (x : ℕ) (w : Waiting) → IsLinked k → (x ≡ 60) ⊎ (x ≡ 61) → (w ≡ No) ⊎ (w ≡ Signal) → Parts s k → IsInherited k → IsInherited (with_task k x (λ t. record t { waiting = w }))
  pub rest : (k j : Kernel) → SameRest j k → Parts s k → IsInherited k → IsInherited j
