-- What the machine keeps true of itself from event to event.
use Rattle.std.specs.Prelude.{◌≡◌, ◌⊎◌, ◌<◌, ◌≤◌, ℕ, Bool, true, false, List, [], ◌∷◌, length, All, Option, Some, None}
use Rattle.kern_base.specs.declared.kinds.Method.{Method}
use Rattle.kern_base.specs.declared.kinds.Method.TheVariants.{Direct, Deferred}
use Rattle.kern_base.specs.declared.services.Service.{Service}
use Rattle.kern_base.specs.Services.{is_post}
use Rattle.kern_model.specs.State.{Kernel, application_limit, tick_task, timer_task, task_at, is_ready, pick}
use Rattle.kern_model.specs.Services.{cost}
use Rattle.kern_model.specs.Valid.{IsLinked, MayCall}
use Rattle.app_image.specs.Image.{ImageRecord, IsValidImage}
use Rattle.app_image.specs.Layout.{HasWords}
use Rattle.app_image.specs.declared.settings.Config.{Config}
use Rattle.inject_list.specs.Lists.{ListRecord, IsValidList}
use Rattle.machine_model.specs.Queue.{Queued, front}
use Rattle.machine_model.specs.Frames.{FrameRecord, level_of}
use Rattle.machine_model.specs.Machine.{Machine, WholeStep, Work, CallOf, UnitOf, TakeOf, effect_of, start}
use Rattle.machine_model.specs.Rules.{next}

-- Frames: each is within the limit of instructions, and of a level above those below it and of 7 at most.
abbrev pub AreStacked : ℕ → List FrameRecord → Type 0
AreStacked limit [] = Unit {0}
AreStacked limit (f ∷ below) = (f.used ≤ limit) × (level_of below < f.level) × (f.level ≤ 7) × AreStacked limit below

-- a queue of posts within this size
pub record IsQueue (size : ℕ) (later : List Queued) : Type 0 where
  pub posts : All (λ q. is_post q.service ≡ true) later
  pub room : length later ≤ size

-- Under the direct method no post waits, and no frame stands while a whole step is in hand.
pub record IsDirect (later : List Queued) (hand : Option WholeStep) (frames : List FrameRecord) : Type 0 where
  pub empty : later ≡ []
  pub masked : (hand ≡ None) ⊎ (frames ≡ [])

abbrev pub Fits : Method → List Queued → Option WholeStep → List FrameRecord → Type 0
Fits Direct later hand frames = IsDirect later hand frames
Fits Deferred later hand frames = Unit {0}

-- While the scheduler is locked the current task is a ready application task, and the timer task is not processing, or it is
-- the timer task, which is processing.
abbrev pub HoldsLock : ℕ → Kernel → Type 0
HoldsLock x k = ((x < application_limit) × (is_ready (task_at k x) ≡ true) × (k.processing ≡ false)) ⊎ ((x ≡ timer_task) × (k.processing ≡ true))

-- under the direct method no frame stands; under the deferred one it does not matter
abbrev pub NoDirectFrame : Method → List FrameRecord → Type 0
NoDirectFrame Direct frames = frames ≡ []
NoDirectFrame Deferred frames = Unit {0}

-- Nothing is in hand. Where the scheduler is not locked and no post waits the current task is ready, and it is the one that
-- the scheduler picks; but under the direct method the posts of a frame may have readied others since.
pub record IsAtRest (method : Method) (k : Kernel) (current : ℕ) (later : List Queued) (frames : List FrameRecord) : Type 0 where
  pub locked : 0 < k.lock → HoldsLock current k
  pub ready : k.lock ≡ 0 → later ≡ [] → is_ready (task_at k current) ≡ true
  pub picked : k.lock ≡ 0 → later ≡ [] → NoDirectFrame method frames → current ≡ pick k

-- the current task's call, which it may make
pub record IsCallInHand (x : ℕ) (current : ℕ) (k : Kernel) : Type 0 where
  pub caller : x ≡ current
  pub may_call : MayCall x k

-- a unit of the tick task or the timer task, which is current and ready; no callback runs, and the scheduler is locked only
-- where the timer task is processing
pub record IsUnitInHand (x : ℕ) (current : ℕ) (k : Kernel) : Type 0 where
  pub worker : x ≡ current
  pub internal : (x ≡ tick_task) ⊎ (x ≡ timer_task)
  pub ready : is_ready (task_at k x) ≡ true
  pub no_callback : k.in_callback ≡ false
  pub lock : (k.lock ≡ 0) ⊎ ((x ≡ timer_task) × (k.processing ≡ true))

-- the taking of the post that waits longest, where the scheduler is not locked
pub record IsTakeInHand (q : Queued) (later : List Queued) (k : Kernel) : Type 0 where
  pub first : front later ≡ Some q
  pub unlocked : k.lock ≡ 0

-- the whole step was begun where it may
abbrev pub IsBegun : Work → Kernel → ℕ → List Queued → Type 0
IsBegun (CallOf x r p) k current later = IsCallInHand x current k
IsBegun (UnitOf x) k current later = IsUnitInHand x current k
IsBegun (TakeOf q) k current later = IsTakeInHand q later k

-- a whole step is in hand, and micro-steps are left
pub record IsInHand (served : Service → Bool) (config : Config) (w : WholeStep) (k : Kernel) (current : ℕ) (later : List Queued) : Type 0 where
  pub begun : IsBegun w.work k current later
  pub more : w.done < cost (effect_of served config w.work k) k

-- what is in hand: nothing, and the machine is at rest, or a whole step
abbrev pub IsValidHand : (Service → Bool) → Method → Config → Option WholeStep → Kernel → ℕ → List Queued → List FrameRecord → Type 0
IsValidHand served method config None k current later frames = IsAtRest method k current later frames
IsValidHand served method config (Some w) k current later frames = IsInHand served config w k current later

-- A valid machine.
pub record IsValidMachine (served : Service → Bool) (method : Method) (m : Machine) : Type 0 where
  pub kernel : IsLinked m.kernel
  pub registers : length m.registers ≡ 64
  pub frames : AreStacked m.config.isr_limit m.frames
  pub interrupts : All (λ i. i.level ≤ 7) m.interrupts
  pub queue : IsQueue m.config.defer_size m.later
  pub fits : Fits method m.later m.in_hand m.frames
  pub stands : IsValidHand served method m.config m.in_hand m.kernel m.current m.later m.frames

-- Every event keeps the machine valid.
abbrev pub NextKeepsValid : Type 0
NextKeepsValid = (served : Service → Bool) (method : Method) (m : Machine) → IsValidMachine served method m → IsValidMachine served method (next served method m).1

-- The start of a valid image with a valid list is valid.
abbrev pub StartIsValid : Type 0
StartIsValid = (served : Service → Bool) (method : Method) (image : ImageRecord) (list : ListRecord) → IsValidImage image → HasWords image → IsValidList image list → IsValidMachine served method (start image list)

-- While the timer task is processing it is the current task.
abbrev pub TimerTaskIsCurrent : Type 0
TimerTaskIsCurrent = (served : Service → Bool) (method : Method) (m : Machine) → IsValidMachine served method m → m.kernel.processing ≡ true → m.current ≡ timer_task
