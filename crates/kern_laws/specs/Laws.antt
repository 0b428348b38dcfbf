-- The laws of the kernel's definitions, each a statement over every state.
use Rattle.std.specs.Prelude.{◌≡◌, ◌⊎◌, ◌≤◌, ◌<◌, ℕ, Bool, true, false, List}
use Rattle.kern_base.specs.Checks.{is_post}
use Rattle.kern_base.specs.declared.services.Service.{Service}
use Rattle.kern_model.specs.State.{Kernel, task_at, is_ready, tick_task, timer_task, application_limit}
use Rattle.kern_model.specs.Micro.{whole, lists_of}
use Rattle.kern_model.specs.Call.{Call}
use Rattle.kern_model.specs.Services.{effect, unit_effect, posted, cost, half, renews}
use Rattle.kern_model.specs.Finish.{finished}
use Rattle.kern_model.specs.Stop.{stopped, callback_ended}
use Rattle.kern_model.specs.Posts.{PostKeeps}
use Rattle.kern_model.specs.Start.{start_state}
use Rattle.app_image.specs.Image.{ImageRecord, IsValidImage}
use Rattle.app_image.specs.Layout.{HasWords}
use Rattle.kern_model.specs.Valid.{IsValid, MayCall, IsRequest}
use Rattle.kern_model.specs.Pool.{pool_of}

-- After all its micro-steps a call's half-made lists are the lists of its effect.
abbrev pub HalfEndsAsEffect : Type 0
HalfEndsAsEffect = (served : Service → Bool) (call : Call) (k : Kernel) → half (effect served call k) k (cost (effect served call k) k) ≡ whole (lists_of (effect served call k).kernel)

-- And those of a unit of the tick task or the timer task.
abbrev pub HalfEndsAsUnit : Type 0
HalfEndsAsUnit = (x : ℕ) (k : Kernel) → half (unit_effect x k) k (cost (unit_effect x k) k) ≡ whole (lists_of (unit_effect x k).kernel)

-- The kernel at the start of a valid image, whose numbers are words, is valid.
abbrev pub StartIsValid : Type 0
StartIsValid = (image : ImageRecord) → IsValidImage image → HasWords image → IsValid (start_state image)

-- A call keeps the kernel valid: a post by anybody, any other by a task that may call.
abbrev pub EffectKeepsValid : Type 0
EffectKeepsValid = (served : Service → Bool) (call : Call) (k : Kernel) → IsValid k → (is_post call.request.service ≡ false → MayCall call.caller k) → IsRequest call.request → IsValid (effect served call k).kernel

-- A unit of a ready internal task keeps it valid; that of the timer task, where no callback runs.
abbrev pub UnitKeepsValid : Type 0
UnitKeepsValid = (x : ℕ) (k : Kernel) → IsValid k → (x ≡ tick_task) ⊎ (x ≡ timer_task) → is_ready (task_at k x) ≡ true → (x ≡ timer_task → k.in_callback ≡ false) → IsValid (unit_effect x k).kernel

-- So does a task that reads the result of its wait.
abbrev pub FinishKeepsValid : Type 0
FinishKeepsValid = (x : ℕ) (k : Kernel) → IsValid k → IsValid (finished x k)

-- So does the trap of a ready application task, while the timer task is not processing.
abbrev pub TrapKeepsValid : Type 0
TrapKeepsValid = (x : ℕ) (k : Kernel) → IsValid k → x < application_limit → is_ready (task_at k x) ≡ true → k.processing ≡ false → IsValid (stopped x k)

-- So does the end of a callback.
abbrev pub CallbackEndKeepsValid : Type 0
CallbackEndKeepsValid = (k : Kernel) → IsValid k → IsValid (callback_ended k)

-- A post changes no present priority, no lock, and none of the rest of these.
abbrev pub PostsKeep : Type 0
PostsKeep = (served : Service → Bool) (s : Service) (args : List ℕ) (c h : ℕ) (k : Kernel) → is_post s ≡ true → PostKeeps k (posted served s args c h k).kernel

-- A call takes at most 32,000 micro-steps, and at most 1,200 where its service renews no priorities.
abbrev pub CostIsBounded : Type 0
CostIsBounded = (served : Service → Bool) (call : Call) (k : Kernel) → IsValid k → (is_post call.request.service ≡ false → MayCall call.caller k) → cost (effect served call k) k ≤ 32000

abbrev pub QuickCostIsBounded : Type 0
QuickCostIsBounded = (served : Service → Bool) (call : Call) (k : Kernel) → IsValid k → renews call.request.service ≡ false → cost (effect served call k) k ≤ 1200

abbrev pub UnitCostIsBounded : Type 0
UnitCostIsBounded = (x : ℕ) (k : Kernel) → IsValid k → cost (unit_effect x k) k ≤ 32000

-- No call, unit, finish or trap loses or makes a message: stored and free ones together stay as many.
abbrev pub EffectKeepsMessages : Type 0
EffectKeepsMessages = (served : Service → Bool) (call : Call) (k : Kernel) → IsValid k → (is_post call.request.service ≡ false → MayCall call.caller k) → pool_of (effect served call k).kernel ≡ pool_of k

abbrev pub UnitKeepsMessages : Type 0
UnitKeepsMessages = (x : ℕ) (k : Kernel) → pool_of (unit_effect x k).kernel ≡ pool_of k

abbrev pub FinishKeepsMessages : Type 0
FinishKeepsMessages = (x : ℕ) (k : Kernel) → pool_of (finished x k) ≡ pool_of k

abbrev pub TrapKeepsMessages : Type 0
TrapKeepsMessages = (x : ℕ) (k : Kernel) → pool_of (stopped x k) ≡ pool_of k
