-- A whole step in hand: one call of a service, one take of a post or one unit of an internal task, one micro-step at a time.
use Rattle.std.specs.Prelude.{ℕ, Bool, true, false, ◌≡◌, ◌⊎◌, ◌+◌, None, if◌then◌else◌, replicate}
use Rattle.kern_base.specs.Checks.{IsPost}
use Rattle.kern_base.specs.declared.outcomes.Outcome.{Outcome}
use Rattle.kern_base.specs.declared.outcomes.Outcome.TheVariants.{Answered}
use Rattle.kern_base.specs.declared.requests.Request.{Request}
use Rattle.kern_base.specs.declared.services.Service.TheVariants.{TimeTick, Unknown}
use Rattle.kern_model.specs.Call.{call_of}
use Rattle.kern_model.specs.State.{Kernel, is_ready, task_at, tick_task, timer_task}
use Rattle.kern_model.specs.Effect.{Effect}
use Rattle.served.specs.Served.{program_serves}
use Rattle.kern_model.specs.Services.{effect, post_request, unit_effect}
use Rattle.kern_model.specs.Valid.{MayCall}
use Rattle.kernel_records.specs.Ticks.{HasRoom}

-- The work: its caller, its request, the priority whose list round robin looks at, the priority that readied tasks are
-- compared with, whether it is a unit of work of an internal task, which then is the caller, and how many micro-steps are done.
pub record WorkRecord : Type 0 where
  pub caller : ℕ
  pub request : Request
  pub interrupted : ℕ
  pub compared : ℕ
  pub unit : Bool
  pub done : ℕ

-- Who may begin: a task that may call, or the handler of deferred posts with one of the six posts.
abbrev pub MayBegin : ℕ → Request → Kernel → Type 0
MayBegin x r k = MayCall x k ⊎ ((x ≡ 63) × IsPost r.service × (r ≡ post_request r.service r.args))

-- Who may begin a unit: the tick task or the timer task, where it is ready, the timer task outside of a callback.
abbrev pub MayRunUnit : ℕ → Kernel → Type 0
MayRunUnit x k = ((x ≡ tick_task) ⊎ (x ≡ timer_task)) × (is_ready (task_at k x) ≡ true) × (x ≡ timer_task → k.in_callback ≡ false)

-- of OSTimeTick there is room to count one more signal of the tick task and of the timer task
abbrev pub HasRoomFor : Request → Kernel → Type 0
HasRoomFor r k = r.service ≡ TimeTick → HasRoom k

-- what a unit of task x does
unfoldable pub unit_of : ℕ → Kernel → Effect
unit_of x k = unit_effect x k

-- what the whole step does in all
abbrev pub effect_of : WorkRecord → Kernel → Effect
effect_of w k =
    if w.unit then unit_of w.caller k else effect program_serves (call_of w.request w.caller w.interrupted w.compared) k

-- the work at its beginning
abbrev pub begun : ℕ → Request → ℕ → ℕ → WorkRecord
begun x r c h = record { caller = x; request = r; interrupted = c; compared = h; unit = false; done = 0 }

-- a unit asks for no service
abbrev pub no_request : Request
no_request = record { service = Unknown 0; args = replicate 4 0; ids = replicate 8 0; n_ids = 0; table = false }

-- a unit of this task at its beginning
abbrev pub unit_begun : ℕ → WorkRecord
unit_begun x = record { caller = x; request = no_request; interrupted = 0; compared = 0; unit = true; done = 0 }

-- one micro-step later
abbrev pub stepped : WorkRecord → WorkRecord
stepped w = record w { done = w.done + 1 }

-- an answer without a table
abbrev pub IsPlainAnswer : Outcome → Type 0
IsPlainAnswer (Answered a taken) = taken ≡ None
IsPlainAnswer outcome = ⊥
