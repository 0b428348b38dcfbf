-- What the last micro-step of a work makes in the records: what was decided of a call, a tick, or a unit of an internal task.
use Rattle.std.specs.Prelude.{◌≡◌, ◌<◌, ◌≤◌, ℕ, ◌+◌, ◌%◌, ◌^◌, Bool, true, false, All, List, if◌then◌else◌, ◌==◌}
use Rattle.kern_base.specs.declared.outcomes.Decision.TheVariants.{Block}
use Rattle.kern_base.specs.declared.outcomes.Outcome.{Outcome}
use Rattle.kern_base.specs.declared.outcomes.Outcome.TheVariants.{Quiet}
use Rattle.kern_base.specs.declared.outcomes.UnitEnd.TheVariants.{Tick}
use Rattle.kern_model.specs.State.{Kernel, nesting_limit, task_at, tick_task}
use Rattle.kern_model.specs.Effect.{answers, fine}
use Rattle.kern_model.specs.Timers.{timer_unit}
use Rattle.tick_timers.specs.Matches.{IsUnmatched}
use Rattle.link_plans.specs.declared.plan.Plan.{Plan}
use Rattle.kernel_records.specs.RecordsRecord.{without_lists}
use Rattle.kernel_records.specs.Deciding.{IsServedDecision, decision_of}
use Rattle.kernel_records.specs.Concluding.{AreSingle, objects_waited, outcome_after, records_after}
use Rattle.kernel_records.specs.Ticks.{HasRoom, IsInside, is_tick, records_after_tick, records_ticked}
use Rattle.kernel_calls.specs.Works.{WorkRecord}
use Rattle.kernel_calls.specs.declared.seen.Seen.{Seen}

-- a call that was decided, OSTimeTick, or a unit of the tick task or the timer task
pub data Course : Type 0 where
  OfCall : Course
  OfTick : Course
  OfUnit : Course

abbrev pub course_for : Bool → Course
course_for true = OfTick
course_for false = OfCall

abbrev pub course_of : WorkRecord → Course
course_of w = if w.unit then OfUnit else course_for (is_tick w.request.service)

-- the records after a unit of task x that wakes these, and what it came to
abbrev pub unit_records : ℕ → List ℕ → Kernel → Kernel
unit_records x xs k = if x == tick_task then records_after_tick xs k else without_lists (timer_unit k).kernel

abbrev pub unit_outcome : ℕ → Kernel → Outcome
unit_outcome x k = if x == tick_task then Quiet (Tick ((k.ticks + 1) % 2 ^ 32)) else (timer_unit k).outcome

-- the records after a work, and what it came to
abbrev pub records_by : Course → WorkRecord → Plan → Seen → Kernel → Kernel
records_by OfCall w q seen k = records_after q.decision w.request seen.around.caller.0 seen.around.first q.woken.items k
records_by OfTick w q seen k = records_ticked seen.turn k
records_by OfUnit w q seen k = unit_records w.caller q.woken.items k

abbrev pub outcome_by : Course → WorkRecord → Plan → Seen → Kernel → Outcome
outcome_by OfCall w q seen k = outcome_after q.decision w.request seen.around.caller.0 q.woken.items k
outcome_by OfTick w q seen k = answers (fine 0)
outcome_by OfUnit w q seen k = unit_outcome w.caller k

-- What was decided of a call can be made in the records.
pub record CallMayEnd (w : WorkRecord) (q : Plan) (seen : Seen) (k : Kernel) : Type 0 where
  pub call : is_tick w.request.service ≡ false
  pub caller : seen.around.caller.0 < 64
  pub decided : q.decision ≡ decision_of w.request seen.around k
  pub served : IsServedDecision q.decision w.request.service
  pub nesting : (x : ℕ) → (task_at k x).suspended ≤ nesting_limit
  pub woken : All (λ x. x < 64) q.woken.items
  pub single : AreSingle k
  pub fresh : q.decision ≡ Block → IsUnmatched seen.around.caller.0 k.matches
  pub objects : All (λ o. o < 64) (objects_waited q.decision w.request)

-- so can a tick, and a unit
abbrev pub MayEnd : Course → WorkRecord → Plan → Seen → Kernel → Type 0
MayEnd OfCall w q seen k = CallMayEnd w q seen k
MayEnd OfTick w q seen k = HasRoom k × IsInside seen.turn
MayEnd OfUnit w q seen k = All (λ x. x < 64) q.woken.items × AreSingle k
