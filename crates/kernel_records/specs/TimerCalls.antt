-- Calls on timers, in the kernel: what is decided of them, and how the object that they name and the matches change; and a timer
-- that fires.
use Rattle.std.specs.Prelude.{ℕ, Bool, true, List}
use Rattle.kern_base.specs.declared.services.Service.{Service}
use Rattle.kern_base.specs.declared.services.Service.TheVariants.{TmrStart, TmrStop, TmrDel}
use Rattle.kern_base.specs.declared.errors.OsErr.TheVariants.{ObjectType}
use Rattle.kern_base.specs.declared.outcomes.Decision.{Decision}
use Rattle.kern_model.specs.State.{Kernel, Object, Content, Timer, Stopped, Timed, update_object}
use Rattle.kern_model.specs.Timers.{has_callback, rests, runs, start_delay}
use Rattle.decisions.specs.Rows.{refusal}
use Rattle.tick_timers.specs.TimerRecord.{TimerRecord}
use Rattle.tick_timers.specs.TimerCalls as timers
pub use Rattle.tick_timers.specs.TimerCalls.{is_timer_call}

-- the timer count and the matches of timers
abbrev pub counted_in : Kernel → TimerRecord
counted_in k = record { count = k.timer_count; matches = k.timer_matches }

-- the decision on a call on object o, which holds this
abbrev pub timer_decision : Service → Content → ℕ → TimerRecord → Decision
timer_decision s (Timed t) o v = timers.timer_decision s t o v
timer_decision s content o v = refusal ObjectType

-- the kernel after object o is deleted
abbrev pub object_deleted : ℕ → Kernel → Kernel
object_deleted o k = record k { objects = update_object k.objects o (λ b. record b { deleted = true }) }

-- the kernel after a call on the timer of object o that is not refused
abbrev pub timer_called : Service → ℕ → Timer → Kernel → Kernel
timer_called TmrStart o t k = runs o t (start_delay t) k
timer_called TmrStop o t k = rests o t Stopped k
timer_called TmrDel o t k = object_deleted o (rests o t Stopped k)
timer_called s o t k = k

-- the kernel after a call on object o, which holds this, where it is not refused
abbrev pub timer_change : Service → ℕ → Content → Kernel → Kernel
timer_change s o (Timed t) k = timer_called s o t k
timer_change s o content k = k

-- the object alone after such a call
abbrev pub deleted_after : Service → Bool → Bool
deleted_after TmrDel deleted = true
deleted_after s deleted = deleted

abbrev pub changed_timer : Service → Content → Object → Object
changed_timer s (Timed t) b = record { content = Timed (timers.after_call s t); deleted = deleted_after s b.deleted }
changed_timer s content b = b

-- and the matches
abbrev pub matches_changed : Service → Content → ℕ → TimerRecord → List (ℕ × ℕ)
matches_changed s (Timed t) o v = timers.matches_after s t o v
matches_changed s content o v = v.matches

-- an object after it has fired, which holds this
abbrev pub fired_object : Content → Object → Object
fired_object (Timed t) b = record b { content = Timed (timers.after_firing t) }
fired_object content b = b

-- the matches then
abbrev pub matches_firing : Content → ℕ → TimerRecord → List (ℕ × ℕ)
matches_firing (Timed t) o v = timers.matches_fired t o v
matches_firing content o v = v.matches

-- and whether a callback runs, where this was so before
abbrev pub callback_after : Content → Bool → Bool
callback_after (Timed t) before = has_callback t.callback
callback_after content before = before
