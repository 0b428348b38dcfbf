-- What is decided of a call on a timer, and how the timer and its match change, by a call and when it fires.
use Rattle.std.specs.Prelude.{ℕ, ◌+◌, ◌-◌, ◌%◌, ◌^◌, Bool, true, false, List, [], ◌∷◌, ◌++◌, if◌then◌else◌}
use Rattle.kern_base.specs.declared.services.Service.{Service}
use Rattle.kern_base.specs.declared.services.Service.TheVariants.{TmrStart, TmrStop, TmrRemainGet, TmrStateGet, TmrDel}
use Rattle.kern_base.specs.declared.errors.OsErr.TheVariants.{TimerStopped}
use Rattle.kern_base.specs.declared.outcomes.Decision.{Decision}
use Rattle.kern_base.specs.declared.outcomes.Decision.TheVariants.{Done}
use Rattle.kern_model.specs.State.{Timer, TimerState, Stopped, Running, Completed}
use Rattle.kern_model.specs.Effect.{fine, unmatched}
use Rattle.kern_model.specs.Timers.{match_of, start_delay, state_number}
use Rattle.decisions.specs.Rows.{refusal}
use Rattle.tick_timers.specs.TimerRecord.{TimerRecord}

abbrev pub is_timer_call : Service → Bool
is_timer_call TmrStart = true
is_timer_call TmrStop = true
is_timer_call TmrRemainGet = true
is_timer_call TmrStateGet = true
is_timer_call TmrDel = true
is_timer_call _ = false

-- how much is left until the timer of object o fires, or of a stopped timer what a start would add
abbrev pub time_left : TimerState → Timer → ℕ → TimerRecord → ℕ
time_left Running t o v = (match_of o v.matches + 2 ^ 32 - v.count) % 2 ^ 32
time_left Stopped t o v = start_delay t
time_left Completed t o v = 0

-- a timer that does not run can not be stopped
abbrev pub stop_decision : TimerState → Decision
stop_decision Running = Done (fine 0)
stop_decision state = refusal TimerStopped

-- the decision on a call on the timer of object o
abbrev pub timer_decision : Service → Timer → ℕ → TimerRecord → Decision
timer_decision TmrStop t o v = stop_decision t.state
timer_decision TmrRemainGet t o v = Done (fine (time_left t.state t o v))
timer_decision TmrStateGet t o v = Done (fine (state_number t.state))
timer_decision _ t o v = Done (fine 0)

-- the matches after object o has got the one after so many counts, as the last
abbrev pub matched_from : ℕ → ℕ → TimerRecord → List (ℕ × ℕ)
matched_from o after v = unmatched o v.matches ++ (o, (v.count + after) % 2 ^ 32) ∷ []

-- a timer after a call on it that is not refused
abbrev pub after_call : Service → Timer → Timer
after_call TmrStart t = record t { state = Running }
after_call TmrStop t = record t { state = Stopped }
after_call TmrDel t = record t { state = Stopped }
after_call _ t = t

-- the matches after a call on the timer of object o that is not refused
abbrev pub matches_after : Service → Timer → ℕ → TimerRecord → List (ℕ × ℕ)
matches_after TmrStart t o v = matched_from o (start_delay t) v
matches_after TmrStop t o v = unmatched o v.matches
matches_after TmrDel t o v = unmatched o v.matches
matches_after _ t o v = v.matches

-- a timer after it has fired: it runs on where it is periodic
abbrev pub after_firing : Timer → Timer
after_firing t = record t { state = if t.periodic then Running else Completed }

-- the matches after the timer of object o has fired
abbrev pub matches_fired : Timer → ℕ → TimerRecord → List (ℕ × ℕ)
matches_fired t o v = if t.periodic then matched_from o t.period v else unmatched o v.matches
