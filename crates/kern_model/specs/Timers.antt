-- The services of timers, and the timer task's units of work.
use Rattle.std.specs.Prelude.{ℕ, ◌+◌, ◌-◌, ◌%◌, ◌^◌, Bool, true, false, ◌&&◌, List, [], ◌∷◌, ◌++◌, if◌then◌else◌, ◌==◌, Option, Some, None}
use Rattle.kern_base.specs.declared.outcomes.Outcome.TheVariants.{Quiet}
use Rattle.kern_base.specs.declared.outcomes.UnitEnd.TheVariants.{TmrTick, Fire, TmrEnd}
use Rattle.kern_base.specs.declared.requests.Request.{Request}
use Rattle.kern_base.specs.declared.errors.OsErr.TheVariants.{ObjectType, TimerStopped}
use Rattle.kern_model.specs.State.{Kernel, Timer, TimerState, Stopped, Running, Completed, Content, Timed, object_at, update_object, with_content, timer_task}
use Rattle.kern_model.specs.Effect.{Effect, refused, done, fine, unmatched}
use Rattle.kern_model.specs.Checks.{argument}
use Rattle.kern_model.specs.Time.{waits_for_signal}

-- what a start adds to the timer count: the delay, or of a periodic timer without one its period
abbrev pub start_delay : Timer → ℕ
start_delay t = if t.periodic && (t.delay == 0) then t.period else t.delay

-- the timer runs, with the match after this one, as the last that got a match
abbrev pub runs : ℕ → Timer → ℕ → Kernel → Kernel
runs o t after k =
    record (with_content k o (Timed (record t { state = Running }))) { timer_matches = unmatched o k.timer_matches ++ (o, (k.timer_count + after) % 2 ^ 32) ∷ [] }

-- the timer has this state, and no match
abbrev pub rests : ℕ → Timer → TimerState → Kernel → Kernel
rests o t state k = record (with_content k o (Timed (record t { state = state }))) { timer_matches = unmatched o k.timer_matches }

-- OSTmrStart: the timer runs, from now on where it ran before.
abbrev pub tmr_start : Content → Request → Kernel → Effect
tmr_start (Timed t) r k = let timer = argument r 0 in done (runs timer t (start_delay t) k) (fine 0)
tmr_start content r k = refused k ObjectType

-- OSTmrStop: a running timer stops.
abbrev pub tmr_stop_in : TimerState → Timer → ℕ → Kernel → Effect
tmr_stop_in Running t o k = done (rests o t Stopped k) (fine 0)
tmr_stop_in state t o k = refused k TimerStopped

-- OSTmrStop on what an object holds
abbrev pub tmr_stop : Content → Request → Kernel → Effect
tmr_stop (Timed t) r k = let timer = argument r 0 in tmr_stop_in t.state t timer k
tmr_stop content r k = refused k ObjectType

-- the match of a timer that has one
abbrev pub match_of : ℕ → List (ℕ × ℕ) → ℕ
match_of o [] = 0
match_of o (m ∷ ms) = if m.0 == o then m.1 else match_of o ms

-- OSTmrRemainGet: how much is left until the timer fires, or of a stopped timer what a start would add.
abbrev pub remains : TimerState → Timer → ℕ → Kernel → ℕ
remains Running t o k = (match_of o k.timer_matches + 2 ^ 32 - k.timer_count) % 2 ^ 32
remains Stopped t o k = start_delay t
remains Completed t o k = 0

-- OSTmrRemainGet on what an object holds
abbrev pub tmr_remain_get : Content → Request → Kernel → Effect
tmr_remain_get (Timed t) r k = let timer = argument r 0 in done k (fine (remains t.state t timer k))
tmr_remain_get content r k = refused k ObjectType

-- OSTmrStateGet: the timer's state as a number.
abbrev pub state_number : TimerState → ℕ
state_number Stopped = 1
state_number Running = 2
state_number Completed = 3

-- OSTmrStateGet on what an object holds
abbrev pub tmr_state_get : Content → Kernel → Effect
tmr_state_get (Timed t) k = done k (fine (state_number t.state))
tmr_state_get content k = refused k ObjectType

-- OSTmrDel: the timer stops, and is deleted.
abbrev pub tmr_del : Content → Request → Kernel → Effect
tmr_del (Timed t) r k =
    let timer = argument r 0 in
    let j = rests timer t Stopped k in
    done (record j { objects = update_object j.objects timer (λ b. record b { deleted = true }) }) (fine 0)
tmr_del content r k = refused k ObjectType

-- the first of the running timers whose match is the timer count
abbrev pub due_timer : ℕ → List (ℕ × ℕ) → Option ℕ
due_timer count [] = None
due_timer count (m ∷ ms) = if m.1 == count then Some m.0 else due_timer count ms

-- whether a timer has a callback
abbrev pub has_callback : Option ℕ → Bool
has_callback None = false
has_callback (Some address) = true

-- The timer task's units. It takes a signal, counts, and locks the scheduler.
abbrev pub timer_counts : Kernel → Effect
timer_counts k =
    let count = (k.timer_count + 1) % 2 ^ 32 in
    record {
      kernel = record k { timer_count = count; timer_signals = k.timer_signals - 1; lock = 1; processing = true };
      outcome = Quiet (TmrTick count);
      blocks = [];
    }

-- A due timer fires: it is completed, or runs again where it is periodic; its callback begins, where it has one.
abbrev pub fired : ℕ → Content → Kernel → Kernel
fired o (Timed t) k =
    record (if t.periodic then runs o t t.period k else rests o t Completed k) { in_callback = has_callback t.callback }
fired o content k = k

-- the unit in which a timer fires
abbrev pub timer_fires : ℕ → Kernel → Effect
timer_fires o k =
    record { kernel = fired o (object_at k o).content k; outcome = Quiet (Fire (record { 0 = o })); blocks = [] }

-- No timer is due any more: the lock is 0, and it waits where no signal is left.
abbrev pub timer_ends : Kernel → Effect
timer_ends k =
    let e : Effect = record { kernel = record k { lock = 0; processing = false }; outcome = Quiet TmrEnd; blocks = [] } in
    if k.timer_signals == 0 then waits_for_signal timer_task e else e

-- the next due timer fires, or none is due
abbrev pub timer_goes_on : Option ℕ → Kernel → Effect
timer_goes_on (Some o) k = timer_fires o k
timer_goes_on None k = timer_ends k

-- the unit of the timer task: it counts, or goes on with what is due
abbrev pub timer_unit : Kernel → Effect
timer_unit k = if k.processing then timer_goes_on (due_timer k.timer_count k.timer_matches) k else timer_counts k
