-- The services of time, the tick, and the tick task's unit of work.
use Rattle.std.specs.Prelude.{ℕ, zero, suc, ◌+◌, ◌-◌, ◌%◌, ◌^◌, List, [], ◌∷◌, ◌++◌, if◌then◌else◌, ◌==◌, nat_lt, map, filter}
use Rattle.kern_base.specs.declared.outcomes.Waiting.{Waiting}
use Rattle.kern_base.specs.declared.outcomes.Waiting.TheVariants.{No, Delay, Signal}
use Rattle.kern_base.specs.declared.outcomes.Finished.{Finished}
use Rattle.kern_base.specs.declared.outcomes.Outcome.TheVariants.{Quiet}
use Rattle.kern_base.specs.declared.outcomes.UnitEnd.TheVariants.{Tick}
use Rattle.kern_base.specs.declared.requests.Request.{Request}
use Rattle.kern_base.specs.declared.errors.OsErr.TheVariants.{SchedLocked, ZeroDelay, TaskNotDelayed, TaskSuspended, Timeout}
use Rattle.kern_model.specs.State.{Kernel, Task, task_at, prio_of, update_list, update_task, without, is_zero, tick_task, timer_task}
use Rattle.kern_model.specs.Micro.{unready, readied, join_place, at_tail}
use Rattle.kern_model.specs.Effect.{Effect, refused, done, answer, answers, fine, woken, waited, result_of, joined, blocks_on, waits_for, and_then}
use Rattle.kern_model.specs.Options.{waits_until}
use Rattle.kern_model.specs.Checks.{argument, named_task}
use Rattle.kern_model.specs.Inherit.{renewing}
use Rattle.kern_model.specs.RoundRobin.{round_robin}

-- OSTimeDly: the caller waits for so many ticks, or with option 1 until the tick counter has this value.
abbrev pub delay_of : Request → ℕ → ℕ
delay_of r ticks =
    let time = argument r 0 in
    let option = argument r 1 in
    if waits_until option then (time + 2 ^ 32 - ticks) % 2 ^ 32 else time

-- the caller waits for so many ticks, but not for none
abbrev pub delays : ℕ → ℕ → Kernel → Effect
delays zero x k = refused k ZeroDelay
delays (suc n) x k = blocks_on k x (waits_for Delay [] (suc n))

-- OSTimeDly, which needs an unlocked scheduler
abbrev pub time_dly : Request → ℕ → Kernel → Effect
time_dly r x k = if k.lock == 0 then delays (delay_of r k.ticks) x k else refused k SchedLocked

-- OSTimeDlyResume: a task in a delay waits no more; the caller is told where it is suspended too.
abbrev pub resumes_delayed : Waiting → ℕ → ℕ → Kernel → Effect
resumes_delayed Delay x compared k =
    woken (result_of (fine 0)) (if is_zero (task_at k x).suspended then fine 0 else answer TaskSuspended 0) compared (x ∷ []) k
resumes_delayed w x compared k = refused k TaskNotDelayed

-- OSTimeDlyResume of the task that the call names
abbrev pub time_dly_resume : Request → ℕ → ℕ → Kernel → Effect
time_dly_resume r x compared k = let y = named_task r x in resumes_delayed (task_at k y).waiting y compared k

-- OSTimeGet: the tick counter.
abbrev pub time_get : Kernel → Effect
time_get k = done k (fine k.ticks)

-- an internal task that waits for a signal is ready again
abbrev pub signalled : Waiting → ℕ → ℕ → Kernel → Effect
signalled Signal x compared k =
    let p = prio_of k x in
    record {
      kernel = record k { tasks = update_task k.tasks x (λ t. record t { waiting = No }); ready = joined (join_place p compared) x p k.ready };
      outcome = answers (fine 0);
      blocks = readied x p compared ∷ [];
    }
signalled w x compared k = done k (fine 0)

-- the tick task gets a signal
abbrev pub signals_tick : ℕ → Kernel → Effect
signals_tick compared k = signalled (task_at k tick_task).waiting tick_task compared (record k { tick_signals = k.tick_signals + 1 })

-- at every so many'th call the timer task gets a signal
abbrev pub signals_timer : ℕ → Kernel → Effect
signals_timer compared k =
    if nat_lt (k.tick_calls + 1) k.settings.tmr_div then done (record k { tick_calls = k.tick_calls + 1 }) (fine 0)
    else signalled (task_at k timer_task).waiting timer_task compared (record k { tick_calls = 0; timer_signals = k.timer_signals + 1 })

-- OSTimeTick: signals the tick task, then round robin, then signals the timer task.
abbrev pub time_tick : ℕ → ℕ → Kernel → Effect
time_tick interrupted compared k = and_then (and_then (signals_tick compared k) (round_robin interrupted)) (signals_timer compared)

-- the tasks whose match is this tick, in the order in which they got it
abbrev pub due : ℕ → List (ℕ × ℕ) → List ℕ
due tick matches = map (λ m. m.0) (filter (λ m. m.1 == tick) matches)

-- the end of a delay, or of a wait with a timeout
abbrev pub timed_out : Waiting → Task → Finished
timed_out Delay t = waited Delay t (fine 0)
timed_out w t = waited w t (answer Timeout 0)

-- an internal task waits for its next signal
abbrev pub waits_for_signal : ℕ → Effect → Effect
waits_for_signal x e =
    let k = e.kernel in
    let p = prio_of k x in
    record {
      kernel = record k { tasks = update_task k.tasks x (λ t. record t { waiting = Signal }); ready = update_list k.ready p (without x) };
      outcome = e.outcome;
      blocks = e.blocks ++ unready x p ∷ [];
    }

-- The tick task's unit: it takes a signal, counts the tick, and wakes those whose match it is; priorities are renewed.
abbrev pub ticked : Kernel → Effect
ticked k =
    let tick = (k.ticks + 1) % 2 ^ 32 in
    let e = woken (λ t. timed_out t.waiting t) (fine 0) (prio_of k tick_task) (due tick k.matches) (record k { ticks = tick; tick_signals = k.tick_signals - 1 }) in
    renewing at_tail (record { kernel = e.kernel; outcome = Quiet (Tick tick); blocks = e.blocks })

-- the tick task waits again after its last signal
abbrev pub tick_unit : Kernel → Effect
tick_unit k = if k.tick_signals == 1 then waits_for_signal tick_task (ticked k) else ticked k
