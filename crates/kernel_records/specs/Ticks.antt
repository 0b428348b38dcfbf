-- Ticks in the records: OSTimeTick, and the tick task's unit.
use Rattle.std.specs.Prelude.{◌<◌, ℕ, ◌+◌, ◌-◌, ◌%◌, ◌^◌, Bool, true, false, not, List, [], ◌∷◌, if◌then◌else◌, ◌==◌, nat_lt}
use Rattle.kern_base.specs.declared.errors.OsErr.TheVariants.{Timeout}
use Rattle.kern_base.specs.declared.outcomes.Answer.{Answer}
use Rattle.kern_base.specs.declared.outcomes.Outcome.TheVariants.{Quiet}
use Rattle.kern_base.specs.declared.outcomes.UnitEnd.TheVariants.{Tick}
use Rattle.kern_base.specs.declared.outcomes.Waiting.{Waiting}
pub use Rattle.kernel_records.specs.SchedulerCalls.{is_tick}
use Rattle.kern_base.specs.declared.outcomes.Waiting.TheVariants.{Delay, Signal}
use Rattle.kern_model.specs.State.{Kernel, Task, prio_of, update_task, tick_task}
use Rattle.kern_model.specs.Effect.{Effect, answer, fine, woken}
use Rattle.kern_model.specs.Time.{due, signals_tick, signals_timer, timed_out, waits_for_signal}
use Rattle.round_robin.specs.declared.turns.Turn.{Turn}
use Rattle.round_robin.specs.declared.turns.Turn.TheVariants.{Stays, Spends, Rotates}
use Rattle.round_robin.specs.Turns.{turned_tasks}
use Rattle.kernel_records.specs.Concluding.{given}

-- one more signal of the tick task and of the timer task can be counted
pub record HasRoom (k : Kernel) : Type 0 where
  pub tick : k.tick_signals < 2 ^ 64 - 1
  pub timer : k.timer_signals < 2 ^ 64 - 1

-- the tasks of a turn are tasks
abbrev pub IsInside : Turn → Type 0
IsInside Stays = Unit {0}
IsInside (Spends y) = y.0 < 64
IsInside (Rotates y z) = (y.0 < 64) × (z.0 < 64)

-- whether the next OSTimeTick signals the timer task
abbrev pub signals_next : Kernel → Bool
signals_next k = not (nat_lt (k.tick_calls + 1) k.settings.tmr_div)

-- The records after OSTimeTick: the tick task gets a signal, the tasks of the interrupted priority take turns, and the timer task
-- gets a signal where it is its time. Which task is compared with which is seen in the lists alone.
abbrev pub records_ticked : Turn → Kernel → Kernel
records_ticked turn k = (signals_timer 0 (turned_tasks turn (signals_tick 0 k).kernel)).kernel

-- whether a task that waits so waits for its next signal
abbrev pub is_signal : Waiting → Bool
is_signal Signal = true
is_signal _ = false

-- the answer of a wait that ends at its tick: a delay ends without an error, any other wait times out
abbrev pub answer_at_tick : Waiting → Answer
answer_at_tick Delay = fine 0
answer_at_tick _ = answer Timeout 0

-- the task has spent from its quantum
abbrev pub spent_task : Task → Task
spent_task t = record t { quantum = t.quantum - 1 }

-- the records after the waits of these have ended at their tick, in order
abbrev pub timed_out_all : List ℕ → Kernel → Kernel
timed_out_all [] k = k
timed_out_all (x ∷ xs) k = timed_out_all xs (given x (λ t. timed_out t.waiting t) k)

-- an internal task waits for its next signal
abbrev pub resting_task : Task → Task
resting_task t = record t { waiting = Signal }

-- The records after the tick task's unit: it has taken a signal and counted the tick, these waits have ended, and after its last
-- signal it waits again.
abbrev pub counted : Kernel → Kernel
counted k = record k { ticks = (k.ticks + 1) % 2 ^ 32; tick_signals = k.tick_signals - 1 }

abbrev pub rests_if : Bool → Kernel → Kernel
rests_if last k = record k { tasks = if last then update_task k.tasks tick_task resting_task else k.tasks }

abbrev pub records_after_tick : List ℕ → Kernel → Kernel
records_after_tick xs k = rests_if (k.tick_signals == 1) (timed_out_all xs (counted k))

-- The tick task's unit without its renewal of priorities: the waits end whose match the tick is.
abbrev pub plain_ticked : Kernel → Effect
plain_ticked k =
    let tick = (k.ticks + 1) % 2 ^ 32 in
    let e = woken (λ t. timed_out t.waiting t) (fine 0) (prio_of k tick_task) (due tick k.matches) (counted k) in
    record { kernel = e.kernel; outcome = Quiet (Tick tick); blocks = e.blocks }

-- and after its last signal the tick task waits again
abbrev pub plain_tick_unit : Kernel → Effect
plain_tick_unit k = if k.tick_signals == 1 then waits_for_signal tick_task (plain_ticked k) else plain_ticked k
