-- What is planned of OSTimeTick and of a unit of the tick task or the timer task.
use Rattle.std.specs.Prelude.{ℕ, ◌+◌, ◌%◌, ◌^◌, Bool, true, false, List, [], ◌∷◌, ◌++◌, Option, Some, None, if◌then◌else◌, ◌==◌, insert}
use Rattle.kern_base.specs.declared.outcomes.Waiting.{Waiting}
use Rattle.kern_base.specs.declared.outcomes.Waiting.TheVariants.{Signal}
use Rattle.kern_model.specs.State.{Kernel, Task, list_at, task_at, prio_of, tick_task, timer_task}
use Rattle.kern_model.specs.Time.{due, signals_tick}
use Rattle.micro_steps.specs.Blocks.{place_at}
use Rattle.micro_steps.specs.declared.link.Link.{Link}
use Rattle.micro_steps.specs.declared.link.Link.TheVariants as link
use Rattle.round_robin.specs.Turns.{front, turn_in}
use Rattle.round_robin.specs.declared.turns.Turn.{Turn}
use Rattle.round_robin.specs.declared.turns.Turn.TheVariants.{Stays, Spends, Rotates}
use Rattle.kernel_records.specs.Ticks.{signals_next}
use Rattle.kernel_records.specs.TimerUnits.{timer_rests}

-- an internal task that gets a signal joins its ready list, where it waits for one
abbrev pub signal_links_of : Waiting → ℕ → ℕ → ℕ → List Link
signal_links_of Signal x p compared = link.Ready (record { 0 = x }) (record { 0 = p }) (p == compared) ∷ []
signal_links_of w x p compared = []

abbrev pub signal_links : ℕ → ℕ → Task → List Link
signal_links x compared t = signal_links_of t.waiting x t.prio compared

-- a list of ready tasks once the tick task has its signal, where its priority is that of the list or not
abbrev pub with_signalled : Waiting → Bool → Bool → List ℕ → List ℕ
with_signalled Signal true tail xs = insert xs (place_at tail xs) tick_task
with_signalled w own tail xs = xs

-- the list of the interrupted priority once the tick task, which has this record, has its signal
abbrev pub interrupted_list : Task → ℕ → ℕ → List ℕ → List ℕ
interrupted_list t interrupted compared xs = with_signalled t.waiting (t.prio == interrupted) (t.prio == compared) xs

-- the turn that the tasks of the interrupted priority take at a tick
abbrev pub tick_turn : ℕ → ℕ → Kernel → Turn
tick_turn interrupted compared k = turn_in (front (list_at (signals_tick compared k).kernel.ready interrupted)) k

-- the first task of a ready list goes to its tail
abbrev pub rotation_links : ℕ → Turn → List Link
rotation_links p (Rotates y z) = link.Unready y (record { 0 = p }) ∷ link.Ready y (record { 0 = p }) true ∷ []
rotation_links p turn = []

-- the links of OSTimeTick: the tick task gets a signal, the first task of the interrupted priority may go to the tail, and the timer
-- task may get a signal
abbrev pub tick_links : ℕ → ℕ → Turn → Kernel → List Link
tick_links interrupted compared turn k =
    signal_links tick_task compared (task_at k tick_task)
    ++ (rotation_links interrupted turn ++ (if signals_next k then signal_links timer_task compared (task_at k timer_task) else []))

-- those that a unit of this task wakes
abbrev pub unit_woken : ℕ → Kernel → List ℕ
unit_woken x k = if x == tick_task then due ((k.ticks + 1) % 2 ^ 32) k.matches else []

-- whether the task waits for its next signal after its unit
abbrev pub unit_rests : ℕ → Kernel → Bool
unit_rests x k = if x == tick_task then k.tick_signals == 1 else timer_rests k

abbrev pub unit_last : ℕ → Kernel → Option Link
unit_last x k = if unit_rests x k then Some (link.Unready (record { 0 = x }) (record { 0 = prio_of k x })) else None
