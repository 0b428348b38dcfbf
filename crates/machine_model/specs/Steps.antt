-- The whole step in hand: one micro-step of it, and its end.
use Rattle.std.specs.Prelude.{ℕ, ◌+◌, Bool, false, not, ◌&&◌, ◌||◌, List, [], ◌∷◌, ◌++◌, Option, Some, None, if◌then◌else◌, ◌==◌, slice_set, replicate}
use Rattle.kern_base.specs.declared.services.Service.{Service}
use Rattle.kern_base.specs.Services.{argument_count}
use Rattle.kern_base.specs.declared.outcomes.UnitEnd.{UnitEnd}
use Rattle.kern_base.specs.declared.outcomes.UnitEnd.TheVariants as unit
use Rattle.kern_base.specs.declared.outcomes.Outcome.{Outcome}
use Rattle.kern_base.specs.declared.outcomes.Outcome.TheVariants as outcome
use Rattle.kern_model.specs.State.{Kernel, Task, Content, Timed, object_at, is_ready, timer_task}
use Rattle.kern_model.specs.Services.{cost}
use Rattle.rv32_exec.specs.Registers.{Registers}
use Rattle.app_image.specs.declared.settings.Config.{Config}
use Rattle.kern_base.specs.Numbers.{leave}
use Rattle.machine_model.specs.Queue.{Queued, without_front}
use Rattle.machine_model.specs.declared.events.What.{What}
use Rattle.machine_model.specs.declared.events.What.TheVariants.{Quiet, Wait, Gone, Tick, Tmr, Fire, Take}
use Rattle.machine_model.specs.Machine.{Machine, Work, CallOf, UnitOf, TakeOf, WholeStep, effect_of, registers_at, after_step}
use Rattle.machine_model.specs.Answers.{Change, task_id, arguments, with_answer, with_table, entries, returned}
use Rattle.machine_model.specs.Interrupts.{answer_in}
use Rattle.machine_model.specs.Settling.{settled}

-- nothing is in hand any more, and a task step is done
abbrev pub free : Kernel → Machine → Machine
free k m = record m { kernel = k; in_hand = None; t = m.t + 1 }

-- the end of a call of x: it has its answer, or waits, or has deleted itself
abbrev pub call_ends : ℕ → Service → Outcome → Kernel → Machine → Change
call_ends x s (outcome.Answered a taken) k m =
    record {
      what = returned x s a (entries taken);
      machine = settled (after_step (record m { in_hand = None; memory = with_table taken m.memory }) k x (with_answer s a (registers_at m x)));
    }
call_ends x s outcome.Waits k m = record { what = Wait (task_id x) s; machine = settled (free k m) }
call_ends x s outcome.Gone k m = record { what = Gone (task_id x); machine = settled (free k m) }
call_ends x s (outcome.Quiet end) k m = record { what = Quiet; machine = settled (free k m) }

-- the registers of a timer's callback at its start: the timer's number in a0, its argument in a1, the stack pointer of the
-- settings, LEAVE to return to, and else 0
abbrev pub callback_registers : Config → ℕ → ℕ → ℕ → Registers
callback_registers config o address argument =
    record { pc = address; x = 0 ∷ leave ∷ config.tmr_sp ∷ replicate 7 0 ++ (o ∷ argument ∷ []) ++ replicate 20 0 }

-- the registers of all tasks once the timer with this callback has fired
abbrev pub with_callback : Config → ℕ → Option ℕ → ℕ → List Registers → List Registers
with_callback config o None argument registers = registers
with_callback config o (Some address) argument registers = slice_set registers timer_task (callback_registers config o address argument)

-- the registers once the object has fired, which holds this
abbrev pub after_fire : Config → ℕ → Content → List Registers → List Registers
after_fire config o (Timed t) registers = with_callback config o t.callback t.argument registers
after_fire config o content registers = registers

-- what is told of the end of a unit
abbrev pub unit_line : UnitEnd → What
unit_line (unit.Tick count) = Tick count
unit_line (unit.TmrTick count) = Tmr count
unit_line (unit.Fire o) = Fire o
unit_line unit.TmrEnd = Quiet

-- the registers after the end of a unit
abbrev pub unit_registers : Machine → UnitEnd → List Registers
unit_registers m (unit.Fire o) = after_fire m.config o.0 (object_at m.kernel o.0).content m.registers
unit_registers m end = m.registers

-- the end of a unit of an internal task
abbrev pub unit_ends : Outcome → Kernel → Machine → Change
unit_ends (outcome.Quiet end) k m =
    record { what = unit_line end; machine = settled (record (free k m) { registers = unit_registers m end }) }
unit_ends other k m = record { what = Quiet; machine = settled (free k m) }

-- a task of this priority is ready, and was not
abbrev pub is_readied : ℕ → Task → Task → Bool
is_readied p before after = not (is_ready before) && (is_ready after && (after.prio == p))

-- some task of this priority is ready, and was not
abbrev pub some_readied : ℕ → List Task → List Task → Bool
some_readied p [] after = false
some_readied p (t ∷ ts) [] = false
some_readied p (t ∷ ts) (u ∷ us) = is_readied p t u || some_readied p ts us

-- with the literal insertion rule, whether a take readied a task of the priority that was saved with its post
abbrev pub readies_same : Config → ℕ → Kernel → Kernel → Bool
readies_same config saved before after = (config.insert == 1) && some_readied saved before.tasks after.tasks

-- the end of a take: the post leaves the queue
abbrev pub take_ends : Queued → Outcome → Kernel → Machine → Change
take_ends q o k m =
    let a = answer_in o in
    record {
      what = Take q.service (arguments q.service q.args) (argument_count q.service) a.err a.value (readies_same m.config q.saved m.kernel k);
      machine = settled (record m { kernel = k; in_hand = None; later = without_front m.later });
    }

-- the end of a whole step
abbrev pub ends : Work → Outcome → Kernel → Machine → Change
ends (CallOf x r p) o k m = call_ends x r.service o k m
ends (UnitOf x) o k m = unit_ends o k m
ends (TakeOf q) o k m = take_ends q o k m

-- one micro-step of the whole step in hand; its whole effect comes with the last one
abbrev pub advances : (Service → Bool) → WholeStep → Machine → Change
advances served w m =
    let e = effect_of served m.config w.work m.kernel in
    if w.done + 1 == cost e m.kernel then ends w.work e.outcome e.kernel m
    else record { what = Quiet; machine = record m { in_hand = Some (record { work = w.work; done = w.done + 1 }) } }

-- a whole step begins
abbrev pub begins : Work → Machine → Machine
begins work m = record m { in_hand = Some (record { work = work; done = 0 }) }
