-- What a timer's fields mean.
use Rattle.kern_model.specs.State as state
use Rattle.tick_timers.specs.declared.timers.Timer.{Timer}
use Rattle.tick_timers.specs.declared.timers.TimerState.{TimerState}
use Rattle.tick_timers.specs.declared.timers.TimerState.TheVariants.{Stopped, Running, Completed}

abbrev pub state_seen : TimerState → state.TimerState
state_seen Stopped = state.Stopped
state_seen Running = state.Running
state_seen Completed = state.Completed

abbrev pub timer_seen : Timer → state.Timer
timer_seen t =
    record {
      periodic = t.periodic;
      state = state_seen t.state;
      delay = t.delay;
      period = t.period;
      callback = t.callback;
      argument = t.argument;
    }
