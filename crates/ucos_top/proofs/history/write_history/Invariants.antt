use Rattle.std.proofs.Common.{◌≡◌, ◌≤◌, List, ℕ}
use Rattle.std.specs.Io.KnownBytes.{Appends}
use Rattle.served.specs.Served.{program_serves}
use Rattle.inject_list.specs.Lists.{ListRecord}
use Rattle.machine_model.specs.declared.events.Event.{Event}
use Rattle.machine_model.specs.Machine.{start}
use Rattle.machine_model.specs.Bound.{events_left}
use Rattle.machine_model.specs.Premises.{premises}
use Rattle.ucos_top.proofs.HistoryLaws.{HasTold}
use Rattle.ucos_top.proofs.history.write_history.Given as goal

-- what was told so far is written, its events are watched, and the run goes on from this machine
abbrev pub invariant-running : goal.invariant-running
invariant-running g l = record {
  written : (front : List ℕ) × (events : List Event) × Appends (g.K.Sink.held l.fn.sink) (g.K.Sink.held l.sink) front × (l.premises ≡ premises events)
      × ((list : ListRecord) → l.fn.machine.state ≡ start l.image list → HasTold program_serves l.fn.machine.method l.image list l.count front events l.machine.state);
  method : l.machine.method ≡ l.fn.machine.method;
  within : l.machine.state.t ≤ l.count;
  bound : l.count ≤ 1000000;
  later : g.K.Sink.faults l.fn.sink ≤ g.K.Sink.faults l.sink;
}

-- the events that may still come
abbrev pub decreases-running : goal.decreases-running
decreases-running g l = events_left l.count l.machine.state
