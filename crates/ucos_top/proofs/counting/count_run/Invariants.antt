use Rattle.std.proofs.Common.{◌≡◌, ◌≤◌, ◌+◌, List, ℕ, length}
use Rattle.served.specs.Served.{program_serves}
use Rattle.app_image.specs.Image.{ImageRecord}
use Rattle.inject_list.specs.Lists.{ListRecord}
use Rattle.machine_model.specs.declared.events.Event.{Event}
use Rattle.machine_model.specs.Machine.{start}
use Rattle.machine_model.specs.Bound.{events_left}
use Rattle.machine_model.specs.Premises.{premises}
use Rattle.program_model.specs.Summary.{counts_of}
use Rattle.ucos_top.specs.Counted.{most_events}
use Rattle.ucos_top.proofs.HistoryLaws.{HasTold}
use Rattle.ucos_top.proofs.counting.count_run.Given as goal

-- the events so far are counted and watched, they are few, and the run goes on from this machine
abbrev pub invariant-running : goal.invariant-running
invariant-running l = record {
  counted : (events : List Event) × (l.counts ≡ counts_of events) × (l.premises ≡ premises events) × (length events + events_left l.count l.machine.state ≤ most_events)
      × ((image : ImageRecord) (list : ListRecord) → l.fn.machine.state ≡ start image list → (front : List ℕ) × HasTold program_serves l.fn.machine.method image list l.count front events l.machine.state);
  method : l.machine.method ≡ l.fn.machine.method;
  within : l.machine.state.t ≤ l.count;
  bound : l.count ≤ 1000000;
}

-- the events that may still come
abbrev pub decreases-running : goal.decreases-running
decreases-running l = events_left l.count l.machine.state
