-- A machine together with the way in which its interrupt code posts.
use Rattle.kern_base.specs.declared.kinds.Method.{Method}
use Rattle.served.specs.Served.{program_serves}
use Rattle.machine_model.specs.declared.events.Event.{Event}
use Rattle.machine_model.specs.Machine.{Machine}
use Rattle.machine_model.specs.Rules.{next}

pub record MethodMachine : Type 0 where
  pub method : Method
  pub state : Machine

-- the next event, and the machine after it
abbrev pub next_event : MethodMachine → Event
next_event m = (next program_serves m.method m.state).0

abbrev pub next_machine : MethodMachine → MethodMachine
next_machine m = record m { state = (next program_serves m.method m.state).1 }
