-- A run: the events from the start to the first machine with so many task steps; what it prints, and its task history.
use Rattle.std.specs.Prelude.{ℕ, zero, suc, Bool, true, false, List, [], ◌∷◌, ◌++◌, ◌==◌, flat_map}
use Rattle.kern_base.specs.declared.kinds.Method.{Method}
use Rattle.kern_base.specs.declared.services.Service.{Service}
use Rattle.app_image.specs.Image.{ImageRecord}
use Rattle.inject_list.specs.Lists.{ListRecord}
use Rattle.machine_model.specs.declared.events.Event.{Event}
use Rattle.machine_model.specs.Machine.{Machine, start}
use Rattle.machine_model.specs.Rules.{next}
use Rattle.machine_model.specs.Bound.{events_left}
use Rattle.machine_model.specs.Text.{event_text, end_line, event_history, end_history}

-- the events of a run, and the machine at its end
pub record Run : Type 0 where
  pub events : List Event
  pub last : Machine

module _ (served : Service → Bool) (method : Method) where
  -- the events from a machine on until there are n task steps, but no more than so many
  abbrev pub run_on : ℕ → ℕ → Machine → Run
  run_on n zero m = record { events = []; last = m }
  run_on n (suc more) m =
      elim (m.t == n) [
        | true ↦ record { events = []; last = m }
        | false ↦
            let e = next served method m in
            let rest = run_on n more e.1 in
            record { events = e.0 ∷ rest.events; last = rest.last }
      ]

  -- the machines before each of these events
  abbrev pub machines_on : ℕ → ℕ → Machine → List Machine
  machines_on n zero m = []
  machines_on n (suc more) m = elim (m.t == n) [ true ↦ [] | false ↦ m ∷ machines_on n more (next served method m).1 ]

  -- the run of an image and its interrupts to n task steps
  abbrev pub run : ImageRecord → ListRecord → ℕ → Run
  run image list n = let m = start image list in run_on n (events_left n m) m

  -- the machines of that run, before each of its events
  abbrev pub machines : ImageRecord → ListRecord → ℕ → List Machine
  machines image list n = let m = start image list in machines_on n (events_left n m) m

-- what a run prints: each event, and then the last line
abbrev pub text : ImageRecord → Run → List ℕ
text image r = flat_map (event_text image) r.events ++ end_line r.last.s r.last.t

-- what the run of an image and its interrupts to n task steps prints
abbrev pub run_text : (Service → Bool) → Method → ImageRecord → ListRecord → ℕ → List ℕ
run_text served method image list n = text image (run served method image list n)

-- the task history of a run: of each event what histories keep, and then the last line
abbrev pub history : ImageRecord → Run → List ℕ
history image r = flat_map (event_history image) r.events ++ end_history r.last.t
