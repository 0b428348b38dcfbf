-- The machines of a run. Its events and its rules are read off them, each follows the one before it by one event, and each is
-- valid, its kernel's state whole.
use Rattle.std.specs.Prelude.{◌≡◌, All, ℕ, Bool, List, [], ◌∷◌, map}
use Rattle.kern_base.specs.declared.kinds.Method.{Method}
use Rattle.kern_base.specs.declared.services.Service.{Service}
use Rattle.app_image.specs.Image.{ImageRecord, IsValidImage}
use Rattle.app_image.specs.Layout.{HasWords}
use Rattle.inject_list.specs.Lists.{ListRecord, IsValidList}
use Rattle.machine_model.specs.Machine.{Machine, start}
use Rattle.machine_model.specs.Rules.{next}
use Rattle.machine_model.specs.Run.{machines, run}
use Rattle.machine_laws.specs.Whole.{IsWholeMachine}

-- These machines stand one after another, from the first to one behind the last, with one event between each and the next.
abbrev pub Follow : (Service → Bool) → Method → Machine → List Machine → Machine → Type 0
Follow served method first [] last = last ≡ first
Follow served method first (m ∷ ms) last = (m ≡ first) × Follow served method (next served method m).1 ms last

-- The machines of a run stand so from its start to its end.
abbrev pub MachinesFollow : Type 0
MachinesFollow = (served : Service → Bool) (method : Method) (image : ImageRecord) (list : ListRecord) (n : ℕ) → Follow served method (start image list) (machines served method image list n) (run served method image list n).last

-- The events of a run are those of its machines.
abbrev pub EventsAreOfMachines : Type 0
EventsAreOfMachines = (served : Service → Bool) (method : Method) (image : ImageRecord) (list : ListRecord) (n : ℕ) → (run served method image list n).events ≡ map (λ m. (next served method m).0) (machines served method image list n)

-- every machine of a run, and the one at its end
pub record AreWhole (served : Service → Bool) (method : Method) (ms : List Machine) (end : Machine) : Type 0 where
  pub each : All (IsWholeMachine served method) ms
  pub last : IsWholeMachine served method end

-- Every machine of a run of a valid image with a valid list is valid and whole.
abbrev pub RunsAreWhole : Type 0
RunsAreWhole = (served : Service → Bool) (method : Method) (image : ImageRecord) (list : ListRecord) (n : ℕ) → IsValidImage image → HasWords image → IsValidList image list → AreWhole served method (machines served method image list n) (run served method image list n).last
