-- A run ends: at its end there are as many task steps as were wanted, and nothing is half done.
use Rattle.std.specs.Prelude.{◌≡◌, ◌<◌, ◌≤◌, ℕ, Bool, [], length, None}
use Rattle.kern_base.specs.declared.kinds.Method.{Method}
use Rattle.kern_base.specs.declared.kinds.Method.TheVariants.{Deferred}
use Rattle.kern_base.specs.declared.services.Service.{Service}
use Rattle.app_image.specs.Image.{ImageRecord, IsValidImage}
use Rattle.inject_list.specs.Lists.{ListRecord, IsValidList}
use Rattle.machine_model.specs.Machine.{Machine}
use Rattle.machine_model.specs.Bound.{events_left}
use Rattle.machine_model.specs.Rules.{rule, next}
use Rattle.machine_model.specs.Run.{run}
use Rattle.machine_laws.specs.Isolation.{IsInterruptCode}
use Rattle.app_image.specs.Layout.{HasWords}
use Rattle.machine_laws.specs.Valid.{IsValidMachine}

-- Until there are n task steps every event leaves fewer events to come.
abbrev pub EventsLeftFall : Type 0
EventsLeftFall = (served : Service → Bool) (method : Method) (n : ℕ) (m : Machine) → IsValidMachine served method m → m.t < n → events_left n (next served method m).1 < events_left n m

-- The machine has done n task steps; it is valid, nothing is in hand, and no frame stands.
pub record HasEnded (served : Service → Bool) (method : Method) (n : ℕ) (m : Machine) : Type 0 where
  pub valid : IsValidMachine served method m
  pub t : m.t ≡ n
  pub in_hand : m.in_hand ≡ None
  pub frames : m.frames ≡ []

-- Every run of a valid image with a valid list goes on to its number of task steps, whatever tasks and interrupt code do.
abbrev pub EveryRunEnds : Type 0
EveryRunEnds = (served : Service → Bool) (method : Method) (image : ImageRecord) (list : ListRecord) (n : ℕ) → IsValidImage image → HasWords image → IsValidList image list → HasEnded served method n (run served method image list n).last

-- At most seven frames stand.
abbrev pub FewFramesStand : Type 0
FewFramesStand = (served : Service → Bool) (method : Method) (m : Machine) → IsValidMachine served method m → length m.frames ≤ 7

-- Under the deferred method no interrupt code switches to another task.
abbrev pub DeferredCodeKeepsTheTask : Type 0
DeferredCodeKeepsTheTask = (served : Service → Bool) (m : Machine) → IsValidMachine served Deferred m → IsInterruptCode (rule Deferred m) → (next served Deferred m).1.current ≡ m.current
