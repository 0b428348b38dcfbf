-- The kinds of objects stay: whatever happens to the kernel, each object is of the kind of which it was, and what the static
-- checks of a call look at is as it was. That holds of every state, valid or not, of every call, whoever makes it, and whichever
-- services are served.
use Rattle.std.specs.Prelude.{◌≡◌, ℕ, Bool, List}
use Rattle.kern_base.specs.declared.services.Service.{Service}
use Rattle.kern_model.specs.State.{Kernel, kinds_of}
use Rattle.kern_model.specs.Call.{Call}
use Rattle.kern_model.specs.Services.{effect, unit_effect, posted}
use Rattle.kern_model.specs.Finish.{finished}
use Rattle.kern_model.specs.Stop.{stopped, callback_ended}

-- A call keeps the kinds.
abbrev pub EffectKeepsKinds : Type 0
EffectKeepsKinds = (served : Service → Bool) (call : Call) (k : Kernel) → kinds_of (effect served call k).kernel ≡ kinds_of k

-- So does a post without a caller, from interrupt code or by the handler of deferred posts.
abbrev pub PostKeepsKinds : Type 0
PostKeepsKinds = (served : Service → Bool) (s : Service) (args : List ℕ) (interrupted compared : ℕ) (k : Kernel) → kinds_of (posted served s args interrupted compared k).kernel ≡ kinds_of k

-- So does a unit of the tick task or of the timer task.
abbrev pub UnitKeepsKinds : Type 0
UnitKeepsKinds = (x : ℕ) (k : Kernel) → kinds_of (unit_effect x k).kernel ≡ kinds_of k

-- So does a task that reads the result of its wait.
abbrev pub FinishKeepsKinds : Type 0
FinishKeepsKinds = (x : ℕ) (k : Kernel) → kinds_of (finished x k) ≡ kinds_of k

-- So does a trap.
abbrev pub TrapKeepsKinds : Type 0
TrapKeepsKinds = (x : ℕ) (k : Kernel) → kinds_of (stopped x k) ≡ kinds_of k

-- So does the end of a callback.
abbrev pub CallbackEndKeepsKinds : Type 0
CallbackEndKeepsKinds = (k : Kernel) → kinds_of (callback_ended k) ≡ kinds_of k
