-- The runs by both methods, from related machines on.
use Rattle.std.specs.Prelude.{◌≡◌, ℕ, zero, suc, Bool, false}
use Rattle.kern_base.specs.declared.kinds.Method.TheVariants.{Direct, Deferred}
use Rattle.kern_base.specs.declared.services.Service.{Service}
use Rattle.kern_model.specs.Valid.{IsLinked}
use Rattle.app_image.specs.Image.{ImageRecord}
use Rattle.inject_list.specs.Lists.{ListRecord}
use Rattle.machine_model.specs.Bound.{events_left}
use Rattle.machine_model.specs.Machine.{Machine, start}
use Rattle.machine_model.specs.Premises.{is_broken}
use Rattle.machine_model.specs.Run.{run, history}
use Rattle.machine_model.specs.Rules.{next}

-- the kernel is valid before each of so many events of the deferred run
abbrev pub KernelsStayValid : (Service → Bool) → ℕ → Machine → Type 0
KernelsStayValid served zero m = Unit {0}
KernelsStayValid served (suc more) m = IsLinked m.kernel × KernelsStayValid served more (next served Deferred m).1

-- Where both runs come to their task steps, and the deferred one keeps its kernel valid and breaks no premise, the task
-- histories are equal.
abbrev pub RunsAgree : Type 0
RunsAgree =
    (served : Service → Bool) (image : ImageRecord) (list : ListRecord) (n : ℕ)
    → (run served Deferred image list n).last.t ≡ n → (run served Direct image list n).last.t ≡ n
    → KernelsStayValid served (events_left n (start image list)) (start image list)
    → is_broken (run served Deferred image list n) ≡ false
    → history image (run served Deferred image list n) ≡ history image (run served Direct image list n)
