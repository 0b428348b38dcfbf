-- The law of the two methods: every run ends, and each kernel of it is valid.
use Rattle.machine_laws.proofs.Common.{ImageRecord, IsValidImage, HasWords, ListRecord, IsValidList, Deferred, Direct, Service, events_left, Machine, start, next, run}
use Rattle.std.specs.Prelude.{◌≡◌, ℕ, zero, suc, Bool, false}
use Rattle.machine_model.specs.Premises.{is_broken}
use Rattle.machine_model.specs.Run.{history}
use Rattle.machine_laws.specs.Valid.{IsValidMachine}
use Rattle.machine_laws.proofs.Lemmas.{valid-next, valid-start_machine, run-ends}
use Rattle.method_law.specs.Runs.{KernelsStayValid}
use Rattle.method_law.proofs.Runs.Premises.{runs-agree}

-- a valid machine's kernel stays valid
kernels-stay : (served : Service → Bool) (more : ℕ) (m : Machine) → IsValidMachine served Deferred m → KernelsStayValid served more m
kernels-stay served zero m v = tt
kernels-stay served (suc more) m v = (v.kernel, kernels-stay served more (next served Deferred m).1 (valid-next served Deferred m v))

pub methods-agree : (served : Service → Bool) (image : ImageRecord) (list : ListRecord) (n : ℕ) → IsValidImage image → HasWords image → IsValidList image list
    → is_broken (run served Deferred image list n) ≡ false
    → history image (run served Deferred image list n) ≡ history image (run served Direct image list n)
methods-agree served image list n v w l unbroken =
    let m = start image list in
    runs-agree served image list n (run-ends served Deferred image list n v w l).t (run-ends served Direct image list n v w l).t
    (kernels-stay served (events_left n m) m (valid-start_machine served Deferred image list v w l)) unbroken
