-- The law of the two methods.
use Rattle.std.specs.Prelude.{◌≡◌, ℕ, Bool, false}
use Rattle.kern_base.specs.declared.kinds.Method.TheVariants.{Direct, Deferred}
use Rattle.kern_base.specs.declared.services.Service.{Service}
use Rattle.app_image.specs.Image.{ImageRecord, IsValidImage}
use Rattle.app_image.specs.Layout.{HasWords}
use Rattle.inject_list.specs.Lists.{ListRecord, IsValidList}
use Rattle.machine_model.specs.Premises.{is_broken}
use Rattle.machine_model.specs.Run.{run, history}

-- For every valid image, whose numbers are words as those of every image of a program are, every valid list and every number
-- of task steps: where the run by the deferred method breaks no premise, the task histories of the two runs are equal.
abbrev pub MethodsAgree : Type 0
MethodsAgree =
    (served : Service → Bool) (image : ImageRecord) (list : ListRecord) (n : ℕ) → IsValidImage image → HasWords image → IsValidList image list
    → is_broken (run served Deferred image list n) ≡ false
    → history image (run served Deferred image list n) ≡ history image (run served Direct image list n)
