-- The start of a valid image with a valid list is whole.
use Rattle.machine_laws.proofs.Common.{Bool, All, All-nil, ImageRecord, IsValidImage, HasWords, ListRecord, IsValidList, Method, Service, start}
use Rattle.kern_model.specs.Valid.{IsWord}
use Rattle.kern_laws.proofs.Lemmas.{valid-start}
use Rattle.machine_laws.specs.Whole.{IsWholeMachine}
use Rattle.machine_laws.proofs.Valid.Events.{valid-start_machine}

pub whole-start_machine : (served : Service → Bool) (method : Method) (image : ImageRecord) (list : ListRecord) → IsValidImage image → HasWords image → IsValidList image list → IsWholeMachine served method (start image list)
whole-start_machine served method image list h words l =
    record {
      valid = valid-start_machine served method image list h words l;
      kernel = valid-start image h words;
      hand = tt;
      later = All-nil (λ q. All IsWord q.args);
    }
