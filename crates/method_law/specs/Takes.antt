-- A take does what its post would have done at once.
use Rattle.std.specs.Prelude.{◌≡◌, Bool, true, false}
use Rattle.kern_base.specs.Services.{is_post}
use Rattle.kern_base.specs.declared.services.Service.{Service}
use Rattle.kern_model.specs.State.{Kernel}
use Rattle.kern_model.specs.Valid.{IsLinked}
use Rattle.app_image.specs.declared.settings.Config.{Config}
use Rattle.machine_model.specs.Queue.{Queued}
use Rattle.machine_model.specs.Machine.{TakeOf, effect_of}
use Rattle.machine_model.specs.Steps.{readies_same}
use Rattle.method_law.specs.Relation.{performed}

-- A take that readies no task of the priority that was saved with its post, where the literal insertion rule holds, does what
-- the post would have done at once.
abbrev pub TakesAsAtOnce : (Service → Bool) → Config → Queued → Kernel → Type 0
TakesAsAtOnce served config q k =
    let taken = (effect_of served config (TakeOf q) k).kernel in
    readies_same config q.saved k taken ≡ false → taken ≡ performed served q k

-- Every take of a valid kernel does so.
abbrev pub TakesAreAsAtOnce : Type 0
TakesAreAsAtOnce =
    (served : Service → Bool) (config : Config) (q : Queued) (k : Kernel) → IsLinked k → is_post q.service ≡ true → TakesAsAtOnce served config q k
